-- Definitions to believe: Faults (the causes), Hart (a hart and its start), Execute (what one instruction does), NextEvent
-- (the next access, end or fault) and Sequential (an epoch, the loop, published memory).
pub mod Faults
pub mod Hart
pub mod Execute
pub mod NextEvent
pub mod Sequential
-- Words of contracts: Arrival (what `advance` answers), Notes (what is told of a run) and Laws (what the laws say).
pub mod Arrival
pub mod Notes
pub mod Laws
-- What the code keeps: Registers (those of a hart) and Interpreter (how its loop runs).
pub mod Registers
pub mod Interpreter
