-- The cores of the code, and the states that they stand for.
pub mod CoreStates
pub mod Parts
pub mod Performed
pub mod Changing
