-- Definitions to believe: what is measured of a run, what a line says, the lines of the limits, up to which costs it gains, and which lines are written.
pub mod Kinds
pub mod Measured
pub mod Text
pub mod Lines
pub mod Limits
pub mod Evens
pub mod Gains
-- What the words of a command line ask for, and what the program answers them.
pub mod Asked
pub mod Work
