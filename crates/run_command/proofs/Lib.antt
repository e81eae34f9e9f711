pub mod AnyMachine
pub mod Committing
pub mod Printing
pub mod Stopping
pub mod Outcomes
pub mod Machines
pub mod Lengths
pub mod RunLegal
