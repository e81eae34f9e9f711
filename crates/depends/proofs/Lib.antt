pub mod Answering
mod Joining
pub mod OnMachines
-- A history that has a violation has an explanation.
pub mod Violations
