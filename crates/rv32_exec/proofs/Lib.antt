pub mod Places
pub mod Steps
pub mod Runs
pub mod Arrivals
pub mod Interpreting
pub mod Epochs
pub mod LawsOfRuns
pub mod Accesses
