-- Definitions to believe: how a run is asked for, which loops can be run, what a run prints, and what the command comes to.
pub mod Options
pub mod Runnable
pub mod Run
pub mod Threads
-- What the law says.
pub mod Laws
