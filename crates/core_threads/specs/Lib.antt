-- Definitions to believe: Sentence (what holds of the book that a run gives back) and Passes (what a pass knows and has
-- counted after turns).
pub mod Sentence
pub mod Passes
-- Words of contracts: Faults (which fault, and its printed name).
pub mod Faults
-- What the code keeps: Starting (the passes of threads that are being started), Adds (what a core does to the book while it holds
-- it) and Answered (what it does after its turn).
pub mod Starting
pub mod Adds
pub mod Answered
