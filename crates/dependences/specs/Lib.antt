-- Definitions to believe: Conflict (what can roll back at all), Shared (buffers that are too small for lines that others touch), Laws
-- (what the laws take, and what they say), Nearest (how near epochs depend on each other in order), Flow (the loads that depend on
-- earlier epochs), Pairs (the instructions that these join), Lengths (how many instructions epochs execute) and OverCaches (what one
-- run shows of all these).
pub mod Conflict
pub mod Shared
pub mod Laws
pub mod Nearest
pub mod Flow
pub mod Pairs
pub mod Summed
pub mod Lengths
pub mod OverCaches
-- What the code keeps.
pub mod Kept
pub mod KeptMarks
pub mod KeptStores
pub mod KeptBytes
pub mod KeptWords
pub mod KeptLast
pub mod KeptRun
pub mod KeptPairs
pub mod KeptOwn
pub mod KeptLines
pub mod KeptTouches
pub mod KeptWatch
