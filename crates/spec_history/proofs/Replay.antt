-- Whole histories: the laws of replay, and one list of entries after another.
pub mod Replays
pub mod Reaching
pub mod Joining
pub mod Faults
pub mod Counting
pub mod Staying
