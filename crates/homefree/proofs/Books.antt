-- Whole books: their turns, what follows from a turn, and drives.
pub mod Tallies
pub mod Entries
pub mod Turns
pub mod NeverAgain
pub mod Following
pub mod Drives
pub mod Unstopped
pub mod Over
