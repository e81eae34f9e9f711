-- Small facts that several files use, and the crates above.
pub mod SmallFacts
-- The entries of each turn are legal, and store and state agree afterwards.
pub mod State
-- What the register keeps are the fields of the state.
pub mod Fields
-- Each case of a turn, from what the register noted and what the store did.
pub mod Cases
-- What each violation is about.
pub mod Violations
-- Whole books and drives; of them `Following`, `Drives`, `Tallies` and `Unstopped` are for the crates above.
pub mod Books
-- A turn and a drive are fixed by the book and what its store holds.
pub mod Fixed
-- The turns that a history shows make it again.
pub mod Retracing
