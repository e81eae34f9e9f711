-- Small facts that several files use.
mod SmallFacts
-- One legal entry: the epochs that run, and that each is on its path.
pub mod Windows
pub mod Starting
pub mod Accessing
pub mod Committing
pub mod Keeping
-- Where nothing conflicts, paths are the run in order; what that run shows, and what more cores show of fewer.
pub mod InOrder
pub mod Showing
pub mod Fewer
pub mod Early
-- Whole histories: what caused a violation, and what it met.
pub mod Histories
pub mod Causes
pub mod Meetings
pub mod Violations
-- What is kept of the run in order, and how near epochs depend on each other there.
pub mod Writers
pub mod Marking
pub mod WholeWords
pub mod Following
-- Epochs past the end: each alone, and whether it conflicts.
pub mod Outside
pub mod Ending
-- The loads that depend on earlier epochs.
pub mod Flowing
pub mod Joining
mod Nearing
pub mod Readying
pub mod Running
-- Lines of the caches: who stored in them, and who reads in them.
pub mod Owning
pub mod Lining
mod Counting
mod Sharing
pub mod Buffering
pub mod Watching
mod AtHand
pub mod Caching
pub mod Words
-- What no conflict says of histories.
pub mod Nevers
pub mod Distances
