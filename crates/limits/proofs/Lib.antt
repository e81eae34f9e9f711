-- An epoch's run stops once.
pub mod Stopping
-- Steps that are as early as they can be, one epoch after another; and that no others are earlier.
pub mod Extending
pub mod Least
-- One epoch in order, and what is kept of it.
pub mod Running
-- What is kept of a run at even speed so far, and what keeps it: time goes on, cores are hurt, one runs on, begins, or comes to its next event.
pub mod Marks
pub mod Marking
pub mod Owners
pub mod Beginning
pub mod Events
-- A core stays on the path of its epoch; an epoch commits; and the loop's end.
pub mod Pathing
pub mod Leaving
pub mod Finishing
-- Each kind of turn, all of them, and the turns of a run one after another.
pub mod Acting
pub mod Publishing
pub mod Turns
pub mod Bounding
-- A run in which each load waits for what earlier epochs store in order: no core is hurt, and each step is as early as it can be.
pub mod Unstored
pub mod Quiet
pub mod QuietTurns
pub mod Lossless
pub mod QuietRuns
pub mod HeldRuns
pub mod Awaiting
pub mod Plans
pub mod Dues
pub mod Planning
pub mod Limited
