-- Definitions to believe: Agrees (what a store has in step with a state of the flat machine), Turned (what a turn does), with
-- Hurts (the entries of a turn that hurts or cancels other cores) and Counted (what a history counts), InStep (what holds
-- of every book) with Caused (that each violation has its cause and is of a kind, and without caches meets in a byte), Ending
-- (that none starts once one is cancelled), Missed (that over caches nobody is passed over), Driven (turns by a list of core
-- numbers), and Retraced (that the turns which a history shows make it again).
pub mod Agrees
pub mod Hurts
pub mod Counted
pub mod Turned
pub mod Missed
pub mod Caused
pub mod Ending
pub mod InStep
pub mod Driven
pub mod Retraced
-- Words of contracts: BookView (what contracts see of a book), LockView (what a lock keeps of it), Room (how many entries it may have) and
-- Names (printed names).
pub mod BookView
pub mod LockView
pub mod Room
pub mod Names
-- What the code keeps.
pub mod Kept
pub mod Steps
pub mod AtStop
pub mod Acted
pub mod Came
pub mod Moves
pub mod Standing
pub mod Fixed
pub mod DriveFixed
pub mod Noted
pub mod Arms
pub mod Takes
pub mod Again
pub mod Grown
pub mod BookInside
pub mod Held
