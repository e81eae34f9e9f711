-- One core of the bus: what its marks and its buffer say of the path of its epoch; and what a message leaves of that.
pub mod Tidy
pub mod Messages
-- The speculative accesses of a core.
pub mod Accesses
pub mod Speculating
-- A publish, straight accesses, and attempts that begin and end.
pub mod Straights
-- The lines of epochs, by their addresses on the bus.
pub mod Lines
-- The epochs that run, and the bus that has their bytes.
pub mod Epochs
-- The calls of the caches that turns make.
pub mod Calls
-- Histories without a violation, up to any place.
pub mod Calm
-- The calls that a turn makes.
pub mod Moves
-- What a turn makes of the state, the bus has too.
pub mod Seen
-- Where a turn is taken, and what it leaves.
pub mod BusTurning
-- Each kind of turn.
pub mod Turns
pub mod Homefree
-- Any turn, and all turns of a drive.
pub mod Steps
pub mod Drives
-- A loop and so many cores, without a book.
pub mod Nevers
-- What a core keeps of its epoch.
pub mod Complete
-- A turn that violates no epoch: of a state, and of a book.
pub mod Turning
pub mod Books
-- Turns of a core, one after another.
pub mod Running
-- What the window of an epoch has to say of its conflicts.
pub mod Meeting
-- How far a schedule has come.
pub mod Staging
-- The last stores of bytes, and which dependences are near.
pub mod Lasting
