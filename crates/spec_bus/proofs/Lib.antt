mod CoreCopies
mod CommittedMemory
mod Rooms
pub mod SameRooms
mod Placing
mod Laying
mod Making
pub mod Bytes
mod Surveys
mod Tellings
mod Moving
mod Answering
mod Keeping
mod Idle
mod Unions
mod PublishLoop
mod StraightMoves
