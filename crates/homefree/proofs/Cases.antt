-- From what the register noted and what the store did to each case of a turn.
pub mod Acting
pub mod Moving
pub mod Standing
pub mod Accessing
pub mod GoingStraight
pub mod Ending
pub mod Cancelling
pub mod Exiting
