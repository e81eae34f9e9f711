-- What the register keeps: its fields are those of the state, and it counts what it notes.
pub mod Steps
pub mod Noting
pub mod Coming
pub mod Batches
pub mod Hurting
