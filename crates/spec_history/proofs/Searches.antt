-- What a loop over bytes or cores has found.
pub mod Tests
pub mod Missing
pub mod Lines
