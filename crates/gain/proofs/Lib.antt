pub mod Adds
pub mod Evens
pub mod Answering
pub mod Words
pub mod Waiting
pub mod Waitings
