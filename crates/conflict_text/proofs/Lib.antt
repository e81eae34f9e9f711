pub mod Joining
pub mod Summing
pub mod Answering
pub mod Gathering
mod Telling
pub mod Works
