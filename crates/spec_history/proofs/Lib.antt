pub mod OneEntry
pub mod Replay
pub mod CodedCores
pub mod Searches
