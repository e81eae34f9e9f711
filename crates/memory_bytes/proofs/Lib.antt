pub mod SmallFacts
pub mod Bytes
pub mod Shadows
pub mod Stores
