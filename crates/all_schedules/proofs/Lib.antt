pub mod Every
pub mod Drives
pub mod Evens
pub mod Draws
pub mod Seeds
pub mod Fixed
