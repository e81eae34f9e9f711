pub mod Changing
pub mod Plains
pub mod Calls
pub mod Accesses
pub mod Publishing
pub mod Opening
pub mod Fixed
pub mod Relabelling
