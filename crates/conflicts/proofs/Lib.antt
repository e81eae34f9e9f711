pub mod Backwards
pub mod Blaming
mod Listed
pub mod Explaining
pub mod Finding
mod Pairing
mod Needed
mod Between
pub mod Growing
pub mod Nearing
pub mod Numbering
mod Storing
mod Signs
mod Walking
pub mod Reading
mod LineBytes
