-- One legal entry: what it tells, and what it keeps.
pub mod Progress
pub mod Legal
pub mod Keeping
pub mod Accesses
pub mod Going
pub mod Entries
