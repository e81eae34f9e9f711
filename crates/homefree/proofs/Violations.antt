-- Violations: each has its cause and its kind, and over caches nobody is passed over.
pub mod Causing
pub mod Caused
pub mod Sharing
pub mod Knowing
pub mod Notices
pub mod Victims
pub mod Explaining
pub mod Ending
