pub mod Pasts
pub mod Frames
pub mod RuleKept
pub mod Passes
pub mod Turns
