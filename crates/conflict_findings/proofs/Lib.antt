pub mod Marking
pub mod Growing
pub mod Losing
pub mod Ahead
pub mod Noting
pub mod Counting
mod Beginning
mod RunsBelow
mod Loading
mod OneRun
mod Searching
mod Seeking
mod Tallying
mod Balance
mod Adding
mod Apart
mod Parting
mod Listing
mod Keyed
mod Grouping
mod Pushing
mod Kinded
mod Placing
mod Pairing
mod BothRoles
