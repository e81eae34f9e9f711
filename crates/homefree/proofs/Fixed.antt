-- That a turn is fixed by the book and what its store holds.
pub mod Hurt
pub mod Outcomes
pub mod Chains
pub mod Turning
pub mod Driving
