-- Words of contracts.
pub mod Request
pub mod Work
