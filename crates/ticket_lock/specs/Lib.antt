pub mod Past
pub mod Known
pub mod Rule
pub mod Steps
