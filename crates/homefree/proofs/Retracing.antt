-- The turns that a history shows make it again.
pub mod Harts
pub mod Taking
pub mod Books
