-- Small facts that several files use.
mod SmallFacts
-- An epoch on its path, and over two memories.
pub mod Paths
pub mod Alike
pub mod Following
pub mod Outside
-- The run in order.
pub mod InOrder
-- Cores that run epochs.
pub mod Cores
-- The pieces of memory in which epochs store.
mod Noting
