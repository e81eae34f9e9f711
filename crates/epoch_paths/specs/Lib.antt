-- Definitions to believe: Paths (an epoch alone, what it stores, and what it reads from outside), InOrder (memory before each epoch,
-- and which epochs run), Flow (what a load that reads from outside depends on), Lengths (how many instructions an epoch executes) and
-- Stored (where epochs store).
pub mod Paths
pub mod InOrder
pub mod Flow
pub mod Lengths
pub mod Stored
-- What the code keeps.
pub mod Kept
pub mod KeptPieces
