-- Definitions to believe: Bytes (numbers in bytes) and Maps (bytes over memory).
pub mod Bytes
pub mod Maps
-- Words of contracts, and what the code keeps.
pub mod Shadow
