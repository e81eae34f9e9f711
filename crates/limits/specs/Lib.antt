-- Definitions to believe: Limits (in how few steps cores can run the loop), Bound (that no run at even speed takes fewer), and HeldBound (that a
-- run in which loads wait for stores in order takes no more).
pub mod Limits
pub mod Bound
pub mod HeldBound
-- What the code keeps.
pub mod Kept
