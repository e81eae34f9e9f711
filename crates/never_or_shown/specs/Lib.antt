-- Definitions to believe: what a schedule comes to, and what conflict it shows.
pub mod Violation
pub mod Shown
-- Definitions to believe: NeverOverBus (that no schedule violates an epoch over the caches).
pub mod NeverOverBus
-- What the code keeps: the states of a history while an epoch runs alone, the turns of a drive, and how far a schedule has come.
pub mod Quiet
pub mod Drives
pub mod Windows
pub mod Ran
