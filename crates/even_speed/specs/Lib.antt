-- Definitions to believe: where steps go, what a turn costs and when it begins, what a core's clock does, when a core is held, the run of turns, how
-- many steps the loop takes in order, that the run is fixed, and that costs of 0 change nothing.
pub mod Account
pub mod Pricing
pub mod Clocks
pub mod Held
pub mod Even
pub mod InOrder
pub mod Fixed
pub mod ZeroCosts
-- Words of contracts: what the code keeps of the loads that wait and of the cores, what is kept of the clocks along a run, what a turn makes of the cores, and why a run
-- ends.
pub mod Grain
pub mod Holds
pub mod Seats
pub mod Owns
pub mod Kept
pub mod Timed
pub mod Lasting
