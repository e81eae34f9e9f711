-- Definitions to believe: the state, what an entry does, when it is refused, histories and their counts, what the laws say, numbers that
-- pass a test, and what a violation was about.
pub mod FlatState
pub mod Effect
pub mod Refusal
pub mod Replay
pub mod Laws
pub mod Searches
pub mod Conflict
-- Words of contracts: names, and what callers see of the flat machine.
pub mod Names
pub mod View
-- What the code keeps, and what it stands for.
pub mod Cores
pub mod Machine
pub mod FlatInside
