-- Definitions to believe: a new bus (Fresh), what contracts see of the caches (Cached), what a speculative access answers (Answers)
pub mod Fresh
pub mod Cached
pub mod Answers
-- What the law says
pub mod Laws
-- What the code keeps: the machine's parts as a bus
pub mod CoreStates
pub mod Parts
pub mod CachedInside
