-- Definitions to believe: View (what contracts see of a store, what every store keeps, conditions of calls), Rule (what each call
-- does), CoreSet (sets of cores) and Calls (lists of calls, and that they fix what a store holds).
pub mod View
pub mod Rule
pub mod CoreSet
pub mod Calls
-- Of places, where bytes have lines of their own: Relabelled.
pub mod Relabelled
-- Words of contracts: Answers (what a speculative access answers), Plain (the plain store's view, and whom it violates).
pub mod Answers
pub mod Plain
-- What the code keeps.
pub mod CoreState
pub mod PlainInside
