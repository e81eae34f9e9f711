-- Definitions to believe: the further runs of bytes at which two epochs met.
pub mod Runs
-- Which attempts of a history ended, how, and which go on; all of them, from where they began; how many they are, and what they executed.
pub mod Ends
pub mod AllAttempts
pub mod Tallies
-- What is found of a violation; what of it is summed, what parts there are, and their sums.
pub mod Findings
pub mod Keys
pub mod Rollbacks
pub mod Parts
pub mod Pairs
pub mod Sums
pub mod Kinds
pub mod PairSums
pub mod Order
pub mod Roles
-- Words of contracts: what the entries say of attempts that have been violated.
pub mod Violated
-- What is kept of the numbers and the ends of attempts, of pairs, and of all sums.
pub mod Followed
pub mod Numbers
pub mod KnownEnds
pub mod ByPair
pub mod AllSums
