-- Definitions to believe: the report of a run.
pub mod Report
-- Words of contracts: what a command comes to, what it reads, and the edge of a program.
pub mod Outcome
pub mod Audit
pub mod Program
-- Addresses and stores, as words write them.
pub mod Addresses
pub mod Stores
pub mod Apart
-- What the law says.
pub mod Laws
