-- Definitions to believe: the attempts of a history, what an explanation says, whom it blames, what became of it, which instruction
-- an entry is of, and what the law says.
pub mod Attempts
pub mod Later
pub mod Explained
pub mod Blame
pub mod Fates
pub mod Sites
pub mod Laws
-- What the code asks of bytes and lines, and of a violation.
pub mod Parties
pub mod Ahead
pub mod Behind
pub mod Violated
