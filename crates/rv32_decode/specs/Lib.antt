-- Definitions to believe: Word (the fields of a word) and Table (the rows of RV32I, and what a word means).
pub mod Word
pub mod Table
-- Words of contracts: Refused (the printed names).
pub mod Refused
-- And how destinations and offsets are kept.
pub mod Destination
pub mod Offset
