-- Definitions to believe: the states of a copy, the mask of modified bytes, the tables of the protocol, and a copy beside
-- the committed line
pub mod States
pub mod Mask
pub mod Tables
pub mod Copies
-- Words of contracts: what each row of the tables does
pub mod Rows
