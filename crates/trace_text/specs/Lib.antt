-- Definitions to believe: the lines of a trace, and what a trace text says.
pub mod Printing
pub mod TraceText
-- Words of contracts: what the reader answers.
pub mod Reading
-- What the code finds.
pub mod Front
pub mod Keywords
pub mod Accesses
-- What the laws say.
pub mod Laws
