-- Definitions to believe: what a cache and a buffer hold as lines of text (Places), rows of memory as lines of text (Rows), the line of a
-- turn and those of what a core runs (Turns); what was shown, and what of it may be otherwise: of the cores on the bus (Caches), of committed
-- memory (Memory), of the cores of a plain store (KeptRow, Kept, KeptCores); what a turn leaves as it was (Laws); the turns of a schedule as
-- text (Stepped), and that it is fixed (Fixed)
pub mod Places
pub mod Rows
pub mod Turns
pub mod Caches
pub mod Memory
pub mod KeptRow
pub mod Kept
pub mod KeptCores
pub mod Laws
pub mod Stepped
pub mod Fixed
-- Words of contracts: what was written of a text; and inside.
pub mod Writing
pub mod Passes
pub mod Telling
