-- Definitions to believe: what cores and memory hold (Bus), when that is coherent (Coherent), what a message makes of it
-- (Messages), what each call makes of it (Attempts, Speculative, Straight), what a store of speculative epochs shows of it (Views)
pub mod Bus
pub mod Coherent
pub mod Messages
pub mod Attempts
pub mod Speculative
pub mod Straight
pub mod Views
