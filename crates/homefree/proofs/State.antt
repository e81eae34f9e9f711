-- The state of the flat machine beside the store: the entries of a turn are legal, and the two agree afterwards.
pub mod Legality
pub mod HurtsReplay
pub mod CancelsReplay
pub mod Others
pub mod Accesses
pub mod Arms
pub mod Ends
