-- Definitions to believe: what actions cost (Costs, Actions), what accesses do on a bus (Accesses), what a store's calls do (Prices), what a
-- turn does (Turns), the steps of the loop in order (Order), and
-- that what a turn does is fixed (Fixed)
pub mod Costs
pub mod Actions
pub mod Accesses
pub mod Prices
pub mod Turns
pub mod Order
pub mod Fixed
