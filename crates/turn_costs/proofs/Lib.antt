-- Caches that hold the same have the same prices.
pub mod SamePrices
-- What accesses cost on the bus, by whether the core holds the line.
pub mod Pricing
-- A turn, by what its core runs.
pub mod Turning
-- It is fixed by the book.
pub mod Fixing
-- The run in order, access by access and epoch by epoch.
pub mod Ordering
-- How many instructions are executed up to an event.
pub mod Events
