-- Lines of every length; an access lies in one line.
pub mod Addresses
pub mod InLine
-- A copy; what a notice makes of it; a core; a core that hears a message.
pub mod Copies
pub mod Replies
pub mod Cores
pub mod Heard
-- Coherence against given committed lines, and that these are the committed ones.
pub mod Coherence
pub mod Committed
-- The general laws behind each call that tells others, and behind the others.
pub mod Sending
pub mod Quiet
pub mod QuietCalls
-- The coherence of each call.
pub mod Opening
pub mod Accesses
pub mod Publishing
pub mod StraightAccesses
-- Who is spared, whom a call violates, what a core owns and guards.
pub mod Showing
pub mod Hurting
pub mod Guarding
pub mod Violating
-- The attempts stay ordered; `settled`.
pub mod Ordered
-- The store's rule of each call.
pub mod AttemptRules
pub mod Taking
pub mod LoadRule
pub mod StoreRule
pub mod PublishRule
pub mod StraightRules
