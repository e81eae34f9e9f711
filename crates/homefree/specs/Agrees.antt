-- What a store has in step with a state of the flat machine.
use Rattle.std.specs.Prelude.{◌≡◌, ℕ, true, false, Option, Some, None, is_some}
use Rattle.memory_bytes.specs.Maps.{over}
use Rattle.spec_history.specs.FlatState.{CoreState, FlatState}
use Rattle.violations.specs.View.{StoreView, attempt_of, line_of}

-- it has read from outside a byte of the line of this one; without caches, this one itself
pub record HasReadIn (v : StoreView) (c : CoreState) (a : ℕ) : Type 0 where
  pub at : ℕ
  pub in_line : line_of v.shape at ≡ line_of v.shape a
  pub read : is_some (c.outside at) ≡ true
  pub itself : v.cached ≡ false → at ≡ a

-- a core that runs an epoch and isn't hurt
pub record AgreesCore (committed : ℕ → ℕ) (v : StoreView) (k : ℕ) (c : CoreState) : Type 0 where
  pub attempt : v.attempt k ≡ Some (attempt_of c.epoch c.straight)
  -- it sees its own bytes over the committed ones, and the store keeps just these for it
  pub sees : (a : ℕ) → v.sees k a ≡ over c.own committed a
  pub own : (a : ℕ) → v.own k a ≡ is_some (c.own a)
  -- the store guards what it has read from outside, and beside it none but bytes of lines from which it has read, if there are caches
  pub guards_read : (a byte : ℕ) → c.outside a ≡ Some byte → v.guarded k a ≡ true
  pub guards_only : (a : ℕ) → v.guarded k a ≡ true → HasReadIn v c a

-- any core: one that is idle or hurt has no attempt
pub record AgreesAt (committed : ℕ → ℕ) (v : StoreView) (k : ℕ) (core : Option CoreState) : Type 0 where
  pub idle : core ≡ None → v.attempt k ≡ None
  pub hurt : (c : CoreState) → core ≡ Some c → c.hurt ≡ true → v.attempt k ≡ None
  pub runs : (c : CoreState) → core ≡ Some c → c.hurt ≡ false → AgreesCore committed v k c

-- committed memory always; the cores until the loop is over
pub record Agrees (s : FlatState) (v : StoreView) : Type 0 where
  pub committed : (a : ℕ) → v.committed a ≡ s.committed a
  pub core : s.end ≡ None → (k : ℕ) → AgreesAt s.committed v k (s.cores k)
