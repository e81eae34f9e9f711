-- The calls that change a store, and what a list of them leads to.
use Rattle.std.specs.Prelude.{◌≡◌, ℕ, List, [], ◌∷◌}
use Rattle.violations.specs.View.{Waits}

-- a call: its core, and its epoch, or its address, width and value
pub data Call : Type 0 where
  Reserve : Call
  Begin : ℕ → ℕ → Call
  Load : ℕ → ℕ → ℕ → Call
  Store : ℕ → ℕ → ℕ → ℕ → Call
  Publish : ℕ → Call
  StraightLoad : ℕ → ℕ → ℕ → Call
  StraightStore : ℕ → ℕ → ℕ → ℕ → Call
  Leave : ℕ → Call
  Cancel : ℕ → Call

-- these calls, one after another, make the last store of the first, where `makes` says what one call makes
abbrev pub Leads : {S : Type 0} → (S → Call → S → Type 0) → List Call → S → S → Type 0
Leads makes [] s t = t ≡ s
Leads {S} makes (call ∷ calls) s t = (u : S) × makes s call u × Leads makes calls u t

-- making room twice makes what making room once makes
abbrev pub RoomsJoin : {S : Type 0} → (S → Call → S → Type 0) → Type 0
RoomsJoin {S} makes = (s t u : S) → makes s Reserve t → makes t Reserve u → makes s Reserve u

-- from alike stores the same call leads to alike ones
abbrev pub IsFixed : {S : Type 0} → (S → Call → S → Type 0) → (S → S → Type 0) → Type 0
IsFixed {S} makes alike = (s t s' t' : S) (call : Call) → alike s s' → makes s call t → makes s' call t' → alike t t'

-- from alike stores, where the same access waits of one, it waits of the other, for the same cause
pub record FixWaits {S : Type 0} (makes : S → Call → S → Type 0) (alike : S → S → Type 0) (waits : S → Waits) : Type 0 where
  pub load : (s t s' t' : S) (core address width : ℕ) → alike s s' → makes s (Load core address width) t → makes s' (Load core address width) t'
      → (waits s).load core address width ≡ (waits s').load core address width
  pub store : (s t s' t' : S) (core address width value : ℕ) → alike s s' → makes s (Store core address width value) t → makes s' (Store core address width value) t'
      → (waits s).store core address width ≡ (waits s').store core address width

-- what a call makes where a speculative access does something else
abbrev pub but_for_accesses : Call → Type 0 → Type 0 → Type 0
but_for_accesses (Load core address width) other access = access
but_for_accesses (Store core address width value) other access = access
but_for_accesses call other access = other
