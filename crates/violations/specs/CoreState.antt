-- What a plain store keeps of a core.
use Rattle.std.specs.Prelude.{◌≡◌, ◌≢◌, ℕ, ◌*◌, ◌≤◌, Bool, true, false, List, length, Option, Some, None, is_some, slice_get}
use Rattle.memory_bytes.specs.Shadow.{byte_in}
use Rattle.violations.specs.declared.attempt.Attempt.{Attempt}
use Rattle.violations.specs.declared.core_state.CoreState.{CoreState}

-- it keeps no cell past memory's end
pub record IsWithin (size : ℕ) (state : CoreState) : Type 0 where
  pub own : length state.own.cells ≤ size
  pub guarded : length state.guarded.cells ≤ size

-- there is a cell for each byte of memory, and room for the bytes of so many accesses
pub record HasRoom (size accesses : ℕ) (state : CoreState) : Type 0 where
  pub own_cells : size ≤ length state.own.cells
  pub guarded_cells : size ≤ length state.guarded.cells
  pub own : 4 * accesses ≤ state.own.room
  pub guarded : 4 * accesses ≤ state.guarded.room

pub record KeepsNothing (state : CoreState) : Type 0 where
  pub own : (a : ℕ) → byte_in state.own.cells a ≡ None
  pub guarded : (a : ℕ) → byte_in state.guarded.cells a ≡ None

abbrev pub straightened : Attempt → Attempt
straightened attempt = record attempt { straight = true }

-- it runs nothing, and keeps nothing
pub record IsIdle (state : CoreState) : Type 0 where
  pub attempt : state.attempt ≡ None
  pub keeps : KeepsNothing state

-- all but the room is the same
pub record IsSameState (old new : CoreState) : Type 0 where
  pub attempt : new.attempt ≡ old.attempt
  pub own : (a : ℕ) → byte_in new.own.cells a ≡ byte_in old.own.cells a
  pub guarded : (a : ℕ) → byte_in new.guarded.cells a ≡ byte_in old.guarded.cells a

-- ---- the states of all cores

pub record AreWithin (size : ℕ) (states : List CoreState) : Type 0 where
  pub each : (k : ℕ) (state : CoreState) → slice_get states k ≡ Some state → IsWithin size state

pub record HaveRoom (size accesses : ℕ) (states : List CoreState) : Type 0 where
  pub each : (k : ℕ) (state : CoreState) → slice_get states k ≡ Some state → HasRoom size accesses state

-- each is idle, and within memory
pub record AreIdle (size : ℕ) (states : List CoreState) : Type 0 where
  pub each : (k : ℕ) (state : CoreState) → slice_get states k ≡ Some state → IsIdle state × IsWithin size state

-- all but the room is the same
pub record AreSame (old new : List CoreState) : Type 0 where
  pub long : length new ≡ length old
  pub each : (k : ℕ) (was is : CoreState) → slice_get old k ≡ Some was → slice_get new k ≡ Some is → IsSameState was is

abbrev pub bytes_in : List (Option ℕ) → ℕ → Bool
bytes_in cells a = is_some (byte_in cells a)

-- it runs an attempt that guards one of these bytes
pub record GuardsOne (bytes : ℕ → Bool) (state : CoreState) : Type 0 where
  pub runs : is_some state.attempt ≡ true
  pub at : ℕ
  pub byte : bytes at ≡ true
  pub guarded : is_some (byte_in state.guarded.cells at) ≡ true

-- they are exactly the other cores that run an attempt which guards one of these bytes
pub record AreReaders (core : ℕ) (bytes : ℕ → Bool) (states : List CoreState) (hurt : ℕ → Bool) : Type 0 where
  pub others : hurt core ≡ false
  pub run : (k : ℕ) → hurt k ≡ true → (state : CoreState) × (slice_get states k ≡ Some state) × GuardsOne bytes state
  pub spared : (k a : ℕ) (state : CoreState) → k ≢ core → hurt k ≡ false → slice_get states k ≡ Some state → is_some state.attempt ≡ true
      → bytes a ≡ true → byte_in state.guarded.cells a ≡ None

-- these cores are idle, and the others as they were
pub record AreDropped (hurt : ℕ → Bool) (old new : List CoreState) : Type 0 where
  pub long : length new ≡ length old
  pub dropped : (k : ℕ) (state : CoreState) → hurt k ≡ true → slice_get new k ≡ Some state → IsIdle state
  pub kept : (k : ℕ) → hurt k ≡ false → slice_get new k ≡ slice_get old k
  pub within : (size : ℕ) → AreWithin size old → AreWithin size new
  pub room : (size accesses : ℕ) → HaveRoom size accesses old → HaveRoom size accesses new
