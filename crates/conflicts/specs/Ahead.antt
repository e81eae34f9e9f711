-- What the code keeps of the stores that an attempt has ahead of it.
use Rattle.std.specs.Prelude.{◌≡◌, ◌⊎◌, ℕ, ◌+◌, ◌<◌, ◌≤◌, ◌==◌, ◌&&◌, ◌||◌, Bool, List, length, true, Option, Some, None, nat_le, nat_lt, slice_get, if◌then◌else◌}
use Rattle.std.specs.BTreeMap.{get}
use Rattle.std.specs.List.{Contains}
use Rattle.std.specs.List.Sorted.{IsSorted}
use Rattle.std.specs.declared.cmp.Ordering.{Ordering}
use Rattle.std.specs.Ordering.{nat_cmp, ordering_then}
use Rattle.spec_history.specs.declared.entry.Entry.{Entry}
use Rattle.spec_history.specs.Searches.{IsNext}
use Rattle.conflicts.specs.declared.ahead.Ahead.{Ahead}
use Rattle.conflicts.specs.declared.ahead.Stores.{Stores}
use Rattle.conflicts.specs.Attempts.{core_does, is_begin, stores_byte}

-- the core stores to the byte at the place
abbrev pub StoresTo : List Entry → ℕ → ℕ × ℕ → Type 0
StoresTo entries core x = core_does entries core x.1 (stores_byte x.0) ≡ true

-- a list of bytes with the places of their stores has each store that stands after one place and before another, and no other
pub record AreStored (size : ℕ) (entries : List Entry) (core after end : ℕ) (bytes : List (ℕ × ℕ)) : Type 0 where
  pub only : (x : ℕ × ℕ) → Contains bytes x → (after < x.1) × (x.1 < end) × StoresTo entries core x
  pub each : (a place : ℕ) → a < size → after < place → place < end → StoresTo entries core (a, place) → Contains bytes (a, place)

-- the bytes of one place more
pub record IsExtended (size : ℕ) (entries : List Entry) (core place : ℕ) (old new : List (ℕ × ℕ)) : Type 0 where
  pub kept : (x : ℕ × ℕ) → Contains old x → Contains new x
  pub only : (x : ℕ × ℕ) → Contains new x → Contains old x ⊎ ((x.1 ≡ place) × StoresTo entries core x)
  pub each : (a : ℕ) → a < size → StoresTo entries core (a, place) → Contains new (a, place)

-- by the byte, and then by the place
abbrev pub byte_order : ℕ × ℕ → ℕ × ℕ → Ordering
byte_order x y = ordering_then (nat_cmp x.0 y.0) (nat_cmp x.1 y.1)

-- it stands before the stores to this byte after a place
abbrev pub is_before : ℕ → ℕ → ℕ × ℕ → Bool
is_before addr after x = nat_lt x.0 addr || ((x.0 == addr) && nat_le x.1 after)

-- the place of the store with an index, if it is one to this byte
abbrev pub place_in : Option (ℕ × ℕ) → ℕ → Option ℕ
place_in None addr = None
place_in (Some x) addr = if x.0 == addr then Some x.1 else None

abbrev pub place_of : List (ℕ × ℕ) → ℕ → ℕ → Option ℕ
place_of bytes index addr = place_in (slice_get bytes index) addr

-- the stores of a core that stand after a place and before it begins another attempt, in order
pub record AreAhead (size : ℕ) (entries : List Entry) (core : ℕ) (stores : Stores) : Type 0 where
  pub end : IsNext (λ j. core_does entries core j is_begin) (stores.after + 1) (length entries) stores.end
  pub stored : AreStored size entries core stores.after stores.end stores.bytes.items
  pub ordered : IsSorted byte_order stores.bytes.items

-- what is kept of each core is so
abbrev pub IsAhead : ℕ → List Entry → Ahead → Type 0
IsAhead size entries ahead = (core : ℕ) (stores : Stores) → get nat_cmp ahead.found core ≡ Some stores → AreAhead size entries core stores

-- the stores of a core that stand after a place are among those that are kept
pub record IsFound (ahead : Ahead) (core after : ℕ) : Type 0 where
  pub stores : Stores
  pub is : get nat_cmp ahead.found core ≡ Some stores
  pub from : stores.after ≤ after
  pub before : after < stores.end
