-- What the code keeps of the accesses that attempts have behind them.
use Rattle.std.specs.Prelude.{◌≡◌, ℕ, ◌<◌, ◌&&◌, Bool, true, false, List, Option, Some, is_some, unwrap_or, nat_le, nat_lt}
use Rattle.std.specs.BTreeMap.{get}
use Rattle.std.specs.Ordering.{nat_cmp}
use Rattle.spec_history.specs.declared.entry.Entry.{Entry}
use Rattle.conflicts.specs.declared.behind.Accesses.{Accesses}
use Rattle.conflicts.specs.declared.behind.Behind.{Behind}
use Rattle.conflicts.specs.declared.known.Known.{Known}
use Rattle.conflicts.specs.Ahead.{IsAhead}
use Rattle.conflicts.specs.Attempts.{attempt_place, first_read, last_store}

-- from the first of these up to the second
abbrev pub is_within : ℕ → ℕ → ℕ → Bool
is_within first end a = nat_le first a && nat_lt a end

-- the place that was noted first, where there is one more
abbrev pub kept_first : Bool → Option ℕ → ℕ → Option ℕ
kept_first true noted place = Some (unwrap_or noted place)
kept_first false noted place = noted

-- the place that was noted last
abbrev pub kept_last : Bool → Option ℕ → ℕ → Option ℕ
kept_last true noted place = Some place
kept_last false noted place = noted

-- of each byte of memory, the first load by which the attempt of a core read it from outside before a place, and the last store to it
pub record AreBehind (size : ℕ) (entries : List Entry) (core : ℕ) (x : Accesses) : Type 0 where
  pub begun_is : x.begun ≡ is_some (attempt_place entries core x.place)
  pub reads_are : (a : ℕ) → a < size → get nat_cmp x.reads a ≡ first_read entries core x.place a
  pub stores_are : (a : ℕ) → a < size → get nat_cmp x.stores a ≡ last_store entries core x.place a

-- what is kept of each core is so
abbrev pub IsBehind : ℕ → List Entry → Behind → Type 0
IsBehind size entries behind = (core : ℕ) (x : Accesses) → get nat_cmp behind.found core ≡ Some x → AreBehind size entries core x

-- and so is what is kept of the stores ahead
pub record IsKnown (size : ℕ) (entries : List Entry) (known : Known) : Type 0 where
  pub ahead_is : IsAhead size entries known.ahead
  pub behind_is : IsBehind size entries known.behind
