-- What the code keeps of the stores of each core, as the entries of the history tell them.
use Rattle.std.specs.Prelude.{◌≡◌, ℕ, ◌+◌, ◌^◌, ◌<◌, ◌==◌, Bool, true, false, List, [], ◌∷◌, length, Option, Result, OnOk, if◌then◌else◌}
use Rattle.std.specs.List.{slice_index_or}
use Rattle.memory_bytes.specs.Maps.{joined, nothing, stored}
use Rattle.memory_bytes.specs.Shadow.{byte_in}
use Rattle.spec_history.specs.declared.entry.Entry.{Entry}
use Rattle.spec_history.specs.declared.entry.What.{What}
use Rattle.spec_history.specs.declared.entry.What.TheVariants.{Start, Load, Store, Hurt, Cancel, Restart, Publish, Commit, Fault}
use Rattle.spec_history.specs.FlatState.{CoreState}
use Rattle.even_speed.specs.declared.owns.Own.{Own}

-- the bytes that an attempt has stored and not committed, and whether it has published
pub record Owned : Type 0 where
  pub bytes : ℕ → Option ℕ
  pub straight : Bool

abbrev pub own_of : CoreState → Owned
own_of c = record { bytes = c.own; straight = c.straight }

-- of an attempt that begins, and of one that publishes
abbrev pub none_owned : Owned
none_owned = record { bytes = nothing; straight = false }

abbrev pub all_committed : Owned
all_committed = record { bytes = nothing; straight = true }

abbrev pub with_store : ℕ → ℕ → ℕ → Owned → Owned
with_store address width value o = record o { bytes = if o.straight then o.bytes else joined (stored address width value) o.bytes }

-- ---- entries

abbrev pub with_own : (ℕ → Owned) → ℕ → Owned → ℕ → Owned
with_own owns by now k = if k == by then now else owns k

-- an entry of a core that runs an epoch, or of an idle one that begins one
abbrev pub owned_by : (ℕ → Owned) → ℕ → What → ℕ → Owned
owned_by owns by (Start epoch) = with_own owns by none_owned
owned_by owns by (Load address width value) = owns
owned_by owns by (Store address width value) = with_own owns by (with_store address width value (owns by))
owned_by owns by (Hurt epoch) = owns
owned_by owns by (Cancel epoch) = owns
owned_by owns by Restart = with_own owns by none_owned
owned_by owns by Publish = with_own owns by all_committed
owned_by owns by Commit = owns
owned_by owns by (Fault cause pc) = owns

unfoldable pub owns_after : (ℕ → Owned) → List Entry → ℕ → Owned
owns_after owns [] = owns
owns_after owns (e ∷ entries) = owns_after (owned_by owns e.by e.what) entries

-- a store lies where addresses reach
abbrev pub IsSmall : What → Type 0
IsSmall (Store address width value) = address + width < 2 ^ 32
IsSmall what = Unit {0}

-- it is an entry of one of so many cores
pub record IsNotable (cores : ℕ) (e : Entry) : Type 0 where
  pub by : e.by < cores
  pub small : IsSmall e.what

-- ---- what is kept

abbrev pub owned : Own → Owned
owned o = record { bytes = byte_in o.bytes.cells; straight = o.straight }

abbrev pub own_at : List Own → ℕ → Owned
own_at owns k = owned (slice_index_or owns k (record { bytes = record { cells = []; room = 0 }; straight = false }))

-- the cores are as many as before, and where the call did not fail, what each has stored is this
pub record HaveStored {A E : Type 0} (result : Result A E) (old new : List Own) (owns : ℕ → Owned) : Type 0 where
  pub len : length new ≡ length old
  pub kept : OnOk result ((k : ℕ) → own_at new k ≡ owns k)

-- no core has stored anything
abbrev pub none_own : ℕ → Owned
none_own k = none_owned
