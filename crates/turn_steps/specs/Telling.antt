-- What the code keeps of a loop while it tells its turns.
use Rattle.std.specs.Prelude.{◌≡◌, ℕ, List, ◌++◌, length, Option}
use Rattle.spec_history.specs.declared.entry.Entry.{Entry}
use Rattle.violations.specs.declared.attempt.Attempt.{Attempt}
use Rattle.violations.specs.View.{Shape, StoreView}
use Rattle.homefree.specs.BookView.{BookView}
use Rattle.turn_steps.specs.Laws.{KeepsMemory, KeepsRows}
use Rattle.turn_steps.specs.Memory.{ShowsMemory}
use Rattle.turn_steps.specs.Rows.{row_count}
use Rattle.turn_steps.specs.Stepped.{attempt_in}

-- what was shown is of a store of this shape
pub record Fits {S H : Type 0} (view : S → StoreView) (fits : H → Shape → Type 0) (store : H) (memory : List (List ℕ)) (now : S) : Type 0 where
  pub store_fits : fits store (view now).shape
  pub memory_fits : length memory ≡ row_count (view now)

-- it is what the store holds
pub record IsCurrent {S H : Type 0} (view : S → StoreView) (fits : H → Shape → Type 0) (shows : H → S → Type 0) (store : H) (memory : List (List ℕ)) (b : BookView S) : Type 0 where
  pub store_fits : fits store (view b.store).shape
  pub store_is : shows store b.store
  pub memory_is : ShowsMemory (view b.store) memory

-- it is what the store held before a turn of this core, which added these entries
pub record Leads {S H : Type 0} (view : S → StoreView) (shows : H → S → Type 0) (store : H) (memory : List (List ℕ)) (core : ℕ) (old now : S) (added : List Entry) : Type 0 where
  pub store_is : shows store old
  pub memory_is : ShowsMemory (view old) memory
  pub shape : (view now).shape ≡ (view old).shape
  pub rows : KeepsRows (view old) (view now) core added
  pub committed : KeepsMemory (view old) (view now) core added

-- the same of a book
pub record Follows {S H : Type 0} (view : S → StoreView) (shows : H → S → Type 0) (store : H) (memory : List (List ℕ)) (core : ℕ) (old now : BookView S) (added : List Entry) : Type 0 where
  pub history : now.history ≡ old.history ++ added
  pub leads : Leads view shows store memory core old.store now.store added

-- so many entries there were, and this each core ran
pub record IsBefore {S : Type 0} (view : S → StoreView) (entries : ℕ) (attempts : List (Option Attempt)) (old : BookView S) : Type 0 where
  pub entries_are : entries ≡ length old.history
  pub attempts_are : (k : ℕ) → attempt_in attempts k ≡ (view old.store).attempt k
