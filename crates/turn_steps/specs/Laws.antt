-- What one turn of a core can change of a store: the rows that its accesses name, and the bytes that it commits.
-- Source: this project.
use Rattle.std.specs.Prelude.{◌≡◌, ◌≢◌, ◌⊎◌, ℕ, ◌+◌, ◌/◌, ◌==◌, ◌&&◌, ◌||◌, nat_le, Bool, true, false, List, Some}
use Rattle.std.specs.BTreeSet.{BTreeSet, contains}
use Rattle.std.specs.List.{list_any}
use Rattle.std.specs.Ordering.{nat_cmp}
use Rattle.spec_history.specs.declared.entry.Entry.{Entry}
use Rattle.spec_history.specs.declared.entry.What.{What}
use Rattle.spec_history.specs.declared.entry.What.TheVariants.{Load, Store, Publish, Commit, Fault}
use Rattle.violations.specs.declared.attempt.Attempt.{Attempt}
use Rattle.violations.specs.View.{StoreView}
use Rattle.turn_steps.specs.Rows.{IsSameRow}

-- the other row is this one, or one of the four before it or behind it: those have all bytes of the lines of its bytes
abbrev pub is_near : ℕ → ℕ → Bool
is_near row other = nat_le row (other + 4) && nat_le other (row + 4)

-- it loads or stores near the row
abbrev pub touches_in : ℕ → What → Bool
touches_in row (Load address width value) = is_near (address / 16) row
touches_in row (Store address width value) = is_near (address / 16) row
touches_in row what = false

abbrev pub touches : ℕ → Entry → Bool
touches row entry = touches_in row entry.what

-- it stores in the row
abbrev pub writes_in : ℕ → What → Bool
writes_in row (Store address width value) = address / 16 == row
writes_in row what = false

abbrev pub stores_in : ℕ → Entry → Bool
stores_in row entry = writes_in row entry.what

-- it commits what its core has stored
abbrev pub is_commit : What → Bool
is_commit Publish = true
is_commit Commit = true
is_commit (Fault cause pc) = true
is_commit what = false

abbrev pub commits : Entry → Bool
commits entry = is_commit entry.what

-- of a core that runs speculatively afterwards a row is as it was, unless it is the core of the turn and an entry touches the row
pub record KeepsRows (old new : StoreView) (core : ℕ) (added : List Entry) : Type 0 where
  pub same : (k row : ℕ) (x : Attempt) → new.attempt k ≡ Some x → x.straight ≡ false → (k ≢ core) ⊎ (list_any (touches row) added ≡ false) → IsSameRow old new k row

-- committed bytes are as they were where no entry stores in the row, unless one commits and the core has stored the byte
pub record KeepsMemory (old new : StoreView) (core : ℕ) (added : List Entry) : Type 0 where
  pub same : (row a : ℕ) → a / 16 ≡ row → list_any (stores_in row) added ≡ false → (list_any commits added ≡ false) ⊎ (old.own core a ≡ false)
      → new.committed a ≡ old.committed a

-- ---- sets of rows

-- the set has these rows besides
abbrev pub Adds : BTreeSet ℕ → BTreeSet ℕ → (ℕ → Bool) → Type 0
Adds old new rows = (row : ℕ) → contains nat_cmp new row ≡ (contains nat_cmp old row || rows row)
