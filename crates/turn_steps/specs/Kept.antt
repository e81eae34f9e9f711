-- What was shown of what a core of a plain store keeps, and what of it may be otherwise now.
-- Source: this project.
use Rattle.std.specs.Prelude.{◌≡◌, ℕ, ◌*◌, ◌<◌, ◌==◌, Bool, true, false, not, List, Option, Some, None, unwrap_or}
use Rattle.std.specs.BTreeMap.{is_at}
use Rattle.std.specs.BTreeSet.{BTreeSet, contains}
use Rattle.std.specs.Map.{lookup}
use Rattle.std.specs.Ordering.{nat_cmp}
use Rattle.violations.specs.declared.attempt.Attempt.{Attempt}
use Rattle.violations.specs.View.{StoreView}
use Rattle.turn_steps.specs.declared.kept_row.KeptRow.{KeptRow}
use Rattle.turn_steps.specs.KeptRow.{kept_of, kept_row_text, nothing}
use Rattle.turn_steps.specs.Places.{changed}
use Rattle.turn_steps.specs.Rows.{IsSameRow, mask_from, row_count}

-- what was shown of a row: nothing where there is no entry for its number
abbrev pub row_at : List (ℕ × KeptRow) → ℕ → KeptRow
row_at shown row = unwrap_or (lookup (is_at (nat_cmp row)) shown) nothing

-- this is what the core keeps
pub record ShowsKept (v : StoreView) (core : ℕ) (shown : List (ℕ × KeptRow)) : Type 0 where
  pub row : (r : ℕ) → r < row_count v → row_at shown r ≡ kept_of v core r

-- it runs an attempt that isn't straight
abbrev pub is_speculative : Option Attempt → Bool
is_speculative None = false
is_speculative (Some attempt) = not attempt.straight

-- where the core is speculative, it keeps what it kept, but for these rows
pub record IsKeptBut (rows : BTreeSet ℕ) (old new : StoreView) (core : ℕ) : Type 0 where
  pub size : new.shape.size ≡ old.shape.size
  pub same : is_speculative (new.attempt core) ≡ true → (row : ℕ) → row < row_count old → contains nat_cmp rows row ≡ false
      → IsSameRow old new core row

-- it has stored a byte of the row
abbrev pub owns_in : StoreView → ℕ → ℕ → Bool
owns_in v core row = not (mask_from (v.own core) (16 * row) 16 == 0)

-- the line of a row that was shown, where it is otherwise now
abbrev pub kept_change : ℕ → (ℕ → KeptRow) → ℕ → KeptRow → List ℕ
kept_change core now row shown = changed (kept_row_text core row shown) (kept_row_text core row (now row))
