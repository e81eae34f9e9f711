-- What was shown of committed memory, and what of it may be otherwise now.
-- Source: this project.
use Rattle.std.specs.Prelude.{◌≡◌, ℕ, ◌+◌, ◌*◌, ◌<◌, false, List, [], length}
use Rattle.std.specs.BTreeSet.{BTreeSet, contains}
use Rattle.std.specs.List.{slice_index_or}
use Rattle.std.specs.Ordering.{nat_cmp}
use Rattle.violations.specs.View.{StoreView}
use Rattle.turn_steps.specs.Places.{changed}
use Rattle.turn_steps.specs.Rows.{at_text, bytes_from, row_count}

-- the bytes of a row
abbrev pub row_of : (ℕ → ℕ) → ℕ → List ℕ
row_of committed row = bytes_from committed (16 * row) 16

abbrev pub shown_row : List (List ℕ) → ℕ → List ℕ
shown_row rows row = slice_index_or rows row []

-- the rows are those of committed memory
pub record ShowsMemory (v : StoreView) (rows : List (List ℕ)) : Type 0 where
  pub long : length rows ≡ row_count v
  pub row : (r : ℕ) → r < row_count v → shown_row rows r ≡ row_of v.committed r

-- committed memory is as it was but for these rows
pub record IsMemoryBut (rows : BTreeSet ℕ) (old new : StoreView) : Type 0 where
  pub shape : new.shape ≡ old.shape
  pub same : (row i : ℕ) → row < row_count old → contains nat_cmp rows row ≡ false → i < 16
      → new.committed (16 * row + i) ≡ old.committed (16 * row + i)

-- the line of a row that was shown, where it is otherwise now
abbrev pub at_change : (ℕ → ℕ) → ℕ → List ℕ → List ℕ
at_change committed row shown = changed (at_text row shown) (at_text row (row_of committed row))
