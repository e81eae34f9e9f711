-- What the cores of a plain store keep, as text.
-- Source: this project.
use Rattle.std.specs.Prelude.{◌≡◌, ℕ, zero, suc, ◌<◌, ◌^◌, List, [], ◌++◌, length}
use Rattle.std.specs.List.{slice_index_or}
use Rattle.violations.specs.Plain.{PlainView, store_view}
use Rattle.violations.specs.View.{Shape, StoreView}
use Rattle.turn_steps.specs.declared.kept_row.KeptRow.{KeptRow}
use Rattle.turn_steps.specs.Kept.{ShowsKept}
use Rattle.turn_steps.specs.Rows.{kept_changes, row_count}

-- the text of what each of so many cores keeps otherwise
unfoldable pub cores_changes : StoreView → StoreView → ℕ → List ℕ
cores_changes old now zero = []
cores_changes old now (suc core) = cores_changes old now core ++ kept_changes core old now (row_count old)

-- in the second of two stores than in the first
abbrev pub plain_changes : ℕ → PlainView → PlainView → List ℕ
plain_changes cores old now = cores_changes (store_view old) (store_view now) cores

-- what was shown of a core
abbrev pub kept_in : List (List (ℕ × KeptRow)) → ℕ → List (ℕ × KeptRow)
kept_in cores k = slice_index_or cores k []

-- of each core of a store of this shape
pub record IsOfStore (size : ℕ) (cores : List (List (ℕ × KeptRow))) (shape : Shape) : Type 0 where
  pub size_is : size ≡ shape.size
  pub count : length cores ≡ shape.cores
  pub few : length cores < 2 ^ 32

-- this is what the cores of the store keep; memory has so many bytes
pub record AreKept (size : ℕ) (cores : List (List (ℕ × KeptRow))) (store : PlainView) : Type 0 where
  pub size_is : size ≡ (store_view store).shape.size
  pub count : length cores ≡ (store_view store).shape.cores
  pub each : (k : ℕ) → k < length cores → ShowsKept (store_view store) k (kept_in cores k)
