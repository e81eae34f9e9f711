-- A pass over some rows: each that lies in memory is shown anew.
use Rattle.std.specs.Prelude.{◌≡◌, ℕ, ◌<◌, false, List, [], nat_lt, if◌then◌else◌}
use Rattle.std.specs.BTreeSet.{BTreeSet, contains}
use Rattle.std.specs.Ordering.{nat_cmp}

-- what is added for a row, if it is one of so many
abbrev pub inside : ℕ → (ℕ → List ℕ) → ℕ → List ℕ
inside count text row = if nat_lt row count then text row else []

-- of so many rows, those outside the set are shown as they are now
abbrev pub IsRestShown : {A : Type 0} → BTreeSet ℕ → ℕ → (ℕ → A) → (ℕ → A) → Type 0
IsRestShown rows count shown now = (row : ℕ) → row < count → contains nat_cmp rows row ≡ false → shown row ≡ now row

-- of so many rows, all are
abbrev pub IsAllShown : {A : Type 0} → ℕ → (ℕ → A) → (ℕ → A) → Type 0
IsAllShown count shown now = (row : ℕ) → row < count → shown row ≡ now row
