-- What the code keeps of stores beside bytes.
use Rattle.std.specs.Prelude.{ℕ, List, map, slice_index_or}
use Rattle.dependences.specs.declared.byte_stores.StoredBy.{StoredBy}
use Rattle.dependences.specs.KeptMarks.{filled}
use Rattle.dependences.specs.KeptStores.{Stores}

abbrev pub no_store : StoredBy
no_store = record { writer = 0; step = 0; pc = 0 }

-- that of this byte
abbrev pub store_at : List StoredBy → ℕ → StoredBy
store_at stores a = slice_index_or stores a no_store

-- the numbers of those of so many bytes
abbrev pub numbers_of : List StoredBy → ℕ → Stores
numbers_of stores size = record {
  writers = map (λ by. by.writer) (filled no_store stores size);
  steps = map (λ by. by.step) (filled no_store stores size);
  pcs = map (λ by. by.pc) (filled no_store stores size);
}
