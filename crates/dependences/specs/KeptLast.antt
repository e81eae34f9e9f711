-- What is told of the last store of a byte.
use Rattle.std.specs.Prelude.{◌≡◌, ℕ, ◌+◌, ◌-◌, ◌<◌, ◌≤◌, slice_index}
use Rattle.dependences.specs.declared.byte_stores.StoredBy.{StoredBy}
use Rattle.dependences.specs.declared.flow.Dependence.{Dependence}
use Rattle.dependences.specs.declared.last_stores.LastStore.{LastStore}
use Rattle.dependences.specs.declared.word_stores.Word.{Word}
use Rattle.dependences.specs.declared.word_stores.Word.TheVariants.{Untouched, Whole, Bytes}
use Rattle.dependences.specs.KeptStores.{Stores}

-- this is it
pub record IsLast (s : Stores) (byte : ℕ) (by : StoredBy) : Type 0 where
  pub writer : by.writer ≡ slice_index s.writers byte
  pub step : by.step ≡ slice_index s.steps byte
  pub pc : by.pc ≡ slice_index s.pcs byte

-- the bytes of an access were stored last by this
abbrev pub AreLast : Stores → ℕ → ℕ → Word → Type 0
AreLast s address width Untouched = (a : ℕ) → address ≤ a → a < address + width → slice_index s.writers a ≡ 0
AreLast s address width (Whole by) = (0 < width) × ((a : ℕ) → address ≤ a → a < address + width → IsLast s a by)
AreLast s address width Bytes = Unit {0}

-- the dependence by it of a load at this pc, after so many instructions
abbrev pub dependence_by : LastStore → ℕ → ℕ → ℕ → Dependence
dependence_by last epoch pc done = record {
  earlier = last.by.writer - 1;
  stored = last.by.step;
  store_pc = last.by.pc;
  later = epoch;
  loaded = done;
  load_pc = pc;
  byte = last.byte;
}
