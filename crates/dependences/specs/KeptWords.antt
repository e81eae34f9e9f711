-- What the code keeps of the last stores of aligned words.
use Rattle.std.specs.Prelude.{◌≡◌, ℕ, zero, suc, ◌*◌, ◌/◌, ◌==◌, ◌<◌, List, [], ◌∷◌, length, map, slice_index, slice_index_or, if◌then◌else◌}
use Rattle.dependences.specs.declared.byte_stores.StoredBy.{StoredBy}
use Rattle.dependences.specs.declared.word_stores.Word.{Word}
use Rattle.dependences.specs.declared.word_stores.Word.TheVariants.{Untouched, Whole, Bytes}
use Rattle.dependences.specs.KeptMarks.{filled}
use Rattle.dependences.specs.KeptStores.{Stores}

-- by what the word of this number was stored last
abbrev pub word_at : List Word → ℕ → Word
word_at words k = slice_index_or words k Untouched

-- the word that is kept as this store
abbrev pub word_of : StoredBy → Word
word_of by = if by.writer == 0 then Untouched else (if by.writer == 4294967295 then Bytes else Whole by)

-- the words that are kept so, of so many
abbrev pub words_of : List StoredBy → ℕ → List Word
words_of stores count = filled Untouched (map word_of stores) count

-- a word can be kept so
abbrev pub IsKept : Word → Type 0
IsKept Untouched = Unit {0}
IsKept (Whole by) = (0 < by.writer) × (by.writer < 4294967295)
IsKept Bytes = Unit {0}

-- this word was stored last by this now, and the others as before
pub record IsPut (old new : List Word) (word : ℕ) (by : Word) : Type 0 where
  pub here : word_at new word ≡ by
  pub others : (k : ℕ) → (k ≡ word → ⊥) → word_at new k ≡ word_at old k

-- a number of the last store of a byte, in such a word, with this number beside it
abbrev pub of_byte : (StoredBy → ℕ) → Word → ℕ → ℕ
of_byte number Untouched beside = 0
of_byte number (Whole by) beside = number by
of_byte number Bytes beside = beside

-- all bytes of such a word have this last store, whatever is beside them
pub record IsBy (w : Word) (by : StoredBy) : Type 0 where
  pub writer : (beside : ℕ) → of_byte (λ b. b.writer) w beside ≡ by.writer
  pub step : (beside : ℕ) → of_byte (λ b. b.step) w beside ≡ by.step
  pub pc : (beside : ℕ) → of_byte (λ b. b.pc) w beside ≡ by.pc

-- a number of the last store of this byte
abbrev pub last_of : (StoredBy → ℕ) → List Word → List ℕ → ℕ → ℕ
last_of number words beside a = of_byte number (word_at words (a / 4)) (slice_index beside a)

-- these numbers of so many bytes
abbrev pub listed : (ℕ → ℕ) → ℕ → List ℕ
listed number zero = []
listed number (suc size) = number 0 ∷ listed (λ a. number (suc a)) size

-- a number of the last store of each byte
abbrev pub of_bytes : (StoredBy → ℕ) → List Word → List ℕ → List ℕ
of_bytes number words beside = listed (last_of number words beside) (length beside)

-- the last store of each byte
abbrev pub last_stores : List Word → Stores → Stores
last_stores words bytes = record {
  writers = of_bytes (λ by. by.writer) words bytes.writers;
  steps = of_bytes (λ by. by.step) words bytes.steps;
  pcs = of_bytes (λ by. by.pc) words bytes.pcs;
}

-- all bytes are in words
pub record AreWords (words : List Word) (bytes : Stores) : Type 0 where
  pub writers : length bytes.writers ≡ 4 * length words
  pub steps : length bytes.steps ≡ 4 * length words
  pub pcs : length bytes.pcs ≡ 4 * length words

-- the last stores of this word's bytes are kept beside these now, and all are as before
pub record AreSpread (old_words : List Word) (old : Stores) (words : List Word) (bytes : Stores) (word : ℕ) : Type 0 where
  pub long : length words ≡ length old_words
  pub beside : word_at words word ≡ Bytes
  pub writers : (a : ℕ) → last_of (λ by. by.writer) words bytes.writers a ≡ last_of (λ by. by.writer) old_words old.writers a
  pub steps : (a : ℕ) → last_of (λ by. by.step) words bytes.steps a ≡ last_of (λ by. by.step) old_words old.steps a
  pub pcs : (a : ℕ) → last_of (λ by. by.pc) words bytes.pcs a ≡ last_of (λ by. by.pc) old_words old.pcs a
