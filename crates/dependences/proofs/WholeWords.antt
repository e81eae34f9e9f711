-- The last stores of bytes, of which those of a word that one store has stored whole are kept once.
use Rattle.std.proofs.Common.{subst, set, map, false, ◌-◌, [], ◌∷◌, ◌++◌, ◌≡◌, ℕ, zero, suc, ◌+◌, ◌/◌, ◌%◌, ◌<◌, ◌≤◌, List, length, Some, None, slice_index, refl, sym, ap, ◌∙◌, inl, inr, arith}
use Rattle.std.proofs.lemmas.Bool.{cases_lt, ne_eqb}
use Rattle.memory_bytes.specs.Bytes.{IsWidth}
use Rattle.memory_bytes.proofs.SmallFacts.{by_width, some_wide}
use Rattle.dependences.specs.declared.byte_stores.StoredBy.{StoredBy}
use Rattle.dependences.specs.declared.flow.Dependence.{Dependence}
use Rattle.dependences.specs.declared.flow.Flow.{Flow}
use Rattle.dependences.specs.declared.last_stores.LastStore.{LastStore}
use Rattle.dependences.specs.declared.word_stores.Word.{Word}
use Rattle.dependences.specs.declared.word_stores.Word.TheVariants.{Untouched, Whole, Bytes}
use Rattle.std.proofs.Math.ListN.{get_or, get_or-map}
use Rattle.std.proofs.lemmas.List.{get_or-set_same, get_or-set_other, length-map, length-set, map-set}
use Rattle.epoch_paths.specs.Kept.{IsMarked}
use Rattle.dependences.specs.Kept.{IsNearestOf, nearer}
use Rattle.dependences.specs.KeptMarks.{filled}
use Rattle.dependences.specs.KeptStores.{AreMarked, IsNearestByte, Stores, dependence_at}
use Rattle.dependences.specs.KeptBytes.{no_store, numbers_of, store_at}
use Rattle.dependences.specs.KeptLast.{AreLast, IsLast, dependence_by}
use Rattle.dependences.specs.KeptRun.{IsLoadKept, IsSame}
use Rattle.dependences.proofs.Marking.{filled_long, none_after}
use Rattle.dependences.specs.KeptWords.{AreSpread, AreWords, IsPut, last_of, last_stores, listed, of_byte, of_bytes, word_at, word_of, words_of}

-- ---- the list of all bytes

listed_long : (number : ℕ → ℕ) (size : ℕ) → length (listed number size) ≡ size
listed_long number zero = refl
listed_long number (suc size) = ap suc (listed_long (λ a. number (suc a)) size)

listed_at : (number : ℕ → ℕ) (size a : ℕ) → a < size → slice_index (listed number size) a ≡ number a
listed_at number zero a below = omega (arith, below)
listed_at number (suc size) zero below = refl
listed_at number (suc size) (suc a) below = listed_at (λ a. number (suc a)) size a (omega (arith, below))

listed_past : (number : ℕ → ℕ) (size a : ℕ) → size ≤ a → slice_index (listed number size) a ≡ 0
listed_past number zero a past = refl
listed_past number (suc size) zero past = omega (arith, past)
listed_past number (suc size) (suc a) past = listed_past (λ a. number (suc a)) size a (omega (arith, past))

pub long_of : (number : StoredBy → ℕ) (words : List Word) (beside : List ℕ) → length (of_bytes number words beside) ≡ length beside
long_of number words beside = listed_long (last_of number words beside) (length beside)

pub byte_of : (number : StoredBy → ℕ) (words : List Word) (beside : List ℕ) (a : ℕ) → a < length beside → slice_index (of_bytes number words beside) a ≡ last_of number words beside a
byte_of number words beside a within = listed_at (last_of number words beside) (length beside) a within

none_past : (number : StoredBy → ℕ) (words : List Word) (beside : List ℕ) (a : ℕ) → length beside ≤ a → slice_index (of_bytes number words beside) a ≡ 0
none_past number words beside a past = listed_past (last_of number words beside) (length beside) a past

pub none_untouched : (number : StoredBy → ℕ) (words : List Word) (beside : List ℕ) → ((k : ℕ) → word_at words k ≡ Untouched) → (a : ℕ) → slice_index (of_bytes number words beside) a ≡ 0
none_untouched number words beside none a = elim (cases_lt a (length beside)) [
  | inl within ↦ byte_of number words beside a within ∙ ap (λ (w : Word). of_byte number w (slice_index beside a)) (none (a / 4))
  | inr past ↦ none_past number words beside a past
]

-- two lists are as long, and alike at this byte
alike : (number : StoredBy → ℕ) (words words' : List Word) (beside beside' : List ℕ) (a : ℕ) → length beside' ≡ length beside
    → last_of number words' beside' a ≡ last_of number words beside a → slice_index (of_bytes number words' beside') a ≡ slice_index (of_bytes number words beside) a
alike number words words' beside beside' a long same = elim (cases_lt a (length beside)) [
  | inl within ↦ byte_of number words' beside' a (omega (arith, within, long)) ∙ (same ∙ sym (byte_of number words beside a within))
  | inr past ↦ none_past number words' beside' a (omega (arith, past, long)) ∙ sym (none_past number words beside a past)
]

-- ---- a word that one store stores whole

word_here : (a addr width : ℕ) → IsWidth width → addr % width ≡ 0 → addr ≤ a → a < addr + width → a / 4 ≡ addr / 4
word_here a addr width wide aligned from below =
    by_width (λ w. addr % w ≡ 0 → a < addr + w → a / 4 ≡ addr / 4) width wide (λ aligned below. omega (arith, from, below)) (λ aligned below. omega (arith, aligned, from, below))
    (λ aligned below. omega (arith, aligned, from, below)) aligned below

put_last : (number : StoredBy → ℕ) (words words' : List Word) (beside : List ℕ) (addr : ℕ) (by : StoredBy) (a : ℕ) → IsPut words words' (addr / 4) (Whole by) → a / 4 ≡ addr / 4
    → last_of number words' beside a ≡ number by
put_last number words words' beside addr by a put is = rw is (ap (λ (w : Word). of_byte number w (slice_index beside a)) put.here)

put_other : (number : StoredBy → ℕ) (words words' : List Word) (beside : List ℕ) (word : ℕ) (by : Word) (a : ℕ) → IsPut words words' word by → (a / 4 ≡ word → ⊥)
    → last_of number words' beside a ≡ last_of number words beside a
put_other number words words' beside word by a put other = ap (λ (w : Word). of_byte number w (slice_index beside a)) (put.others (a / 4) other)

whole_marked : (number : StoredBy → ℕ) (words words' : List Word) (beside : List ℕ) (addr : ℕ) (by : StoredBy) → addr % 4 ≡ 0 → addr + 4 ≤ length beside
    → IsPut words words' (addr / 4) (Whole by) → IsMarked (of_bytes number words beside) (of_bytes number words' beside) addr 4 (number by)
whole_marked number words words' beside addr by aligned within put = record {
  here = λ a from below. byte_of number words' beside a (omega (arith, below, within)) ∙ put_last number words words' beside addr by a put (word_here a addr 4 (inr (inr refl)) aligned from below);
  below = λ a low. alike number words words' beside beside a refl (put_other number words words' beside (addr / 4) (Whole by) a put (λ is. omega (arith, is, low, aligned)));
  past = λ a high. alike number words words' beside beside a refl (put_other number words words' beside (addr / 4) (Whole by) a put (λ is. omega (arith, is, high, aligned)));
}

whole_all_marked : (words words' : List Word) (bytes : Stores) (addr : ℕ) (by : StoredBy) → AreWords words bytes → addr % 4 ≡ 0 → addr + 4 ≤ length bytes.writers
    → IsPut words words' (addr / 4) (Whole by) → AreMarked (last_stores words bytes) (last_stores words' bytes) addr 4 by.writer by.step by.pc
whole_all_marked words words' bytes addr by are aligned within put = record {
  writers_long = long_of (λ (b : StoredBy). b.writer) words' bytes.writers ∙ sym (long_of (λ (b : StoredBy). b.writer) words bytes.writers);
  steps_long = long_of (λ (b : StoredBy). b.step) words' bytes.steps ∙ sym (long_of (λ (b : StoredBy). b.step) words bytes.steps);
  pcs_long = long_of (λ (b : StoredBy). b.pc) words' bytes.pcs ∙ sym (long_of (λ (b : StoredBy). b.pc) words bytes.pcs);
  writers = whole_marked (λ (b : StoredBy). b.writer) words words' bytes.writers addr by aligned within put;
  steps = whole_marked (λ (b : StoredBy). b.step) words words' bytes.steps addr by aligned (omega (arith, within, are.writers, are.steps)) put;
  pcs = whole_marked (λ (b : StoredBy). b.pc) words words' bytes.pcs addr by aligned (omega (arith, within, are.writers, are.pcs)) put;
}

pub whole_seen : (words words' : List Word) (bytes s : Stores) (addr : ℕ) (by : StoredBy) → AreWords words bytes → last_stores words bytes ≡ s → addr % 4 ≡ 0 → addr + 4 ≤ length s.writers
    → IsPut words words' (addr / 4) (Whole by) → AreMarked s (last_stores words' bytes) addr 4 by.writer by.step by.pc
whole_seen words words' bytes s addr by are is aligned within put =
    subst (λ (s : Stores). addr + 4 ≤ length s.writers → AreMarked s (last_stores words' bytes) addr 4 by.writer by.step by.pc) is
    (λ within. whole_all_marked words words' bytes addr by are aligned (omega (arith, within, long_of (λ (b : StoredBy). b.writer) words bytes.writers)) put) within

-- ---- a byte in a word whose bytes have stores of their own

of_spread : (number : StoredBy → ℕ) (words : List Word) (beside beside' : List ℕ) (byte n : ℕ) → word_at words (byte / 4) ≡ Bytes → length beside' ≡ length beside → byte < length beside
    → IsMarked beside beside' byte 1 n → IsMarked (of_bytes number words beside) (of_bytes number words beside') byte 1 n
of_spread number words beside beside' byte n apart long within marked = record {
  here = λ a from below.
      let is : a ≡ byte = omega (arith, from, below) in
      byte_of number words beside' a (omega (arith, is, long, within)) ∙ (ap (λ (w : Word). of_byte number w (slice_index beside' a)) (ap (λ (b : ℕ). word_at words (b / 4)) is ∙ apart) ∙ marked.here a from below);
  below = λ a low. alike number words words beside beside' a long (ap (λ (b : ℕ). of_byte number (word_at words (a / 4)) b) (marked.below a low));
  past = λ a high. alike number words words beside beside' a long (ap (λ (b : ℕ). of_byte number (word_at words (a / 4)) b) (marked.past a high));
}

-- ---- what is kept, as it is seen

-- the numbers of the last store of a byte, of which it is kept so
abbrev pub IsStored : Word → Stores → Stores → ℕ → Type 0
IsStored w bytes s byte =
    (of_byte (λ by. by.writer) w (slice_index bytes.writers byte) ≡ slice_index s.writers byte)
    × (of_byte (λ by. by.step) w (slice_index bytes.steps byte) ≡ slice_index s.steps byte)
    × (of_byte (λ by. by.pc) w (slice_index bytes.pcs byte) ≡ slice_index s.pcs byte)

stored_in : (words : List Word) (bytes : Stores) (byte : ℕ) (w : Word) → AreWords words bytes → byte < length (last_stores words bytes).writers → w ≡ word_at words (byte / 4)
    → IsStored w bytes (last_stores words bytes) byte
stored_in words bytes byte w are within at =
    let below : byte < length bytes.writers = omega (arith, within, long_of (λ (by : StoredBy). by.writer) words bytes.writers) in (
      ap (λ (v : Word). of_byte (λ (by : StoredBy). by.writer) v (slice_index bytes.writers byte)) at ∙ sym (byte_of (λ (by : StoredBy). by.writer) words bytes.writers byte below),
      ap (λ (v : Word). of_byte (λ (by : StoredBy). by.step) v (slice_index bytes.steps byte)) at
          ∙ sym (byte_of (λ (by : StoredBy). by.step) words bytes.steps byte (omega (arith, below, are.writers, are.steps))),
      ap (λ (v : Word). of_byte (λ (by : StoredBy). by.pc) v (slice_index bytes.pcs byte)) at
          ∙ sym (byte_of (λ (by : StoredBy). by.pc) words bytes.pcs byte (omega (arith, below, are.writers, are.pcs))),
    )

pub stored_here : (words : List Word) (bytes s : Stores) (byte : ℕ) (w : Word) → AreWords words bytes → last_stores words bytes ≡ s → byte < length s.writers → w ≡ word_at words (byte / 4)
    → IsStored w bytes s byte
stored_here words bytes s byte w are is within at =
    subst (λ (s : Stores). byte < length s.writers → IsStored w bytes s byte) is (λ within. stored_in words bytes byte w are within at) within

-- so it is of an aligned access
last_in : (words : List Word) (bytes s : Stores) (addr width : ℕ) (w : Word) → AreWords words bytes → last_stores words bytes ≡ s → IsWidth width → addr % width ≡ 0 → addr + width ≤ length s.writers
    → w ≡ word_at words (addr / 4) → (a : ℕ) → addr ≤ a → a < addr + width → IsStored w bytes s a
last_in words bytes s addr width w are is wide aligned within at a from below =
    stored_here words bytes s a w are is (omega (arith, within, below)) (at ∙ ap (λ (k : ℕ). word_at words k) (sym (word_here a addr width wide aligned from below)))

pub word_last : (words : List Word) (bytes s : Stores) (addr width : ℕ) (w : Word) → AreWords words bytes → last_stores words bytes ≡ s → IsWidth width → addr % width ≡ 0
    → addr + width ≤ length s.writers → w ≡ word_at words (addr / 4) → AreLast s addr width w
word_last words bytes s addr width Untouched are is wide aligned within at = λ a from below. sym (last_in words bytes s addr width Untouched are is wide aligned within at a from below).0
word_last words bytes s addr width (Whole by) are is wide aligned within at = (
  some_wide width wide,
  λ a from below.
      let it = last_in words bytes s addr width (Whole by) are is wide aligned within at a from below in
      record { writer = it.0; step = it.1; pc = it.2 },
)
word_last words bytes s addr width Bytes are is wide aligned within at = tt

pub byte_last : (s : Stores) (addr : ℕ) (by : StoredBy) → IsLast s addr by → AreLast s addr 1 (Whole by)
byte_last s addr by is = (omega arith, λ a from below. let at : a ≡ addr = omega (arith, from, below) in rw at is)

-- ---- a load

pub some_of_whole : (s : Stores) (epoch addr width : ℕ) (by : StoredBy) → AreLast s addr width (Whole by) → (0 < by.writer) × (by.writer ≤ epoch) → IsNearestByte s.writers epoch addr width (Some addr)
some_of_whole s epoch addr width by last before =
    let first = (last.1 addr (omega arith) (omega (arith, last.0))).writer in
    record {
      from = omega arith;
      below = omega (arith, last.0);
      some = rw (← first) before.0;
      earlier = rw (← first) before.1;
      nearest = λ a from below earlier. inr (sym (last.1 a from below).writer ∙ first, from);
    }

dependence_is : (s : Stores) (last : LastStore) (epoch pc done : ℕ) → IsLast s last.byte last.by → dependence_by last epoch pc done ≡ dependence_at s epoch pc done last.byte
dependence_is s last epoch pc done is = rw (← is.writer, ← is.step, ← is.pc) refl

pub kept_none : {F : Type 0} (keeps : F → List Dependence → Type 0) (flow : Flow F) (pc done address width : ℕ) → flow.is_full ≡ false
    → IsNearestByte flow.stores.writers flow.epoch address width None → IsLoadKept keeps flow flow pc done address width
kept_none keeps flow pc done address width room near = record {
  epoch = refl;
  stores = refl;
  byte = None;
  near = near;
  nearest = refl;
  room = room;
  found = λ list keeps. keeps;
  later = λ list later. later;
}

pub kept_some : {F : Type 0} (keeps : F → List Dependence → Type 0) (old new : Flow F) (pc done address width : ℕ) (last : LastStore) → old.is_full ≡ false → new.epoch ≡ old.epoch → new.stores ≡ old.stores
    → IsNearestByte old.stores.writers old.epoch address width (Some last.byte) → IsLast old.stores last.byte last.by
    → new.nearest ≡ nearer old.nearest (Some (old.epoch + 1 - last.by.writer))
    → ((list : List Dependence) → keeps old.found list → keeps new.found (list ++ dependence_by last old.epoch pc done ∷ []))
    → ((list : List Dependence) → IsNearestOf list old.nearest old.later → IsNearestOf (list ++ dependence_by last old.epoch pc done ∷ []) new.nearest new.later)
    → IsLoadKept keeps old new pc done address width
kept_some keeps old new pc done address width last room epoch stores near is nearest found later =
    let same = dependence_is old.stores last old.epoch pc done is in
    record {
      epoch = epoch;
      stores = stores;
      byte = Some last.byte;
      near = near;
      nearest = rw (← is.writer) nearest;
      room = room;
      found = λ list keeps. rw (← same) (found list keeps);
      later = λ list is. rw (← same) (later list is);
    }

-- what is kept after a load, where all was as before it
pub kept_from : {F : Type 0} (keeps : F → List Dependence → Type 0) (old mid new : Flow F) (pc done address width : ℕ) → IsSame keeps old mid
    → IsLoadKept keeps mid new pc done address width → IsLoadKept keeps old new pc done address width
kept_from keeps old mid new pc done address width same it = record {
  epoch = it.epoch ∙ same.epoch;
  stores = it.stores ∙ same.stores;
  byte = it.byte;
  near = subst (λ (s : Stores). IsNearestByte s.writers old.epoch address width it.byte) same.stores (subst (λ e. IsNearestByte mid.stores.writers e address width it.byte) same.epoch it.near);
  nearest = rw (← same.stores, ← same.epoch, ← same.nearest) it.nearest;
  room = sym same.room ∙ it.room;
  found = λ list keeps. rw (← same.stores, ← same.epoch) (it.found list (same.found list keeps));
  later = λ list near. rw (← same.stores, ← same.epoch) (it.later list (rw (same.nearest, same.later) near));
}

-- the last store of a whole word, by an earlier epoch, is kept as it is
pub whole_of : (by : StoredBy) (epoch : ℕ) → (0 < by.writer) × (by.writer ≤ epoch) → epoch < 65536 → word_of by ≡ Whole by
whole_of by epoch before short =
    rw (ne_eqb by.writer 0 (λ is. omega (arith, is, before.0)), ne_eqb by.writer 4294967295 (λ is. omega (arith, is, before.1, short))) refl

-- ---- one byte more

one_more : (old mid new : List ℕ) (addr i n : ℕ) → IsMarked old mid addr i n → IsMarked mid new (addr + i) 1 n → IsMarked old new addr (i + 1) n
one_more old mid new addr i n so_far marked = record {
  here = λ a from below. elim (cases_lt a (addr + i)) [
    | inl before ↦ marked.below a before ∙ so_far.here a from before
    | inr at ↦ marked.here a at (omega (arith, below))
  ];
  below = λ a low. marked.below a (omega (arith, low)) ∙ so_far.below a low;
  past = λ a high. marked.past a (omega (arith, high)) ∙ so_far.past a (omega (arith, high));
}

same_then : (mid mid' new : List ℕ) (addr n : ℕ) → ((a : ℕ) → slice_index mid' a ≡ slice_index mid a) → IsMarked mid' new addr 1 n → IsMarked mid new addr 1 n
same_then mid mid' new addr n same marked = record {
  here = marked.here;
  below = λ a low. marked.below a low ∙ same a;
  past = λ a high. marked.past a high ∙ same a;
}

pub all_more : (old mid new : Stores) (addr i writer step pc : ℕ) → AreMarked old mid addr i writer step pc → AreMarked mid new (addr + i) 1 writer step pc
    → AreMarked old new addr (i + 1) writer step pc
all_more old mid new addr i writer step pc so_far marked = record {
  writers_long = marked.writers_long ∙ so_far.writers_long;
  steps_long = marked.steps_long ∙ so_far.steps_long;
  pcs_long = marked.pcs_long ∙ so_far.pcs_long;
  writers = one_more old.writers mid.writers new.writers addr i writer so_far.writers marked.writers;
  steps = one_more old.steps mid.steps new.steps addr i step so_far.steps marked.steps;
  pcs = one_more old.pcs mid.pcs new.pcs addr i pc so_far.pcs marked.pcs;
}

-- ---- a byte in a word that is spread first

byte_in : (number : StoredBy → ℕ) (words words' : List Word) (beside beside' beside'' : List ℕ) (byte n : ℕ) → word_at words' (byte / 4) ≡ Bytes → byte < length beside'
    → length beside' ≡ length beside → length beside'' ≡ length beside' → ((a : ℕ) → last_of number words' beside' a ≡ last_of number words beside a)
    → IsMarked beside' beside'' byte 1 n → IsMarked (of_bytes number words beside) (of_bytes number words' beside'') byte 1 n
byte_in number words words' beside beside' beside'' byte n apart within long long' same marked =
    same_then (of_bytes number words beside) (of_bytes number words' beside') (of_bytes number words' beside'') byte n (λ a. alike number words words' beside beside' a long (same a))
    (of_spread number words' beside' beside'' byte n apart long' within marked)

byte_marked : (words words' : List Word) (bytes bytes' bytes'' : Stores) (byte writer step pc : ℕ) → AreWords words bytes → AreWords words' bytes' → byte < length bytes.writers
    → AreSpread words bytes words' bytes' (byte / 4) → AreMarked bytes' bytes'' byte 1 writer step pc → AreMarked (last_stores words bytes) (last_stores words' bytes'') byte 1 writer step pc
byte_marked words words' bytes bytes' bytes'' byte writer step pc are are' below spread marked = record {
  writers_long = long_of (λ (b : StoredBy). b.writer) words' bytes''.writers
      ∙ (marked.writers_long ∙ (omega (arith, are.writers, are'.writers, spread.long) ∙ sym (long_of (λ (b : StoredBy). b.writer) words bytes.writers)));
  steps_long = long_of (λ (b : StoredBy). b.step) words' bytes''.steps
      ∙ (marked.steps_long ∙ (omega (arith, are.steps, are'.steps, spread.long) ∙ sym (long_of (λ (b : StoredBy). b.step) words bytes.steps)));
  pcs_long = long_of (λ (b : StoredBy). b.pc) words' bytes''.pcs
      ∙ (marked.pcs_long ∙ (omega (arith, are.pcs, are'.pcs, spread.long) ∙ sym (long_of (λ (b : StoredBy). b.pc) words bytes.pcs)));
  writers = byte_in (λ (b : StoredBy). b.writer) words words' bytes.writers bytes'.writers bytes''.writers byte writer spread.beside
      (omega (arith, below, are.writers, are'.writers, spread.long)) (omega (arith, are.writers, are'.writers, spread.long)) marked.writers_long spread.writers marked.writers;
  steps = byte_in (λ (b : StoredBy). b.step) words words' bytes.steps bytes'.steps bytes''.steps byte step spread.beside
      (omega (arith, below, are.writers, are'.steps, spread.long)) (omega (arith, are.steps, are'.steps, spread.long)) marked.steps_long spread.steps marked.steps;
  pcs = byte_in (λ (b : StoredBy). b.pc) words words' bytes.pcs bytes'.pcs bytes''.pcs byte pc spread.beside
      (omega (arith, below, are.writers, are'.pcs, spread.long)) (omega (arith, are.pcs, are'.pcs, spread.long)) marked.pcs_long spread.pcs marked.pcs;
}

pub byte_seen : (words words' : List Word) (bytes bytes' bytes'' s : Stores) (byte writer step pc : ℕ) → AreWords words bytes → AreWords words' bytes' → last_stores words bytes ≡ s
    → byte < length s.writers → AreSpread words bytes words' bytes' (byte / 4) → AreMarked bytes' bytes'' byte 1 writer step pc → AreMarked s (last_stores words' bytes'') byte 1 writer step pc
byte_seen words words' bytes bytes' bytes'' s byte writer step pc are are' is within spread marked =
    subst (λ (s : Stores). byte < length s.writers → AreMarked s (last_stores words' bytes'') byte 1 writer step pc) is
    (λ within. byte_marked words words' bytes bytes' bytes'' byte writer step pc are are' (omega (arith, within, long_of (λ (b : StoredBy). b.writer) words bytes.writers)) spread marked) within

-- ---- words that are made up to the highest that is stored

-- each word is that of the list
pub filled_word : (words : List Word) (count k : ℕ) → word_at (filled Untouched words count) k ≡ word_at words k
filled_word words count k = none_after words (count - length words) k Untouched

pub filled_put : (old mid : List Word) (count word : ℕ) (by : Word) → ((k : ℕ) → word_at mid k ≡ word_at old k) → word < length mid
    → IsPut (filled Untouched old count) (filled Untouched (set mid word by) count) word by
filled_put old mid count word by same within = record {
  here = filled_word (set mid word by) count word ∙ get_or-set_same mid word by Untouched within;
  others = λ k other. filled_word (set mid word by) count k ∙ (get_or-set_other mid word k by Untouched other ∙ (same k ∙ sym (filled_word old count k)));
}

-- a word is what its store stands for
word_kept : (stores : List StoredBy) (k : ℕ) → word_at (map word_of stores) k ≡ word_of (store_at stores k)
word_kept stores k = get_or-map word_of stores k no_store

pub word_there : (stores : List StoredBy) (count k : ℕ) → word_at (words_of stores count) k ≡ word_of (store_at stores k)
word_there stores count k = filled_word (map word_of stores) count k ∙ word_kept stores k

pub kept_put : (old mid : List StoredBy) (count word : ℕ) (by : StoredBy) (w : Word) → word_of by ≡ w → ((k : ℕ) → store_at mid k ≡ store_at old k) → word < length mid
    → IsPut (words_of old count) (words_of (set mid word by) count) word w
kept_put old mid count word by w is same within =
    subst (λ (l : List Word). IsPut (words_of old count) (filled Untouched l count) word w) (sym (map-set word_of mid word by ∙ ap (set (map word_of mid) word) is))
    (filled_put (map word_of old) (map word_of mid) count word w (λ k. word_kept mid k ∙ (ap word_of (same k) ∙ sym (word_kept old k))) (rw (length-map mid word_of) within))

-- ---- stores beside bytes, made up to the highest that is stored

numbered : (number : StoredBy → ℕ) (stores : List StoredBy) (size a : ℕ) → number no_store ≡ 0 → slice_index (map number (filled no_store stores size)) a ≡ number (store_at stores a)
numbered number stores size a none =
    ap (λ (d : ℕ). get_or (map number (filled no_store stores size)) a d) (sym none)
    ∙ (get_or-map number (filled no_store stores size) a no_store ∙ ap number (none_after stores (size - length stores) a no_store))

pub last_beside : (stores : List StoredBy) (size byte : ℕ) (by : StoredBy) → by ≡ store_at stores byte → IsLast (numbers_of stores size) byte by
last_beside stores size byte by is = record {
  writer = ap (λ (b : StoredBy). b.writer) is ∙ sym (numbered (λ (b : StoredBy). b.writer) stores size byte refl);
  step = ap (λ (b : StoredBy). b.step) is ∙ sym (numbered (λ (b : StoredBy). b.step) stores size byte refl);
  pc = ap (λ (b : StoredBy). b.pc) is ∙ sym (numbered (λ (b : StoredBy). b.pc) stores size byte refl);
}

put_number : (number : StoredBy → ℕ) (old mid : List StoredBy) (size byte : ℕ) (by : StoredBy) → number no_store ≡ 0 → ((a : ℕ) → store_at mid a ≡ store_at old a) → byte < length mid
    → IsMarked (map number (filled no_store old size)) (map number (filled no_store (set mid byte by) size)) byte 1 (number by)
put_number number old mid size byte by none same within =
    let other : (a : ℕ) → (a ≡ byte → ⊥) → slice_index (map number (filled no_store (set mid byte by) size)) a ≡ slice_index (map number (filled no_store old size)) a
    = λ a apart. numbered number (set mid byte by) size a none
    ∙ (ap number (get_or-set_other mid byte a by no_store apart ∙ same a) ∙ sym (numbered number old size a none)) in
    record {
      here = λ a from below.
          let at : a ≡ byte = omega (arith, from, below) in
          numbered number (set mid byte by) size a none ∙ ap number (rw at (get_or-set_same mid byte by no_store within));
      below = λ a low. other a (λ at. omega (arith, at, low));
      past = λ a high. other a (λ at. omega (arith, at, high));
    }

long_filled : (number : StoredBy → ℕ) (old mid : List StoredBy) (size byte : ℕ) (by : StoredBy) → length old ≤ size → length mid ≤ size
    → length (map number (filled no_store (set mid byte by) size)) ≡ length (map number (filled no_store old size))
long_filled number old mid size byte by short short' =
    length-map (filled no_store (set mid byte by) size) number
    ∙ (filled_long no_store (set mid byte by) size (rw (length-set mid byte by) short') ∙ (sym (filled_long no_store old size short) ∙ sym (length-map (filled no_store old size) number)))

pub put_beside : (old mid : List StoredBy) (size byte : ℕ) (by : StoredBy) → length old ≤ size → length mid ≤ size → ((a : ℕ) → store_at mid a ≡ store_at old a) → byte < length mid
    → AreMarked (numbers_of old size) (numbers_of (set mid byte by) size) byte 1 by.writer by.step by.pc
put_beside old mid size byte by short short' same within = record {
  writers_long = long_filled (λ (b : StoredBy). b.writer) old mid size byte by short short';
  steps_long = long_filled (λ (b : StoredBy). b.step) old mid size byte by short short';
  pcs_long = long_filled (λ (b : StoredBy). b.pc) old mid size byte by short short';
  writers = put_number (λ (b : StoredBy). b.writer) old mid size byte by refl same within;
  steps = put_number (λ (b : StoredBy). b.step) old mid size byte by refl same within;
  pcs = put_number (λ (b : StoredBy). b.pc) old mid size byte by refl same within;
}
