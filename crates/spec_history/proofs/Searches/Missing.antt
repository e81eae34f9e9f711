-- Whether a byte would change that another core has read, from what a loop has found.
use Rattle.std.proofs.Common.{◌≡◌, ℕ, ◌+◌, ◌%◌, ◌<◌, ◌==◌, ◌&&◌, not, Bool, true, false, cond, List, length, slice_index, Option, Some, None, unwrap_or, refl, sym, ap, ◌∙◌, inl, inr, arith, eq-eqb}
use Rattle.std.proofs.lemmas.Bool.{cases_eq, cases_lt}
use Rattle.rv32_image.specs.Image.{LoadedImage}
use Rattle.spec_history.specs.declared.entry.What.{What}
use Rattle.spec_history.specs.declared.entry.What.TheVariants.{Start, Load, Store, Hurt, Cancel, Restart, Publish, Commit, Fault}
use Rattle.memory_bytes.specs.Maps.{over, stored}
use Rattle.spec_history.specs.FlatState.{CoreState, FlatState}
use Rattle.spec_history.specs.Effect.{effect_on, effect_idle}
use Rattle.spec_history.specs.Refusal.{other_has_read, changes_unseen, misses_a_hurt}
use Rattle.memory_bytes.specs.Shadow.{byte_in, IsAmong, Covers}
use Rattle.spec_history.specs.declared.cores.Core.{Core}
use Rattle.spec_history.specs.Cores.{core_of}
use Rattle.spec_history.proofs.CodedCores.CoreStates.{kept_own}
use Rattle.memory_bytes.proofs.Bytes.{stored_below}
use Rattle.spec_history.proofs.Searches.Tests.{all_fail}
use Rattle.memory_bytes.proofs.Stores.{Storing, storing_byte, storing_end}
use Rattle.spec_history.proofs.Replay.Replays.{effect-on, effect-idle}

-- the test of one byte
abbrev pub is_unseen : ℕ → FlatState → ℕ → (ℕ → ℕ) → ℕ → Bool
is_unseen count s by committed a = not (committed a == s.committed a) && other_has_read count s by a

same_fails : (count : ℕ) (s : FlatState) (by : ℕ) (committed : ℕ → ℕ) (a : ℕ) → committed a ≡ s.committed a → is_unseen count s by committed a ≡ false
same_fails count s by committed a same = rw (eq-eqb (committed a) (s.committed a) same) refl

pub none_changes : (size count : ℕ) (s : FlatState) (by : ℕ) (committed : ℕ → ℕ) → ((a : ℕ) → committed a ≡ s.committed a) → changes_unseen size count s by committed ≡ false
none_changes size count s by committed same = all_fail size (is_unseen count s by committed) (λ a below. same_fails count s by committed a (same a))

-- what a loop knows of the byte that it has come to
pub byte_is : (count : ℕ) (s : FlatState) (by : ℕ) (bytes : ℕ → Option ℕ) (a byte : ℕ) → bytes a ≡ Some byte
    → is_unseen count s by (over bytes s.committed) a ≡ (not (byte == s.committed a) && other_has_read count s by a)
byte_is count s by bytes a byte some = ap (λ o. not (unwrap_or o (s.committed a) == s.committed a) && other_has_read count s by a) some

pub no_byte_is : (count : ℕ) (s : FlatState) (by : ℕ) (bytes : ℕ → Option ℕ) (a : ℕ) → bytes a ≡ None → is_unseen count s by (over bytes s.committed) a ≡ false
no_byte_is count s by bytes a none = same_fails count s by (over bytes s.committed) a (ap (λ o. unwrap_or o (s.committed a)) none)

-- ---- own bytes

-- the bytes at the addresses so far would not change unseen
pub record Passed (count : ℕ) (s : FlatState) (by : ℕ) (bytes : ℕ → Option ℕ) (addresses : List ℕ) (to : ℕ) : Type 0 where
  pub each : (place : ℕ) → place < to → is_unseen count s by (over bytes s.committed) (slice_index addresses place) ≡ false

pub passed_more : (count : ℕ) (s : FlatState) (by : ℕ) (bytes : ℕ → Option ℕ) (addresses : List ℕ) (to addr : ℕ) → slice_index addresses to ≡ addr
    → is_unseen count s by (over bytes s.committed) addr ≡ false → Passed count s by bytes addresses to → Passed count s by bytes addresses (to + 1)
passed_more count s by bytes addresses to addr is fails passed = record {
  each = λ place below. elim (cases_eq place to) [
    | inl e ↦ ap (λ p. is_unseen count s by (over bytes s.committed) (slice_index addresses p)) e ∙ (ap (is_unseen count s by (over bytes s.committed)) is ∙ fails)
    | inr other ↦ passed.each place (omega arith)
  ];
}

passed_by : (count : ℕ) (s : FlatState) (by : ℕ) (bytes : ℕ → Option ℕ) (addresses : List ℕ) (a : ℕ) (o : Option ℕ) → bytes a ≡ o
    → ((byte : ℕ) → bytes a ≡ Some byte → IsAmong a addresses) → Passed count s by bytes addresses (length addresses) → is_unseen count s by (over bytes s.committed) a ≡ false
passed_by count s by bytes addresses a None none among passed = no_byte_is count s by bytes a none
passed_by count s by bytes addresses a (Some byte) some among passed =
    let at = among byte some in ap (is_unseen count s by (over bytes s.committed)) (sym at.is) ∙ passed.each at.place at.within

pub passed_all : (size count : ℕ) (s : FlatState) (by : ℕ) (cells : List (Option ℕ)) (addresses : List ℕ) → Covers cells addresses
    → Passed count s by (byte_in cells) addresses (length addresses) → changes_unseen size count s by (over (byte_in cells) s.committed) ≡ false
passed_all size count s by cells addresses covers passed =
    all_fail size _ (λ a below. passed_by count s by (byte_in cells) addresses a (byte_in cells a) refl (covers.each a) passed)

-- ---- the bytes of a store

-- the bytes below this one would not change unseen
pub record Below (count : ℕ) (s : FlatState) (by address width value i : ℕ) : Type 0 where
  pub each : (a : ℕ) → a < address + i → is_unseen count s by (over (stored address width value) s.committed) a ≡ false

pub below_start : (count : ℕ) (s : FlatState) (by address width value : ℕ) → Below count s by address width value 0
below_start count s by address width value =
    record { each = λ a below. no_byte_is count s by (stored address width value) a (stored_below address width value a (omega arith)) }

pub below_more_bytes : (count : ℕ) (s : FlatState) (by address width value i rest : ℕ) → Storing address width value i rest → i < width
    → (not (rest % 256 == s.committed (address + i)) && other_has_read count s by (address + i)) ≡ false
    → Below count s by address width value i → Below count s by address width value (i + 1)
below_more_bytes count s by address width value i rest storing more fails below = record {
  each = λ a under. elim (cases_eq a (address + i)) [
    | inl e ↦ ap (is_unseen count s by (over (stored address width value) s.committed)) e
        ∙ (byte_is count s by (stored address width value) (address + i) (rest % 256) (storing_byte address width value i rest storing more) ∙ fails)
    | inr other ↦ below.each a (omega arith)
  ];
}

pub below_all : (size count : ℕ) (s : FlatState) (by address width value rest : ℕ) → Storing address width value width rest
    → Below count s by address width value width → changes_unseen size count s by (over (stored address width value) s.committed) ≡ false
below_all size count s by address width value rest storing below = all_fail size _ (λ a under. elim (cases_lt a (address + width)) [
  | inl low ↦ below.each a low
  | inr high ↦ no_byte_is count s by (stored address width value) a (storing_end address width value rest storing a high)
])

-- ---- entries

-- the entry commits nothing
abbrev pub IsQuiet : What → Type 0
IsQuiet (Store address width value) = ⊥
IsQuiet Publish = ⊥
IsQuiet Commit = ⊥
IsQuiet (Fault cause pc) = ⊥
IsQuiet what = Unit {0}

quiet_same : (image : LoadedImage) (s : FlatState) (by : ℕ) (what : What) (c : CoreState) → IsQuiet what → (effect_on image s by c what).committed ≡ s.committed
quiet_same image s by (Start epoch) c quiet = refl
quiet_same image s by (Load address width value) c quiet = refl
quiet_same image s by (Store address width value) c quiet = absurd quiet
quiet_same image s by (Hurt epoch) c quiet = refl
quiet_same image s by (Cancel epoch) c quiet = refl
quiet_same image s by Restart c quiet = refl
quiet_same image s by Publish c quiet = absurd quiet
quiet_same image s by Commit c quiet = absurd quiet
quiet_same image s by (Fault cause pc) c quiet = absurd quiet

idle_same : (image : LoadedImage) (s : FlatState) (by : ℕ) (what : What) → (effect_idle image s by what).committed ≡ s.committed
idle_same image s by (Start epoch) = refl
idle_same image s by (Load address width value) = refl
idle_same image s by (Store address width value) = refl
idle_same image s by (Hurt epoch) = refl
idle_same image s by (Cancel epoch) = refl
idle_same image s by Restart = refl
idle_same image s by Publish = refl
idle_same image s by Commit = refl
idle_same image s by (Fault cause pc) = refl

-- an idle core changes nothing
pub idle_misses : (image : LoadedImage) (count : ℕ) (s : FlatState) (by : ℕ) (what : What) → s.cores by ≡ None → misses_a_hurt image count s (record { by = by; what = what }) ≡ false
idle_misses image count s by what idle = none_changes image.size count s by _
    (λ a. ap (λ (x : FlatState). x.committed a) (effect-idle image s by what idle) ∙ ap (λ m. m a) (idle_same image s by what))

pub quiet_misses : (image : LoadedImage) (count : ℕ) (s : FlatState) (by : ℕ) (what : What) (c : CoreState) → s.cores by ≡ Some c → IsQuiet what
    → misses_a_hurt image count s (record { by = by; what = what }) ≡ false
quiet_misses image count s by what c runs quiet = none_changes image.size count s by _
    (λ a. ap (λ (x : FlatState). x.committed a) (effect-on image s by what c runs) ∙ ap (λ m. m a) (quiet_same image s by what c quiet))

-- an entry of a core that runs changes memory so
pub misses_by : (image : LoadedImage) (count : ℕ) (s : FlatState) (by : ℕ) (what : What) (c : CoreState) (committed : ℕ → ℕ) → s.cores by ≡ Some c
    → (effect_on image s by c what).committed ≡ committed
    → misses_a_hurt image count s (record { by = by; what = what }) ≡ changes_unseen image.size count s by committed
misses_by image count s by what c committed runs is = ap (changes_unseen image.size count s by) (ap (λ (x : FlatState). x.committed) (effect-on image s by what c runs) ∙ is)

pub straight_store_commits : (image : LoadedImage) (s : FlatState) (by : ℕ) (c : CoreState) (address width value : ℕ) → c.straight ≡ true
    → (effect_on image s by c (Store address width value)).committed ≡ over (stored address width value) s.committed
straight_store_commits image s by c address width value is = ap (λ b. cond b (over (stored address width value) s.committed) s.committed) is

pub other_store_commits : (image : LoadedImage) (s : FlatState) (by : ℕ) (c : CoreState) (address width value : ℕ) → c.straight ≡ false
    → (effect_on image s by c (Store address width value)).committed ≡ s.committed
other_store_commits image s by c address width value is = ap (λ b. cond b (over (stored address width value) s.committed) s.committed) is

-- the entry commits the core's own bytes
abbrev pub IsCommitting : What → Type 0
IsCommitting Publish = Unit {0}
IsCommitting Commit = Unit {0}
IsCommitting (Fault cause pc) = Unit {0}
IsCommitting what = ⊥

commits_own : (image : LoadedImage) (s : FlatState) (by : ℕ) (what : What) (c : CoreState) → IsCommitting what → (effect_on image s by c what).committed ≡ over c.own s.committed
commits_own image s by (Start epoch) c is = absurd is
commits_own image s by (Load address width value) c is = absurd is
commits_own image s by (Store address width value) c is = absurd is
commits_own image s by (Hurt epoch) c is = absurd is
commits_own image s by (Cancel epoch) c is = absurd is
commits_own image s by Restart c is = absurd is
commits_own image s by Publish c is = refl
commits_own image s by Commit c is = refl
commits_own image s by (Fault cause pc) c is = refl

pub committing_misses : (image : LoadedImage) (count : ℕ) (s : FlatState) (by : ℕ) (what : What) (core : Core) (c : CoreState) → IsCommitting what → s.cores by ≡ core_of core → core_of core ≡ Some c
    → misses_a_hurt image count s (record { by = by; what = what }) ≡ changes_unseen image.size count s by (over (byte_in core.own.cells) s.committed)
committing_misses image count s by what core c committing at runs =
    misses_by image count s by what c _ (at ∙ runs) (commits_own image s by what c committing ∙ ap (λ o. over o s.committed) (kept_own core c runs))

pub straight_misses : (image : LoadedImage) (count : ℕ) (s : FlatState) (by address width value : ℕ) (what : What) (c : CoreState) → what ≡ Store address width value → s.cores by ≡ Some c
    → c.straight ≡ true → misses_a_hurt image count s (record { by = by; what = what }) ≡ changes_unseen image.size count s by (over (stored address width value) s.committed)
straight_misses image count s by address width value what c is runs straight =
    ap (λ w. misses_a_hurt image count s (record { by = by; what = w })) is
    ∙ misses_by image count s by (Store address width value) c _ runs (straight_store_commits image s by c address width value straight)

pub speculative_misses : (image : LoadedImage) (count : ℕ) (s : FlatState) (by address width value : ℕ) (what : What) (c : CoreState) → what ≡ Store address width value → s.cores by ≡ Some c
    → c.straight ≡ false → misses_a_hurt image count s (record { by = by; what = what }) ≡ false
speculative_misses image count s by address width value what c is runs speculative =
    ap (λ w. misses_a_hurt image count s (record { by = by; what = w })) is
    ∙ (misses_by image count s by (Store address width value) c _ runs (other_store_commits image s by c address width value speculative)
    ∙ none_changes image.size count s by s.committed (λ a. refl))
