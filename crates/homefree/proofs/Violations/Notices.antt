-- Notices before an act: what is known of them, and what they leave of the cores.
use Rattle.std.proofs.Common.{◌≡◌, ℕ, zero, suc, ◌+◌, ◌*◌, ◌==◌, ◌&&◌, ◌||◌, Bool, true, false, is_some, List, [], ◌∷◌, ◌++◌, Option, Some, None, option_map, if◌then◌else◌, refl, sym, ap, subst, ◌∙◌, true≢false}
use Rattle.std.proofs.lemmas.Bool.{eq-eqb, and_right, or_left, or_parts, or_right}
use Rattle.std.proofs.lemmas.List.{append_assoc}
use Rattle.std.proofs.lemmas.Option.{same_Some}
use Rattle.memory_bytes.specs.Maps.{nothing}
use Rattle.rv32_image.specs.Image.{LoadedImage}
use Rattle.rv32_image.proofs.SmallFacts.{one_value}
use Rattle.spec_history.specs.declared.entry.Entry.{Entry}
use Rattle.spec_history.specs.declared.entry.What.{What}
use Rattle.spec_history.specs.declared.entry.What.TheVariants.{Start, Load, Store, Hurt, Cancel, Restart, Publish, Commit, Fault}
use Rattle.spec_history.specs.Effect.{effect, hurt_at}
use Rattle.spec_history.specs.FlatState.{CoreState, FlatState}
use Rattle.spec_history.specs.Refusal.{any_below}
use Rattle.spec_history.proofs.Replay.Replays.{effect-on}
use Rattle.spec_history.proofs.Searches.Tests.{all_fail}
use Rattle.spec_history.specs.Conflict.{is_notice, can_cause, line_number, read_bytes, written}
use Rattle.homefree.specs.Hurts.{entry, entry_for_each}
use Rattle.homefree.proofs.Violations.Knowing.{next_what, IsExplained, PassedHere, AllKnown}

-- ---- notices, and what comes after them

next_by : (core : ℕ) (e : Entry) (es : List Entry) (what : What) → is_notice e.what ≡ true → next_what core es ≡ Some what → next_what core (e ∷ es) ≡ Some what
next_by core e es what notice later = ap (λ b. if b then next_what core es else if (e.by == core) && can_cause e.what then Some e.what else None) notice ∙ later

no_line : (n : ℕ) (test : ℕ → Bool) → ((k : ℕ) → test k ≡ false) → any_below n test ≡ false
no_line n test none = all_fail n test (λ k below. none k)

-- an entry that writes nothing passes over nobody
pub writes_none : (C : Type 0) (image : LoadedImage) (s : FlatState) (e : Entry) → ((a : ℕ) → written (s.cores e.by) e.what a ≡ None) → PassedHere C image s e
writes_none C image s e none holds k missed =
    absurd (true≢false (sym missed.reads ∙ and_right (is_some (read_bytes (s.cores k) missed.at)) _
    (no_line image.size (λ a. (line_number image a == line_number image missed.at) && is_some (written (s.cores e.by) e.what a))
    (λ a. ap (λ o. (line_number image a == line_number image missed.at) && is_some o) (none a) ∙ and_right (line_number image a == line_number image missed.at) false refl))))

notice_writes : (core : Option CoreState) (what : What) (a : ℕ) → is_notice what ≡ true → written core what a ≡ None
notice_writes core (Hurt epoch) a is = refl
notice_writes core (Cancel epoch) a is = refl
notice_writes core (Start epoch) a is = absurd cc
notice_writes core (Load address width value) a is = absurd cc
notice_writes core (Store address width value) a is = absurd cc
notice_writes core Restart a is = absurd cc
notice_writes core Publish a is = absurd cc
notice_writes core Commit a is = absurd cc
notice_writes core (Fault cause pc) a is = absurd cc

-- `P n` holds where the cores below n have been told
module _ (B C : Type 0) (image : LoadedImage) (by : ℕ) (P : ℕ → FlatState → Type 0) (these : ℕ → Bool) (f : ℕ → What) (what : What)
    (notice : (j : ℕ) → is_notice (f j) ≡ true)
    (tells : (j : ℕ) (t : FlatState) → these j ≡ true → P j t → P (suc j) (effect image t (record { by = by; what = f j })))
    (skips : (j : ℕ) (t : FlatState) → these j ≡ false → P j t → P (suc j) t)
    (known : (j k : ℕ) (t : FlatState) (c : CoreState) → these j ≡ true → P j t → f j ≡ Hurt c.epoch → t.cores k ≡ Some c → IsExplained B image t by k (Some what)) where
  abbrev one : ℕ → Bool → List Entry
  one j b = if b then entry by (f j) else []

  one_next : (j : ℕ) (b : Bool) (tail : List Entry) → next_what by tail ≡ Some what → next_what by (one j b ++ tail) ≡ Some what
  one_next j true tail later = next_by by (record { by = by; what = f j }) tail what (notice j) later
  one_next j false tail later = later

  one_known : (j : ℕ) (b : Bool) (tail : List Entry) → these j ≡ b → next_what by tail ≡ Some what → ((t : FlatState) → P (suc j) t → AllKnown B C image t tail)
      → (t : FlatState) → P j t → AllKnown B C image t (one j b ++ tail)
  one_known j true tail is later after t p = (
    λ k c hurts runs. (what, later, known j k t c is p hurts runs),
    writes_none C image t (record { by = by; what = f j }) (λ a. notice_writes (t.cores by) (f j) a (notice j)),
    after (effect image t (record { by = by; what = f j })) (tells j t is p),
  )
  one_known j false tail is later after t p = after t (skips j t is p)

  -- notices, one for each of these cores, before what is known
  pub all_known : (n : ℕ) (tail : List Entry) → next_what by tail ≡ Some what → ((t : FlatState) → P n t → AllKnown B C image t tail)
      → (t : FlatState) → P 0 t → AllKnown B C image t (entry_for_each by these f n ++ tail)
  all_known zero tail later after t p = after t p
  all_known (suc n) tail later after t p =
      subst (AllKnown B C image t) (sym (append_assoc (entry_for_each by these f n) (one n (these n)) tail))
      (all_known n (one n (these n) ++ tail) (one_next n (these n) tail later) (one_known n (these n) tail refl later after) t p)

-- ---- what notices leave of the cores

-- what a core keeps when it is hurt
pub record Bytes : Type 0 where
  pub epoch : ℕ
  pub straight : Bool
  pub own : ℕ → Option ℕ
  pub outside : ℕ → Option ℕ

abbrev pub bytes_of : CoreState → Bytes
bytes_of c = record { epoch = c.epoch; straight = c.straight; own = c.own; outside = c.outside }

abbrev pub Keeps : FlatState → FlatState → ℕ → Type 0
Keeps s t k = option_map bytes_of (t.cores k) ≡ option_map bytes_of (s.cores k)

pub hurt_keeps : (epoch : ℕ) (o : Option CoreState) → option_map bytes_of (hurt_at epoch o) ≡ option_map bytes_of o
hurt_keeps epoch None = refl
hurt_keeps epoch (Some c) = refl

-- a core that has published
abbrev pub after : CoreState → CoreState
after d = record d { own = nothing; outside = nothing; straight = true }

-- a core that is there was there, with the same bytes
pub record Was (was : Option CoreState) (c : CoreState) : Type 0 where
  pub core : CoreState
  pub at : was ≡ Some core
  pub bytes : bytes_of c ≡ bytes_of core

pub was_there : (now was : Option CoreState) (c : CoreState) → now ≡ Some c → option_map bytes_of now ≡ option_map bytes_of was → Was was c
was_there None was c is same = absurd cc
was_there (Some x) None c is same = absurd cc
was_there (Some x) (Some d) c is same =
    let mine : c ≡ x = one_value (Some x) c x is refl in
    record { core = d; at = refl; bytes = ap bytes_of mine ∙ same_Some (bytes_of x) (bytes_of d) same }

-- ---- hurt, and not hurt before

-- where it isn't hurt it wasn't
abbrev pub IsNoLess : FlatState → FlatState → ℕ → Type 0
IsNoLess s t j = (d e : CoreState) → s.cores j ≡ Some d → t.cores j ≡ Some e → e.hurt ≡ false → d.hurt ≡ false

abbrev pub IsHurtIn : FlatState → ℕ → Type 0
IsHurtIn t j = (e : CoreState) → t.cores j ≡ Some e → e.hurt ≡ true

pub hurt_here : (epoch : ℕ) (o : Option CoreState) (e : CoreState) → hurt_at epoch o ≡ Some e → ((d : CoreState) → o ≡ Some d → d.epoch ≡ epoch) → e.hurt ≡ true
hurt_here epoch None e is this = absurd cc
hurt_here epoch (Some d) e is this =
    let same = one_value (hurt_at epoch (Some d)) e (record d { hurt = d.hurt || (d.epoch == epoch) }) is refl in
    ap (λ (y : CoreState). y.hurt) same ∙ (ap (λ b. d.hurt || b) (eq-eqb d.epoch epoch (this d refl)) ∙ or_right d.hurt true refl)

pub hurt_still : (epoch : ℕ) (o : Option CoreState) (e : CoreState) → hurt_at epoch o ≡ Some e → ((d : CoreState) → o ≡ Some d → d.hurt ≡ true) → e.hurt ≡ true
hurt_still epoch None e is this = absurd cc
hurt_still epoch (Some d) e is this =
    let same = one_value (hurt_at epoch (Some d)) e (record d { hurt = d.hurt || (d.epoch == epoch) }) is refl in
    ap (λ (y : CoreState). y.hurt) same ∙ or_left d.hurt (d.epoch == epoch) (this d refl)

pub unhurt_was : (epoch : ℕ) (o : Option CoreState) (e : CoreState) → hurt_at epoch o ≡ Some e → e.hurt ≡ false → (d : CoreState) × (o ≡ Some d) × (d.hurt ≡ false)
unhurt_was epoch None e is free = absurd cc
unhurt_was epoch (Some d) e is free =
    let same = one_value (hurt_at epoch (Some d)) e (record d { hurt = d.hurt || (d.epoch == epoch) }) is refl in
    (d, refl, (or_parts d.hurt (d.epoch == epoch) (ap (λ (y : CoreState). y.hurt) (sym same) ∙ free)).0)

-- the cores after a violation that a core notes which runs
pub hurt_effect : (image : LoadedImage) (t : FlatState) (by epoch : ℕ) (c : CoreState) → t.cores by ≡ Some c
    → effect image t (record { by = by; what = Hurt epoch }) ≡ record t { cores = λ k. hurt_at epoch (t.cores k) }
hurt_effect image t by epoch c at = effect-on image t by (Hurt epoch) c at
