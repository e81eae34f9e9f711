-- What one legal entry keeps.
use Rattle.std.proofs.Common.{◌≡◌, ◌≢◌, ◌⊎◌, ℕ, ◌+◌, ◌<◌, ◌≤◌, ◌&&◌, Bool, true, false, cond, is_none, nat_lt, nat_le, List, Option, Some, None, refl, sym, ap, ◌∙◌, inl, inr, true≢false, arith, eq-eqb, ne_eqb}
use Rattle.std.proofs.lemmas.Bool.{cases_eq}
use Rattle.std.proofs.lemmas.Bool.Decides.{nat_tests}
use Rattle.memory_bytes.proofs.Bytes.{within_test}
use Rattle.rv32_image.specs.Image.{LoadedImage}
use Rattle.rv32_image.proofs.SmallFacts.{one_value}
use Rattle.rv32_exec.specs.Hart.{start_of}
use Rattle.rv32_exec.specs.Sequential.{Runs, after_steps}
use Rattle.memory_bytes.specs.Maps.{first_of, read_outside}
use Rattle.spec_history.specs.FlatState.{CoreState, begun}
use Rattle.spec_history.specs.Effect.{with_core}
use Rattle.spec_history.specs.Laws.{IsKeptCore}

-- ---- one core changed

pub at_core : (cores : ℕ → Option CoreState) (by : ℕ) (core : Option CoreState) (k : ℕ) (c : CoreState) → with_core cores by core k ≡ Some c
    → ((k ≡ by) × (core ≡ Some c)) ⊎ ((k ≢ by) × (cores k ≡ Some c))
at_core cores by core k c is = elim (cases_eq k by) [
  | inl e ↦ inl (e, sym (ap (λ b. cond b core (cores k)) (eq-eqb k by e)) ∙ is)
  | inr other ↦ inr (other, sym (ap (λ b. cond b core (cores k)) (ne_eqb k by other)) ∙ is)
]

pub with_core_other : (cores : ℕ → Option CoreState) (by : ℕ) (core : Option CoreState) (k : ℕ) → k ≢ by → with_core cores by core k ≡ cores k
with_core_other cores by core k other = ap (λ b. cond b core (cores k)) (ne_eqb k by other)

pub with_core_same : (cores : ℕ → Option CoreState) (by : ℕ) (core : Option CoreState) → with_core cores by core by ≡ core
with_core_same cores by core = ap (λ b. cond b core (cores by)) (eq-eqb by by refl)

-- no two cores run the same epoch
abbrev pub IsApart : (ℕ → Option CoreState) → Type 0
IsApart cores = (j k : ℕ) (c d : CoreState) → cores j ≡ Some c → cores k ≡ Some d → c.epoch ≡ d.epoch → j ≡ k

apart_by : (cores : ℕ → Option CoreState) (by : ℕ) (new : Option CoreState)
    → ((c : CoreState) → new ≡ Some c → (k : ℕ) (d : CoreState) → k ≢ by → cores k ≡ Some d → c.epoch ≡ d.epoch → ⊥)
    → IsApart cores → (j k : ℕ) (c d : CoreState) → c.epoch ≡ d.epoch
    → ((j ≡ by) × (new ≡ Some c)) ⊎ ((j ≢ by) × (cores j ≡ Some c))
    → ((k ≡ by) × (new ≡ Some d)) ⊎ ((k ≢ by) × (cores k ≡ Some d)) → j ≡ k
apart_by cores by new fresh apart j k c d same (inl at_j) (inl at_k) = at_j.0 ∙ sym at_k.0
apart_by cores by new fresh apart j k c d same (inl at_j) (inr at_k) = absurd (fresh c at_j.1 k d at_k.0 at_k.1 same)
apart_by cores by new fresh apart j k c d same (inr at_j) (inl at_k) = absurd (fresh d at_k.1 j c at_j.0 at_j.1 (sym same))
apart_by cores by new fresh apart j k c d same (inr at_j) (inr at_k) = apart j k c d at_j.1 at_k.1 same

-- a core whose epoch no other one runs
pub apart_with : (cores : ℕ → Option CoreState) (by : ℕ) (new : Option CoreState)
    → ((c : CoreState) → new ≡ Some c → (k : ℕ) (d : CoreState) → k ≢ by → cores k ≡ Some d → c.epoch ≡ d.epoch → ⊥)
    → IsApart cores → IsApart (with_core cores by new)
apart_with cores by new fresh apart j k c d at_j at_k same =
    apart_by cores by new fresh apart j k c d same (at_core cores by new j c at_j) (at_core cores by new k d at_k)

-- a core that keeps its epoch
pub apart_changed : (cores : ℕ → Option CoreState) (by : ℕ) (core new : CoreState) → cores by ≡ Some core → new.epoch ≡ core.epoch
    → IsApart cores → IsApart (with_core cores by (Some new))
apart_changed cores by core new runs same apart =
    apart_with cores by (Some new)
    (λ c is k d other at_k clash. let epoch : c.epoch ≡ core.epoch = ap (λ (x : CoreState). x.epoch) (one_value (Some new) c new is refl) ∙ same in
    other (apart k by d core at_k runs (sym clash ∙ epoch)))
    apart

-- ---- what is kept of a core

abbrev pub Keeps : LoadedImage → ℕ → (ℕ → ℕ) → ℕ → ℕ → (ℕ → Option CoreState) → Type 0
Keeps image count committed homefree next_epoch cores =
    (k : ℕ) (c : CoreState) → cores k ≡ Some c → IsKeptCore image count committed homefree next_epoch k c

keeps_by : (image : LoadedImage) (count : ℕ) (committed : ℕ → ℕ) (homefree next_epoch : ℕ) (cores : ℕ → Option CoreState) (by : ℕ) (new : Option CoreState)
    → ((c : CoreState) → new ≡ Some c → IsKeptCore image count committed homefree next_epoch by c)
    → ((k : ℕ) (c : CoreState) → k ≢ by → cores k ≡ Some c → IsKeptCore image count committed homefree next_epoch k c)
    → (k : ℕ) (c : CoreState) → ((k ≡ by) × (new ≡ Some c)) ⊎ ((k ≢ by) × (cores k ≡ Some c)) → IsKeptCore image count committed homefree next_epoch k c
keeps_by image count committed homefree next_epoch cores by new here others k c (inl at) = rw at.0 (here c at.1)
keeps_by image count committed homefree next_epoch cores by new here others k c (inr at) = others k c at.0 at.1

pub keeps_with : (image : LoadedImage) (count : ℕ) (committed : ℕ → ℕ) (homefree next_epoch : ℕ) (cores : ℕ → Option CoreState) (by : ℕ) (new : Option CoreState)
    → ((c : CoreState) → new ≡ Some c → IsKeptCore image count committed homefree next_epoch by c)
    → ((k : ℕ) (c : CoreState) → k ≢ by → cores k ≡ Some c → IsKeptCore image count committed homefree next_epoch k c)
    → Keeps image count committed homefree next_epoch (with_core cores by new)
keeps_with image count committed homefree next_epoch cores by new here others k c at =
    keeps_by image count committed homefree next_epoch cores by new here others k c (at_core cores by new k c at)

-- where the rest of the state moves on
pub moves_on : (image : LoadedImage) (count : ℕ) (committed committed' : ℕ → ℕ) (homefree homefree' next_epoch next_epoch' k : ℕ) (c : CoreState)
    → homefree' ≤ c.epoch → (c.straight ≡ true → c.epoch ≡ homefree') → next_epoch ≤ next_epoch'
    → (c.hurt ≡ false → (a byte : ℕ) → c.outside a ≡ Some byte → committed' a ≡ committed a)
    → IsKeptCore image count committed homefree next_epoch k c → IsKeptCore image count committed' homefree' next_epoch' k c
moves_on image count committed committed' homefree homefree' next_epoch next_epoch' k c from straight more spared kept = record {
  there = kept.there;
  from = from;
  below = omega (arith, kept.below);
  straight_homefree = straight;
  straight_unhurt = kept.straight_unhurt;
  straight_owns = kept.straight_owns;
  straight_read = kept.straight_read;
  within = kept.within;
  reads_stand = λ unhurt a byte read. spared unhurt a byte read ∙ kept.reads_stand unhurt a byte read;
  runs_alone = kept.runs_alone;
}

-- ---- a core at the start of an epoch

pub start_runs : (image : LoadedImage) (epoch : ℕ) (memory : List ℕ) → after_steps image 0 (start_of image epoch) memory ≡ Runs (start_of image epoch) memory
unfolding after_steps
start_runs image epoch memory = refl

pub begun_kept : (image : LoadedImage) (count : ℕ) (committed : ℕ → ℕ) (homefree next_epoch k epoch : ℕ) → k < count → homefree ≤ epoch → epoch < next_epoch
    → IsKeptCore image count committed homefree next_epoch k (begun image epoch)
begun_kept image count committed homefree next_epoch k epoch there from below = record {
  there = there;
  from = from;
  below = below;
  straight_homefree = λ is. absurd (true≢false (sym is));
  straight_unhurt = λ is. refl;
  straight_owns = λ is a. refl;
  straight_read = λ is a. refl;
  within = λ a byte is. absurd cc;
  reads_stand = λ unhurt a byte is. absurd cc;
  runs_alone = λ unhurt speculative memory has. record {
    after = memory;
    runs = start_runs image epoch memory;
    holds = record { long = has.long; bytes = λ a. refl };
  };
}

-- ---- a speculative load

-- the bytes that are read are noted, unless they are its own
pub noted : (address width a : ℕ) (own : ℕ → Option ℕ) (committed : ℕ → ℕ) → address ≤ a → a < address + width → own a ≡ None
    → read_outside address width own committed a ≡ Some (committed a)
noted address width a own committed low high none = rw (none, within_test address width a low high) refl

noted_by : (low high none : Bool) (end a byte here : ℕ) → nat_lt a end ≡ high → cond ((low && high) && none) (Some here) None ≡ Some byte → (a < end) × (byte ≡ here)
noted_by true true true end a byte here within is = (grind (arith, nat_tests), cc)
noted_by true true false end a byte here within is = absurd cc
noted_by true false none end a byte here within is = absurd cc
noted_by false high none end a byte here within is = absurd cc

pub noted_within : (address width a byte : ℕ) (own : ℕ → Option ℕ) (committed : ℕ → ℕ) → read_outside address width own committed a ≡ Some byte
    → (a < address + width) × (byte ≡ committed a)
noted_within address width a byte own committed is =
    noted_by (nat_le address a) (nat_lt a (address + width)) (is_none (own a)) (address + width) a byte (committed a) refl is

-- a byte read before, or now
pub data Read (image : LoadedImage) (c : CoreState) (committed : ℕ → ℕ) (address width a byte : ℕ) : Type 0 where
  read_now : a < address + width → byte ≡ committed a → Read image c committed address width a byte
  read_before : c.outside a ≡ Some byte → Read image c committed address width a byte

pub was_read : (image : LoadedImage) (c : CoreState) (committed : ℕ → ℕ) (address width a byte : ℕ) (now : Option ℕ) → read_outside address width c.own committed a ≡ now
    → first_of now (c.outside a) ≡ Some byte → Read image c committed address width a byte
was_read image c committed address width a byte None now is = read_before is
was_read image c committed address width a byte (Some b) now is =
    let parts = noted_within address width a b c.own committed now in
    let same : b ≡ byte = cc in read_now parts.0 (sym same ∙ parts.1)
