-- A loop over all cores that changes each.
use Rattle.std.proofs.Common.{◌≡◌, ◌≢◌, ℕ, ◌+◌, ◌<◌, ◌≤◌, List, length, set, get_or, slice_get, slice_index, Option, Some, None, refl, sym, ap, ◌∙◌, inl, inr, arith, length-set, option_and_then}
use Rattle.std.proofs.lemmas.Bool.{cases_eq, cases_lt}
use Rattle.std.proofs.lemmas.Option.{slice_get_past}
use Rattle.rv32_image.specs.Image.{LoadedImage}
use Rattle.spec_history.specs.declared.cores.Core.{Core}
use Rattle.spec_history.specs.declared.machine.Machine.{Machine}
use Rattle.spec_history.specs.FlatState.{CoreState}
use Rattle.spec_history.specs.Cores.{core_of, IsCoreOf}
use Rattle.spec_history.specs.Machine.{cores_of, state_of, IsFit, AreCoresOf, Becomes}
use Rattle.spec_history.proofs.CodedCores.CoreStates.{core_there}
use Rattle.spec_history.proofs.CodedCores.Parts.{get_set_same, get_set_other, each_set, same_state}

-- the cores below i have changed, and the others are as before
pub record Changing (f : Option CoreState → Option CoreState) (image : LoadedImage) (i : ℕ) (before changed : List Core) : Type 0 where
  pub long : length changed ≡ length before
  pub front : (k : ℕ) → k < i → cores_of changed k ≡ f (cores_of before k)
  pub rest : (k : ℕ) → i ≤ k → slice_get changed k ≡ slice_get before k
  pub fit : (k : ℕ) (core : Core) → slice_get changed k ≡ Some core → IsCoreOf image core

pub changing_start : (f : Option CoreState → Option CoreState) (image : LoadedImage) (cores : List Core) → AreCoresOf image cores → Changing f image 0 cores cores
changing_start f image cores fit = record { long = refl; front = λ k below. absurd (omega arith); rest = λ k from. refl; fit = fit.each }

pub changing_more : (f : Option CoreState → Option CoreState) (image : LoadedImage) (i : ℕ) (before changed : List Core) (core new : Core) → i < length changed
    → core ≡ get_or changed i core → core_of new ≡ f (core_of core) → (IsCoreOf image core → IsCoreOf image new)
    → Changing f image i before changed → Changing f image (i + 1) before (set changed i new)
changing_more f image i before changed core new below is state keeps changing =
    let there = core_there changed changed i core refl below is in
    let at : cores_of before i ≡ core_of core = ap (option_and_then core_of) (sym (changing.rest i (omega arith)) ∙ there) in record {
      long = length-set changed i new ∙ changing.long;
      front = λ k under. elim (cases_eq k i) [
        | inl e ↦ ap (cores_of (set changed i new)) e ∙ (ap (option_and_then core_of) (get_set_same changed i new below)
            ∙ (state ∙ sym (ap (λ j. f (cores_of before j)) e ∙ ap f at)))
        | inr other ↦ ap (option_and_then core_of) (get_set_other changed i k new other) ∙ changing.front k (omega arith)
      ];
      rest = λ k from. let other : k ≢ i = omega arith in get_set_other changed i k new other ∙ changing.rest k (omega arith);
      fit = each_set (IsCoreOf image) changed i new below (keeps (changing.fit i core there)) changing.fit;
    }

all_changed : (f : Option CoreState → Option CoreState) (image : LoadedImage) (i : ℕ) (before changed : List Core) → f None ≡ None → length changed ≤ i
    → Changing f image i before changed → (k : ℕ) → cores_of changed k ≡ f (cores_of before k)
all_changed f image i before changed none all changing k = elim (cases_lt k i) [
  | inl below ↦ changing.front k below
  | inr from ↦ ap (option_and_then core_of) (slice_get_past changed k (omega arith))
      ∙ sym (ap (λ o. f (option_and_then core_of o)) (slice_get_past before k (omega (arith, changing.long))) ∙ none)
]

pub changed_becomes : (f : Option CoreState → Option CoreState) (m m' : Machine) (i : ℕ) → f None ≡ None → IsFit m → m'.image ≡ m.image → m'.committed ≡ m.committed → m'.homefree ≡ m.homefree
    → m'.published ≡ m.published → m'.next_epoch ≡ m.next_epoch → m'.end ≡ m.end → length m'.cores.items ≤ i → Changing f m.image i m.cores.items m'.cores.items
    → Becomes m m' (record (state_of m) { cores = λ k. f ((state_of m).cores k) })
changed_becomes f m m' i none fit image c h p n e all changing = record {
  image = image;
  state = same_state (λ a. slice_index m'.committed.items a) (λ a. slice_index m.committed.items a) m'.homefree m.homefree m'.published m.published m'.next_epoch m.next_epoch m'.end m.end
      (cores_of m'.cores.items) (λ k. f (cores_of m.cores.items k)) (λ a. ap (λ v. slice_index v.items a) c) h p n e
      (all_changed f m.image i m.cores.items m'.cores.items none all changing);
  count = changing.long;
  fit = record {
    image = rw image fit.image;
    committed = ap (λ v. length v.items) c ∙ (fit.committed ∙ ap (λ (x : LoadedImage). x.size) (sym image));
    cores = rw image (record { each = changing.fit });
  };
}
