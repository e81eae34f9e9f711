-- The epochs that run in order, those past them, and conflicts among both.
use Rattle.std.proofs.Common.{◌≡◌, ℕ, ◌+◌, ◌-◌, ◌<◌, ◌≤◌, Bool, true, false, List, slice_index, Option, Some, None, refl, sym, ap, subst, ◌∙◌, inl, inr, arith}
use Rattle.std.proofs.lemmas.Bool.{cases_eq, cases_lt}
use Rattle.std.proofs.lemmas.Bool.Decides.{nat_tests}
use Rattle.rv32_image.specs.Image.{LoadedImage}
use Rattle.rv32_exec.specs.declared.sequential.End.{End}
use Rattle.rv32_exec.specs.declared.sequential.End.TheVariants.{Done, Exit, Fault}
use Rattle.rv32_exec.specs.Sequential.{SequentialResult, first_epochs}
use Rattle.rv32_exec.proofs.Epochs.{first_epochs-none}
use Rattle.epoch_paths.specs.Paths.{ReadsOutside, Stores}
use Rattle.epoch_paths.specs.InOrder.{IsInOrder, memory_before, AreAll}
use Rattle.dependences.specs.Conflict.{ConflictInOrder, first_beside, memory_by, path_memory, run_memory}
use Rattle.epoch_paths.specs.Kept.{IsNext}
use Rattle.dependences.specs.Kept.{ConflictsBefore, DependsBefore, IsLastWriter, IsLeast, MeetsWriter, is_near}
use Rattle.dependences.specs.KeptRun.{IsLeft}
use Rattle.epoch_paths.proofs.InOrder.{all_in_order, all_by_last, all_by_end}
use Rattle.dependences.proofs.InOrder.{low_most}
use Rattle.dependences.proofs.Showing.{number_done, run_in_order}
use Rattle.dependences.proofs.Following.{last_most, last_of}

-- ---- which epochs run in order

-- before the first epoch
pub left_first : (image : LoadedImage) (memory : List ℕ) → memory ≡ image.bytes → IsLeft image 0 memory true
left_first image memory same = first_epochs-none image ∙ ap (λ (m : List ℕ). let r : SequentialResult = record { end = Done 0; bytes = m } in r) (sym same)

-- after an epoch that has run
pub left_next : (image : LoadedImage) (epoch : ℕ) (memory : List ℕ) (goes_on : Bool) → epoch < image.epochs → IsInOrder image epoch → IsNext image (epoch + 1) memory goes_on
    → IsLeft image (epoch + 1) memory goes_on
left_next image epoch memory true within order next = next
left_next image epoch memory false within order none = all_by_last image epoch within order none

-- no number of epochs is left
pub all_left : (image : LoadedImage) (memory : List ℕ) (goes_on : Bool) → IsLeft image image.epochs memory goes_on → AreAll image image.epochs
all_left image memory true done = all_by_end image (ap (λ (r : SequentialResult). r.end) done)
all_left image memory false all = all

-- ---- near epochs

module _ (image : LoadedImage) (cores ran : ℕ) (all : AreAll image ran) where
  pub earlier_ran : (conflict : ConflictInOrder image cores) → conflict.earlier < ran
  earlier_ran conflict =
      let before = conflict.beside.before in
      let within = conflict.beside.within in all.no_more conflict.earlier (omega (arith, before, within)) conflict.in_order

  near_by : (distance : ℕ) → distance < cores → DependsBefore image ran distance → ConflictInOrder image cores
  near_by distance near y =
      let apart = y.apart in
      let before = y.depends.before in
      let order = y.depends.in_order in
      let order' = all_in_order image y.later y.earlier order (omega (arith, before)) in record {
        earlier = y.earlier;
        later = y.later;
        byte = y.depends.byte;
        beside = record {
          from = omega (arith, apart, near);
          before = before;
          within = y.depends.within;
          starts = all_in_order image y.later (first_beside cores y.later) order (low_most cores y.later);
        };
        in_order = order';
        stores = subst (λ m. Stores image y.earlier m y.depends.byte) (sym (run_in_order image cores y.earlier order')) y.depends.stores;
        reads = subst (λ m. ReadsOutside image y.later m y.depends.byte) (sym (run_in_order image cores y.later order)) y.depends.reads;
      }

  -- epochs that depend on each other and are that near conflict
  pub near_conflicts : (nearest : Option ℕ) → IsLeast (DependsBefore image ran) nearest → is_near cores nearest ≡ true → ConflictInOrder image cores
  near_conflicts (Some distance) least near = near_by distance (grind (arith, nat_tests)) least.0
  near_conflicts None least near = absurd cc

  depends_of : (conflict : ConflictInOrder image cores) → conflict.later < ran → DependsBefore image ran (conflict.later - conflict.earlier)
  depends_of conflict low =
      let before = conflict.beside.before in
      let order = all.each conflict.later low in record {
        earlier = conflict.earlier;
        later = conflict.later;
        apart = omega (arith, before);
        before = low;
        depends = record {
          byte = conflict.byte;
          before = before;
          within = conflict.beside.within;
          in_order = order;
          stores = subst (λ m. Stores image conflict.earlier m conflict.byte) (run_in_order image cores conflict.earlier conflict.in_order) conflict.stores;
          reads = subst (λ m. ReadsOutside image conflict.later m conflict.byte) (run_in_order image cores conflict.later order) conflict.reads;
        };
      }

  too_near : (distance earlier later : ℕ) → cores ≤ distance → distance ≤ later - earlier → first_beside cores later ≤ earlier → earlier < later → ⊥
  too_near distance earlier later far most from before = omega (arith, far, most, from, before)

  -- where none are that near, no two that run in order conflict
  pub far_before : (nearest : Option ℕ) → IsLeast (DependsBefore image ran) nearest → is_near cores nearest ≡ false → ConflictsBefore image cores ran → ⊥
  far_before (Some distance) least far y =
      too_near distance y.conflict.earlier y.conflict.later (grind (arith, nat_tests)) (least.1 _ (depends_of y.conflict y.before)) y.conflict.beside.from y.conflict.beside.before
  far_before None least far y = least _ (depends_of y.conflict y.before)

  -- ---- epochs past the end

  past_by : (epoch : ℕ) → ran ≤ epoch → epoch < image.epochs → (e : End) → (first_epochs image epoch).end ≡ e → memory_by image cores epoch e ≡ path_memory image cores epoch
  past_by epoch past within (Done n) is =
      let low = all.no_more epoch within (number_done image epoch n is) in absurd (omega (arith, low, past))
  past_by epoch past within (Exit last) is = refl
  past_by epoch past within (Fault last cause pc) is = refl

  past_memory : (epoch : ℕ) → ran ≤ epoch → epoch < image.epochs → run_memory image cores epoch ≡ path_memory image cores epoch
  past_memory epoch past within = past_by epoch past within (first_epochs image epoch).end refl

  -- the memory of such an epoch
  pub memory_there : (epoch first : ℕ) (memory : List ℕ) → ran ≤ epoch → epoch < image.epochs → first ≡ first_beside cores epoch
      → first_epochs image first ≡ record { end = Done first; bytes = memory } → run_memory image cores epoch ≡ memory
  memory_there epoch first memory past within is done =
      past_memory epoch past within ∙ (sym (ap (memory_before image) is) ∙ ap (λ (r : SequentialResult). r.bytes) done)

  pub meets_conflicts : (later first : ℕ) (memory writers : List ℕ) → ran ≤ later → later < image.epochs → first ≡ first_beside cores later → first < ran
      → first_epochs image first ≡ record { end = Done first; bytes = memory } → ((a : ℕ) → IsLastWriter image ran a (slice_index writers a))
      → MeetsWriter image later memory writers first → ConflictInOrder image cores
  meets_conflicts later first memory writers past within is low done writer m =
      let written = m.written in
      let last = last_of image ran m.byte (slice_index writers m.byte) (writer m.byte) (omega (arith, written)) in
      let number = last.1 in
      let ran_low = last.2 in
      let order = all.each last.0 ran_low in record {
        earlier = last.0;
        later = later;
        byte = m.byte;
        beside = record {
          from = omega (arith, is, written, number);
          before = omega (arith, ran_low, past);
          within = within;
          starts = all.each (first_beside cores later) (omega (arith, is, low));
        };
        in_order = order;
        stores = subst (λ x. Stores image last.0 x m.byte) (sym (run_in_order image cores last.0 order)) last.3;
        reads = subst (λ x. ReadsOutside image later x m.byte) (sym (memory_there later first memory past within is done)) m.reads;
      }

  meets_by : (first : ℕ) (memory writers : List ℕ) (conflict : ConflictInOrder image cores) → ran ≤ conflict.later → first ≡ first_beside cores conflict.later
      → first_epochs image first ≡ record { end = Done first; bytes = memory } → ((a : ℕ) → IsLastWriter image ran a (slice_index writers a))
      → MeetsWriter image conflict.later memory writers first
  meets_by first memory writers conflict past is done writer =
      let stores = subst (λ m. Stores image conflict.earlier m conflict.byte) (run_in_order image cores conflict.earlier conflict.in_order) conflict.stores in
      let last = last_most image ran conflict.byte (slice_index writers conflict.byte) conflict.earlier (writer conflict.byte) (earlier_ran conflict) stores in
      let from = conflict.beside.from in
      let most = last.2 in record {
        byte = conflict.byte;
        reads = subst (λ m. ReadsOutside image conflict.later m conflict.byte) (memory_there conflict.later first memory past conflict.beside.within is done) conflict.reads;
        written = omega (arith, is, from, most);
      }

  -- where this epoch meets none, and none conflicts before it, none conflicts up to it
  pub none_more : (later first : ℕ) (memory writers : List ℕ) → ran ≤ later → first ≡ first_beside cores later
      → first_epochs image first ≡ record { end = Done first; bytes = memory } → ((a : ℕ) → IsLastWriter image ran a (slice_index writers a))
      → (MeetsWriter image later memory writers first → ⊥) → (ConflictsBefore image cores later → ⊥) → ConflictsBefore image cores (later + 1) → ⊥
  none_more later first memory writers past is done writer unmet none y = elim (cases_eq y.conflict.later later) [
    | inl e ↦ unmet (subst (λ n. MeetsWriter image n memory writers first) e
        (meets_by first memory writers y.conflict (omega (arith, past, e)) (is ∙ sym (ap (first_beside cores) e)) done writer))
    | inr other ↦ (let before = y.before in none (record { conflict = y.conflict; before = omega (arith, before, other) }))
  ]

  -- nor is there one further on, where the first epoch beside it is past the end
  pub none_further : (later : ℕ) → ran ≤ first_beside cores later → (ConflictsBefore image cores later → ⊥) → ConflictInOrder image cores → ⊥
  none_further later past none conflict = elim (cases_lt conflict.later later) [
    | inl before ↦ none (record { conflict = conflict; before = before })
    | inr from ↦
        (let first = conflict.beside.from in
        let low = earlier_ran conflict in omega (arith, first, low, past, from))
  ]

pub none_at_all : (image : LoadedImage) (cores : ℕ) → (ConflictsBefore image cores image.epochs → ⊥) → ConflictInOrder image cores → ⊥
none_at_all image cores none conflict = none (record { conflict = conflict; before = conflict.beside.within })

-- what is known where the search is at an epoch past the end
pub record Searched (image : LoadedImage) (cores later done : ℕ) (memory : List ℕ) : Type 0 where
  pub before : first_epochs image done ≡ record { end = Done done; bytes = memory }
  pub low : done ≤ first_beside cores later
  pub none : ConflictsBefore image cores later → ⊥
