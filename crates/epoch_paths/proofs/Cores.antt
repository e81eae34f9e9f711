-- Cores that run epochs: how many, which have published, and the loop's start.
use Rattle.std.proofs.Common.{◌≡◌, ◌≢◌, ℕ, zero, suc, ◌+◌, ◌<◌, ◌≤◌, Bool, true, false, cond, Some, refl, sym, ap, ◌∙◌, inl, inr, arith, slice_index, List, length}
use Rattle.std.proofs.lemmas.Bool.{cases_eq, cases_Bool}
use Rattle.rv32_image.specs.Image.{LoadedImage}
use Rattle.spec_history.specs.FlatState.{CoreState, FlatState}
use Rattle.spec_history.specs.Searches.{count_below}
use Rattle.spec_history.proofs.OneEntry.Going.{Going, others_speculate}
use Rattle.spec_history.proofs.Searches.Tests.{count_same}
use Rattle.rv32_exec.specs.Hart.{HartState, start_of}
use Rattle.spec_history.specs.Laws.{IsKept}
use Rattle.epoch_paths.specs.InOrder.{memory_before, IsInOrder}
use Rattle.rv32_exec.specs.Sequential.{SequentialResult, Runs, after_steps}

most_by : (n : ℕ) (f : ℕ → Bool) (b : Bool) → count_below n f ≤ n → count_below n f + cond b 1 0 ≤ suc n
most_by n f true most = omega (arith, most)
most_by n f false most = omega (arith, most)

pub count_most : (n : ℕ) (f : ℕ → Bool) → count_below n f ≤ n
unfolding count_below
count_most zero f = omega arith
count_most (suc n) f = most_by n f (f n) (count_most n f)

pub count_last : (n : ℕ) (f : ℕ → Bool) (b : Bool) → f n ≡ b → count_below (suc n) f ≡ count_below n f + cond b 1 0
unfolding count_below
count_last n f b is = ap (λ x. count_below n f + cond x 1 0) is

-- one more passes
pub count_more : (n at : ℕ) (f g : ℕ → Bool) → at < n → ((k : ℕ) → k ≢ at → f k ≡ g k) → f at ≡ false → g at ≡ true → count_below n g ≡ count_below n f + 1
count_more zero at f g within same fails passes = absurd (omega (arith, within))
count_more (suc n) at f g within same fails passes = elim (cases_eq n at) [
  | inl e ↦
      (let front = count_same n f g (λ k below. same k (omega (arith, below, e))) in
      let first = count_last n f false (ap f e ∙ fails) in
      let second = count_last n g true (ap g e ∙ passes) in omega (arith, front, first, second))
  | inr other ↦
      (let front = count_more n at f g (omega (arith, within, other)) same fails passes in
      let first = count_last n f (f n) refl in
      let second = count_last n g (f n) (sym (same n other)) in omega (arith, front, first, second))
]

-- beside the homefree one no core has published
pub others_not : (image : LoadedImage) (cores : ℕ) (s : FlatState) (by : ℕ) (c : CoreState) → IsKept image cores s → s.cores by ≡ Some c → c.epoch ≡ s.homefree
    → (k : ℕ) (d : CoreState) → k ≢ by → s.cores k ≡ Some d → d.straight ≡ false
others_not image cores s by c kept at homefree k d other at_k = elim (cases_Bool d.straight) [
  | inl straight ↦ absurd (others_speculate image cores s by c kept at homefree k d other at_k straight)
  | inr is ↦ is
]

-- nothing of the homefree epoch is published
pub record IsFresh (image : LoadedImage) (s : FlatState) : Type 0 where
  pub done : IsInOrder image s.homefree
  pub long : length (memory_before image s.homefree) ≡ image.size
  pub same : (a : ℕ) → s.committed a ≡ slice_index (memory_before image s.homefree) a

no_steps : (image : LoadedImage) (h g : HartState) (memory memory' : List ℕ) → after_steps image 0 h memory ≡ Runs g memory' → memory' ≡ memory
unfolding after_steps
no_steps image h g memory memory' runs = cc

pub fresh : (image : LoadedImage) (cores : ℕ) (s : FlatState) → Going image cores s → s.published ≡ 0 → IsFresh image s
fresh image cores s going none =
    let shown = going.shown in
    let bytes : memory_before image s.homefree ≡ shown.before = ap (λ (r : SequentialResult). r.bytes) shown.done in
    let same : shown.memory ≡ shown.before =
    no_steps image (start_of image s.homefree) shown.hart shown.before shown.memory
    (sym (ap (λ n. after_steps image n (start_of image s.homefree) shown.before) none) ∙ shown.runs) in record {
      done = ap (λ (r : SequentialResult). r.end) shown.done;
      long = ap (λ m. length m) bytes ∙ shown.long;
      same = λ a. shown.holds.bytes a ∙ ap (λ m. slice_index m a) (same ∙ sym bytes);
    }
