-- The epochs that are done in order, and what each changes.
use Rattle.std.proofs.Common.{◌≡◌, ◌⊎◌, ℕ, zero, suc, ◌+◌, ◌<◌, ◌≤◌, List, length, slice_index, refl, sym, ap, subst, ◌∙◌, inl, inr, arith, add-one}
use Rattle.std.proofs.lemmas.Bool.{cases_eq, cases_lt}
use Rattle.rv32_image.specs.Image.{LoadedImage, IsImage}
use Rattle.rv32_exec.specs.declared.sequential.End.{End}
use Rattle.rv32_exec.specs.declared.sequential.End.TheVariants.{Done, Exit, Fault}
use Rattle.rv32_exec.specs.Hart.{HartState, start_of}
use Rattle.rv32_exec.specs.Sequential.{Progress, SequentialResult, Runs, Ends, Faults, after_steps, epoch_outcome, first_epochs, result_of, then_epoch}
use Rattle.rv32_exec.proofs.Epochs.{done_counts, first_epochs-none}
use Rattle.epoch_paths.specs.Paths.{Stores}
use Rattle.epoch_paths.specs.InOrder.{IsInOrder, memory_before, AreAll}
use Rattle.epoch_paths.proofs.Alike.{Alike, run_alike, stop_alike}
use Rattle.rv32_exec.specs.declared.sequential.End.TheVariants as end

abbrev then_result : LoadedImage → ℕ → SequentialResult → SequentialResult
then_result image h before = then_epoch before before.end (λ memory. result_of image h (epoch_outcome image h memory))

one_more : (image : LoadedImage) (h : ℕ) → first_epochs image (suc h) ≡ then_result image h (first_epochs image h)
unfolding first_epochs
one_more image h = refl

-- the last epoch of those that are done
record IsLastDone (image : LoadedImage) (h : ℕ) : Type 0 where
  pub n : ℕ
  pub done : (first_epochs image h).end ≡ Done n
  pub hart : HartState
  pub ends : epoch_outcome image h (memory_before image h) ≡ Ends hart (memory_before image (suc h))

ends_by : (image : LoadedImage) (h n m : ℕ) (p : Progress) → (first_epochs image h).end ≡ Done n → epoch_outcome image h (memory_before image h) ≡ p
    → first_epochs image (suc h) ≡ result_of image h p → (result_of image h p).end ≡ Done m → IsLastDone image h
ends_by image h n m (Ends hart after) before outcome whole is = record {
  n = n;
  done = before;
  hart = hart;
  ends = outcome ∙ ap (Ends hart) (sym (ap (λ (r : SequentialResult). r.bytes) whole));
}
ends_by image h n m (Faults cause pc after) before outcome whole is = absurd cc
ends_by image h n m (Runs hart after) before outcome whole is = absurd cc

last_by : (image : LoadedImage) (h m : ℕ) (e : End) → (first_epochs image h).end ≡ e → (first_epochs image (suc h)).end ≡ Done m → IsLastDone image h
last_by image h m (Done n) before is =
    let whole = one_more image h ∙ ap (λ e. then_epoch (first_epochs image h) e (λ memory. result_of image h (epoch_outcome image h memory))) before in
    ends_by image h n m (epoch_outcome image h (memory_before image h)) before refl whole (sym (ap (λ (r : SequentialResult). r.end) whole) ∙ is)
last_by image h m (Exit epoch) before is =
    let whole = one_more image h ∙ ap (λ e. then_epoch (first_epochs image h) e (λ memory. result_of image h (epoch_outcome image h memory))) before in
    let ended : Exit epoch ≡ Done m = sym before ∙ (sym (ap (λ (r : SequentialResult). r.end) whole) ∙ is) in absurd cc
last_by image h m (Fault epoch cause pc) before is =
    let whole = one_more image h ∙ ap (λ e. then_epoch (first_epochs image h) e (λ memory. result_of image h (epoch_outcome image h memory))) before in
    let ended : Fault epoch cause pc ≡ Done m = sym before ∙ (sym (ap (λ (r : SequentialResult). r.end) whole) ∙ is) in absurd cc

last_done : (image : LoadedImage) (h m : ℕ) → (first_epochs image (suc h)).end ≡ Done m → IsLastDone image h
last_done image h m is = last_by image h m (first_epochs image h).end refl is

-- so many are done as there were
pub done_number : (image : LoadedImage) (h n : ℕ) → (first_epochs image h).end ≡ Done n → h ≡ n
done_number image zero n is =
    let none : Done 0 ≡ Done n = sym (ap (λ (r : SequentialResult). r.end) (first_epochs-none image)) ∙ is in cc
done_number image (suc h) n is =
    let last = last_done image h n is in
    let whole = one_more image h ∙ ap (λ e. then_epoch (first_epochs image h) e (λ memory. result_of image h (epoch_outcome image h memory))) last.done in
    let number : n ≡ h + 1 = done_counts image h (epoch_outcome image h (memory_before image h)) n (sym (ap (λ (r : SequentialResult). r.end) whole) ∙ is) in
    omega (arith, number)

pub before_in_order : (image : LoadedImage) (h : ℕ) → IsInOrder image (suc h) → IsInOrder image h
before_in_order image h is = let last = last_done image h (suc h) is in last.done ∙ ap Done (sym (done_number image h last.n last.done))

-- each epoch up to one that runs in order does
pub all_in_order : (image : LoadedImage) (h d : ℕ) → IsInOrder image h → d ≤ h → IsInOrder image d
all_in_order image zero d is most = let same : 0 ≡ d = omega (arith, most) in subst (λ n. IsInOrder image n) same is
all_in_order image (suc h) d is most = elim (cases_eq d (suc h)) [
  | inl e ↦ subst (λ n. IsInOrder image n) (sym e) is
  | inr other ↦ all_in_order image h d (before_in_order image h is) (omega (arith, most, other))
]

-- ---- what they write

end_by : (image : LoadedImage) (h : ℕ) (first : List ℕ) (hart : HartState) (after : List ℕ) (n : ℕ) → after_steps image n (start_of image h) (memory_before image h) ≡ Ends hart after
    → Alike image h first (memory_before image h) n
    → (length after ≡ image.size) × ((a : ℕ) → (slice_index after a ≡ slice_index (memory_before image h) a) ⊎ Stores image h first a)
end_by image h first hart after n ends (run_alike g own both) = let runs : Runs g both.after' ≡ Ends hart after = sym both.runs' ∙ ends in absurd cc
end_by image h first hart after n ends (stop_alike both) = both.changed hart after ends

outcome_is : (image : LoadedImage) (epoch : ℕ) (memory : List ℕ) → epoch_outcome image epoch memory ≡ after_steps image (image.limit + 1) (start_of image epoch) memory
unfolding epoch_outcome
outcome_is image epoch memory = refl

-- what an epoch that is done changes, it stores over any memory over which it is alike
pub ends_with : (image : LoadedImage) (h : ℕ) (first : List ℕ) → IsInOrder image (suc h) → Alike image h first (memory_before image h) (image.limit + 1)
    → (length (memory_before image (h + 1)) ≡ image.size)
    × ((a : ℕ) → (slice_index (memory_before image (h + 1)) a ≡ slice_index (memory_before image h) a) ⊎ Stores image h first a)
ends_with image h first is both =
    let last = last_done image h (suc h) is in
    let ends : epoch_outcome image h (memory_before image h) ≡ Ends last.hart (memory_before image (h + 1)) =
    last.ends ∙ ap (λ n. Ends last.hart (memory_before image n)) (sym (add-one h)) in
    end_by image h first last.hart (memory_before image (h + 1)) (image.limit + 1) (sym (outcome_is image h (memory_before image h)) ∙ ends) both

pub memory_none : (image : LoadedImage) → IsImage image → length (memory_before image 0) ≡ image.size
memory_none image is = ap (λ (r : SequentialResult). length r.bytes) (first_epochs-none image) ∙ is.byte_count

pub all_by_last : (image : LoadedImage) (epoch : ℕ) → epoch < image.epochs → IsInOrder image epoch → (IsInOrder image (epoch + 1) → ⊥) → AreAll image (epoch + 1)
all_by_last image epoch within order none = record {
  most = omega (arith, within);
  each = λ d low. all_in_order image epoch d order (omega (arith, low));
  no_more = λ d low is. elim (cases_lt d (epoch + 1)) [
    | inl below ↦ below
    | inr high ↦ absurd (none (all_in_order image d (epoch + 1) is high))
  ];
}

pub all_by_end : (image : LoadedImage) → IsInOrder image image.epochs → AreAll image image.epochs
all_by_end image order = record { most = omega arith; each = λ d low. all_in_order image image.epochs d order (omega (arith, low)); no_more = λ d low is. low }

pub runs_in_order : (image : LoadedImage) (epoch : ℕ) (memory : List ℕ) → first_epochs image epoch ≡ record { end = end.Done epoch; bytes = memory } → IsInOrder image epoch
runs_in_order image epoch memory done = ap (λ (r : SequentialResult). r.end) done
