-- A line `even` more for each number of cores.
use Rattle.std.proofs.Common.{◌≡◌, ℕ, ◌+◌, ◌-◌, ◌<◌, ◌≤◌, List, length, get_or, drop, Result, Ok, Err, OnOk, sym, subst, arith, inl, inr}
use Rattle.std.proofs.lemmas.Bool.{cases_eq}
use Rattle.std.proofs.lemmas.List.{drop_more}
use Rattle.rv32_image.specs.Image.{LoadedImage}
use Rattle.violations.specs.View.{StoreView, Waits}
use Rattle.violations.specs.Calls.{Call}
use Rattle.turn_costs.specs.Prices.{Prices}
use Rattle.gain.specs.declared.gains.Study.{Study}
use Rattle.gain.specs.Evens.{AddEven, AddEvenEach, AddEvens}
use Rattle.gain.specs.Lines.{more_counts}

-- what is so of each number of which it was, and of one more below them
pub one_below : (P : ℕ → Type 0) (tried k : ℕ) → k ≡ 60 - tried → tried ≤ 60 → ((j : ℕ) → 60 < j + tried → j ≤ 60 → P j) → P k → (j : ℕ) → 60 < j + (tried + 1) → j ≤ 60 → P j
one_below P tried k is within before here j over most = elim (cases_eq j k) [
  | inl e ↦ subst P (sym e) here
  | inr other ↦ before j (omega (arith, is, within, over, most, other)) most
]

module _ {S : Type 0} (starts : LoadedImage → ℕ → S → Type 0) (makes : S → Call → S → Type 0) (view : S → StoreView) (waits : S → Waits) (prices : S → Prices) (keeps : S → Type 0) (addresses : List ℕ)
    (study : Study) (image : LoadedImage) (store : List ℕ) where
  pub evens_more : (counts start : List ℕ) (i : ℕ) (text text' : List ℕ) → i < length counts
      → ((new : List ℕ) → AddEvenEach starts makes view waits prices keeps addresses study image store (drop i counts) text new
      → AddEvenEach starts makes view waits prices keeps addresses study image store counts start new)
      → AddEven starts makes view waits prices keeps addresses study image store (get_or counts i 0) text text'
      → (new : List ℕ) → AddEvenEach starts makes view waits prices keeps addresses study image store (drop (i + 1) counts) text' new
      → AddEvenEach starts makes view waits prices keeps addresses study image store counts start new
  evens_more counts start i text text' there adds one new more =
      adds new (subst (λ ks. AddEvenEach starts makes view waits prices keeps addresses study image store ks text new) (sym (drop_more counts i 0 there)) (text', one, more))

  -- the line of one core, and those of more
  pub evens_of : {T E : Type 0} (counts old mid new : List ℕ) (result : Result T E) → counts ≡ more_counts study.cores
      → AddEven starts makes view waits prices keeps addresses study image store 1 old mid
      → OnOk result (AddEvenEach starts makes view waits prices keeps addresses study image store counts mid new)
      → OnOk result (AddEvens starts makes view waits prices keeps addresses study image store old new)
  evens_of counts old mid new (Ok done) are one each =
      (mid, one, subst (λ ks. AddEvenEach starts makes view waits prices keeps addresses study image store ks mid new) are each)
  evens_of counts old mid new (Err fault) are one each = each
