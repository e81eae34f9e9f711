-- Tests below a number, from what a loop has found, and what a search from the front finds.
use Rattle.std.proofs.Common.{◌≡◌, ℕ, zero, suc, ◌+◌, ◌<◌, ◌≤◌, Bool, true, false, Option, Some, None, if◌then◌else◌, unwrap_or, refl, sym, ap, ◌∙◌, inl, inr, arith, add-one, le_of_eq}
use Rattle.std.proofs.lemmas.Bool.{cases_eq, or_right}
use Rattle.std.specs.Option.{option_or}
use Rattle.spec_history.specs.Refusal.{any_below}
use Rattle.spec_history.specs.Searches.{first_below, count_below}

pub all_fail : (n : ℕ) (test : ℕ → Bool) → ((k : ℕ) → k < n → test k ≡ false) → any_below n test ≡ false
unfolding any_below
all_fail zero test none = refl
all_fail (suc n) test none = rw (none n (omega arith), all_fail n test (λ k below. none k (omega arith))) refl

pub one_passes : (n : ℕ) (test : ℕ → Bool) (k : ℕ) → k < n → test k ≡ true → any_below n test ≡ true
unfolding any_below
one_passes zero test k below passes = absurd (omega arith)
one_passes (suc n) test k below passes = elim (cases_eq k n) [
  | inl e ↦ rw (sym (ap test e) ∙ passes) refl
  | inr other ↦ rw (one_passes n test k (omega arith) passes) (or_right (test n) true refl)
]

-- ---- a search from the front

pub first_none : (n : ℕ) (test : ℕ → Bool) → ((k : ℕ) → k < n → test k ≡ false) → first_below n test ≡ None
unfolding first_below
first_none zero test none = refl
first_none (suc n) test none = rw (first_none n test (λ k below. none k (omega arith)), none n (omega arith)) refl

pub first_at : (n : ℕ) (test : ℕ → Bool) (k : ℕ) → k < n → test k ≡ true → ((j : ℕ) → j < k → test j ≡ false) → first_below n test ≡ Some k
unfolding first_below
first_at zero test k below passes none = absurd (omega arith)
first_at (suc n) test k below passes none = elim (cases_eq k n) [
  | inl e ↦ rw (first_none n test (λ j before. none j (omega (arith, e))), sym (ap test e) ∙ passes) (ap Some (sym e))
  | inr other ↦ rw (first_at n test k (omega arith) passes none) refl
]

-- a number below n that passes, and before which none does
pub record IsFirst (n : ℕ) (test : ℕ → Bool) (k : ℕ) : Type 0 where
  pub within : k < n
  pub passes : test k ≡ true
  pub first : (j : ℕ) → j < k → test j ≡ false

unfound_step : (o : Option ℕ) (b : Bool) (n : ℕ) (P : Type 0) → option_or o (if b then Some n else None) ≡ None → (o ≡ None → b ≡ false → P) → P
unfound_step (Some i) b n P is one = absurd cc
unfound_step None true n P is one = absurd cc
unfound_step None false n P is one = one refl refl

-- where a search finds nothing, nothing passes
pub none_first : (n : ℕ) (test : ℕ → Bool) → first_below n test ≡ None → (k : ℕ) → k < n → test k ≡ false
unfolding first_below
none_first zero test is k below = absurd (omega (arith, below))
none_first (suc n) test is k below = unfound_step (first_below n test) (test n) n (test k ≡ false) is (λ rest fails. elim (cases_eq k n) [
  | inl e ↦ ap test e ∙ fails
  | inr other ↦ none_first n test rest k (omega (arith, below, other))
])

first_step : (o : Option ℕ) (b : Bool) (n k : ℕ) (P : Type 0) → option_or o (if b then Some n else None) ≡ Some k → (o ≡ Some k → P) → (o ≡ None → b ≡ true → n ≡ k → P) → P
first_step (Some i) b n k P is one other = one is
first_step None true n k P is one other = other refl refl (ap (λ o. unwrap_or o 0) is)
first_step None false n k P is one other = absurd cc

-- and what it finds is the first
pub first_found : (n : ℕ) (test : ℕ → Bool) (k : ℕ) → first_below n test ≡ Some k → IsFirst n test k
unfolding first_below
first_found zero test k is = absurd cc
first_found (suc n) test k is = first_step (first_below n test) (test n) n k (IsFirst (suc n) test k) is
    (λ rest. let found = first_found n test k rest in record {
      within = omega (arith, found.within);
      passes = found.passes;
      first = found.first;
    })
    (λ none passes same. record {
      within = omega (arith, same);
      passes = ap test (sym same) ∙ passes;
      first = λ j before. none_first n test none j (omega (arith, before, same));
    })

-- ---- a count that goes on

counted : (n : ℕ) (test : ℕ → Bool) → test n ≡ true → count_below (suc n) test ≡ count_below n test + 1
unfolding count_below
counted n test passes = rw passes refl

passed_over : (n : ℕ) (test : ℕ → Bool) → test n ≡ false → count_below (suc n) test ≡ count_below n test + 0
unfolding count_below
passed_over n test fails = rw fails refl

grown : (n : ℕ) (test : ℕ → Bool) → count_below n test ≤ count_below (suc n) test
unfolding count_below
grown n test = omega arith

-- tests that agree below a number count the same
pub count_same : (n : ℕ) (f g : ℕ → Bool) → ((k : ℕ) → k < n → f k ≡ g k) → count_below n f ≡ count_below n g
unfolding count_below
count_same zero f g same = refl
count_same (suc n) f g same = rw (count_same n f g (λ k below. same k (omega (arith, below))), same n (omega arith)) refl

-- below a number no fewer pass than below a smaller one
pub count_up : (from n : ℕ) (test : ℕ → Bool) → from ≤ n → count_below from test ≤ count_below n test
count_up from zero test most = le_of_eq (ap (λ k. count_below k test) (omega (arith, most)))
count_up from (suc n) test most = elim (cases_eq from (suc n)) [
  | inl e ↦ le_of_eq (ap (λ k. count_below k test) e)
  | inr other ↦ omega (arith, count_up from n test (omega (arith, most, other)), grown n test)
]

pub count_none : (test : ℕ → Bool) → 0 ≡ count_below 0 test
unfolding count_below
count_none test = refl

pub count_one : (n count : ℕ) (test : ℕ → Bool) → count ≡ count_below n test → test n ≡ true → count + 1 ≡ count_below (n + 1) test
count_one n count test is passes = ap (λ k. k + 1) is ∙ sym (ap (λ k. count_below k test) (add-one n) ∙ counted n test passes)

pub count_other : (n count : ℕ) (test : ℕ → Bool) → count ≡ count_below n test → test n ≡ false → count ≡ count_below (n + 1) test
count_other n count test is fails = is ∙ sym (ap (λ k. count_below k test) (add-one n) ∙ (passed_over n test fails ∙ (omega arith)))
