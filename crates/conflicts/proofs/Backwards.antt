-- What a search from the back finds.
use Rattle.std.proofs.Common.{◌≡◌, ℕ, zero, suc, ◌+◌, ◌<◌, ◌≤◌, ◌&&◌, Bool, true, false, nat_lt, Option, Some, None, refl, sym, ap, ◌∙◌, inl, inr, arith, lt-ltb, ltb-true}
use Rattle.std.proofs.lemmas.Bool.{cases_eq}
use Rattle.spec_history.specs.Searches.{last_below}
use Rattle.conflicts.specs.Attempts.{is_after}

pub last_none : (n : ℕ) (test : ℕ → Bool) → ((k : ℕ) → k < n → test k ≡ false) → last_below n test ≡ None
unfolding last_below
last_none zero test none = refl
last_none (suc n) test none = rw (none n (omega arith), last_none n test (λ k below. none k (omega arith))) refl

pub last_at : (n : ℕ) (test : ℕ → Bool) (k : ℕ) → k < n → test k ≡ true → ((j : ℕ) → k < j → j < n → test j ≡ false) → last_below n test ≡ Some k
unfolding last_below
last_at zero test k below passes none = absurd (omega arith)
last_at (suc n) test k below passes none = elim (cases_eq k n) [
  | inl e ↦ rw (sym (ap test e) ∙ passes) (ap Some (sym e))
  | inr other ↦ rw (none n (omega arith) (omega arith), last_at n test k (omega arith) passes (λ j after before. none j after (omega arith))) refl
]

-- so many numbers from the back fail
abbrev pub Passed : (ℕ → Bool) → ℕ → ℕ → Type 0
Passed test before i = (k : ℕ) → before ≤ k + i → k < before → test k ≡ false

pub passed_more : (test : ℕ → Bool) (before i place : ℕ) → i < before → place + 1 + i ≡ before → Passed test before i → test place ≡ false → Passed test before (i + 1)
passed_more test before i place within is passed fails k from below = elim (cases_eq k place) [
  | inl e ↦ ap test e ∙ fails
  | inr other ↦ passed k (omega arith) below
]

-- ---- beyond a start

after_by : (b : Bool) (start k : ℕ) (does : Bool) → nat_lt start k ≡ b → (start < k → does ≡ false) → (nat_lt start k && does) ≡ false
after_by true start k does is later = ap (λ b. b && does) is ∙ later (ltb-true start k is)
after_by false start k does is later = ap (λ b. b && does) is

-- the same, where nothing after the start does it
pub none_after : (before start : ℕ) (does : ℕ → Bool) → ((k : ℕ) → start < k → k < before → does k ≡ false) → last_below before (λ k. nat_lt start k && does k) ≡ None
none_after before start does none = last_none before (λ k. nat_lt start k && does k) (λ k below. after_by (nat_lt start k) start k (does k) refl (λ later. none k later below))

pub last_after : (before start place : ℕ) (does : ℕ → Bool) → start < place → place < before → does place ≡ true → ((k : ℕ) → place < k → k < before → does k ≡ false)
    → last_below before (λ k. nat_lt start k && does k) ≡ Some place
last_after before start place does after within passes none =
    last_at before (λ k. nat_lt start k && does k) place within (ap (λ b. b && does place) (lt-ltb start place after) ∙ passes)
    (λ k later below. after_by (nat_lt start k) start k (does k) refl (λ _. none k later below))

pub from_start : (before start : ℕ) (attempt : Option ℕ) (does : ℕ → Bool) → Some start ≡ attempt
    → last_below before (λ k. nat_lt start k && does k) ≡ last_below before (λ k. is_after attempt k && does k)
from_start before start attempt does is = ap (λ (o : Option ℕ). last_below before (λ k. is_after o k && does k)) is

pub no_start : (before : ℕ) (attempt : Option ℕ) (does : ℕ → Bool) → None ≡ attempt → None ≡ last_below before (λ k. is_after attempt k && does k)
no_start before attempt does is =
    sym (last_none before (λ k. false) (λ k below. refl)) ∙ ap (λ (o : Option ℕ). last_below before (λ k. is_after o k && does k)) is
