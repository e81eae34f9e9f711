-- How often an attempt was begun again.
use Rattle.std.proofs.Common.{◌≡◌, ℕ, zero, suc, ◌+◌, ◌<◌, ◌≤◌, ◌&&◌, Bool, true, false, nat_lt, Option, None, refl, sym, ap, subst, ◌∙◌, inl, inr, arith, add-one, lt-ltb, le-ltb}
use Rattle.std.proofs.lemmas.Bool.{cases_eq}
use Rattle.spec_history.specs.Searches.{count_below, last_below}
use Rattle.conflicts.specs.Attempts.{is_after}
use Rattle.conflicts.proofs.Backwards.{Passed, last_at, last_none, passed_more}
use Rattle.spec_history.proofs.Searches.Tests.{count_one, count_other}

pub no_one : (n : ℕ) (test : ℕ → Bool) → ((k : ℕ) → k < n → test k ≡ false) → count_below n test ≡ 0
unfolding count_below
no_one zero test none = refl
no_one (suc n) test none = rw (none n (omega arith), no_one n test (λ k below. none k (omega arith))) refl

pub one_in : (n : ℕ) (test : ℕ → Bool) → test n ≡ true → count_below (n + 1) test ≡ count_below n test + 1
one_in n test passes = sym (count_one n (count_below n test) test refl passes)

pub other_in : (n : ℕ) (test : ℕ → Bool) → test n ≡ false → count_below (n + 1) test ≡ count_below n test
other_in n test fails = sym (count_other n (count_below n test) test refl fails)

one_more : (n : ℕ) (test : ℕ → Bool) (b : Bool) → test n ≡ b → (p : ℕ) → p < n
    → count_below n (λ k. nat_lt p k && test k) + count_below (p + 1) test ≡ count_below n test
    → count_below (n + 1) (λ k. nat_lt p k && test k) + count_below (p + 1) test ≡ count_below (n + 1) test
one_more n test true is p after was =
    omega (arith, was, one_in n test is, one_in n (λ k. nat_lt p k && test k) (ap (λ b. b && test n) (lt-ltb p n after) ∙ is))
one_more n test false is p after was =
    omega (arith, was, other_in n test is, other_in n (λ k. nat_lt p k && test k) (ap (λ b. b && test n) (lt-ltb p n after) ∙ is))

-- those after a place, and those up to it
pub parted : (n p : ℕ) (test : ℕ → Bool) → p < n → count_below n (λ k. nat_lt p k && test k) + count_below (p + 1) test ≡ count_below n test
parted zero p test below = absurd (omega (arith, below))
parted (suc n) p test below = elim (cases_eq p n) [
  | inl e ↦
      let none = no_one (suc n) (λ k. nat_lt p k && test k) (λ k under. ap (λ b. b && test k) (le-ltb p k (omega (arith, under, e)))) in
      omega (arith, none, ap (λ k. count_below k test) (ap (λ k. k + 1) e ∙ add-one n))
  | inr other ↦ subst (λ m. count_below m (λ k. nat_lt p k && test k) + count_below (p + 1) test ≡ count_below m test) (add-one n) (one_more n test (test n) refl p (omega (arith, below, other)) (parted n p test (omega (arith, below, other))))
]

-- so many begin among so many from the back, and none of these starts
pub record IsNumbered (starts begins : ℕ → Bool) (before i again : ℕ) : Type 0 where
  pub none : Passed starts before i
  pub counted : (place : ℕ) → place + i ≡ before → again + count_below place begins ≡ count_below before begins

pub none_numbered : (starts begins : ℕ → Bool) (before : ℕ) → IsNumbered starts begins before 0 0
none_numbered starts begins before = record {
  none = λ k from below. absurd (omega (arith, from, below));
  counted = λ place is.
      let same : place ≡ before = omega (arith, is) in
      omega (arith, ap (λ k. count_below k begins) same);
}

pub one_begun : (starts begins : ℕ → Bool) (before i again place : ℕ) → IsNumbered starts begins before i again → i < before → place + 1 + i ≡ before
    → starts place ≡ false → begins place ≡ true → IsNumbered starts begins before (i + 1) (again + 1)
one_begun starts begins before i again place was within is fails begun = record {
  none = passed_more starts before i place within is was.none fails;
  counted = λ other there.
      let same : other ≡ place = omega (arith, there, is) in
      omega (arith, was.counted (place + 1) is, one_in place begins begun, ap (λ k. count_below k begins) same);
}

pub none_begun : (starts begins : ℕ → Bool) (before i again place : ℕ) → IsNumbered starts begins before i again → i < before → place + 1 + i ≡ before
    → starts place ≡ false → begins place ≡ false → IsNumbered starts begins before (i + 1) again
none_begun starts begins before i again place was within is fails begun = record {
  none = passed_more starts before i place within is was.none fails;
  counted = λ other there.
      let same : other ≡ place = omega (arith, there, is) in
      omega (arith, was.counted (place + 1) is, other_in place begins begun, ap (λ k. count_below k begins) same);
}

pub numbered : (starts begins : ℕ → Bool) (before i again place : ℕ) → IsNumbered starts begins before i again → i < before → place + 1 + i ≡ before → starts place ≡ true
    → again + 1 ≡ count_below before (λ k. is_after (last_below before starts) k && begins k) + 1
numbered starts begins before i again place was within is here =
    let at = last_at before starts place (omega (arith, is)) here (λ k after below. was.none k (omega (arith, is, after)) below) in
    let upper = parted before place begins (omega (arith, is)) in
    let all = was.counted (place + 1) is in
    let last : count_below before (λ k. is_after (last_below before starts) k && begins k) ≡ count_below before (λ k. nat_lt place k && begins k) =
    ap (λ (o : Option ℕ). count_below before (λ k. is_after o k && begins k)) at in
    omega (arith, upper, all, last)

pub unnumbered : (starts begins : ℕ → Bool) (before i again : ℕ) → IsNumbered starts begins before i again → before ≤ i
    → 1 ≡ count_below before (λ k. is_after (last_below before starts) k && begins k) + 1
unnumbered starts begins before i again was all =
    let at = last_none before starts (λ k below. was.none k (omega (arith, all)) below) in
    let none = no_one before (λ k. is_after None k && begins k) (λ k below. refl) in
    let zeros : count_below before (λ k. is_after (last_below before starts) k && begins k) ≡ 0 =
    ap (λ (o : Option ℕ). count_below before (λ k. is_after o k && begins k)) at ∙ none in
    omega (arith, zeros)
