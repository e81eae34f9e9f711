-- The first number of a range that passes a test.
use Rattle.std.proofs.Common.{◌≡◌, ℕ, zero, suc, ◌+◌, ◌<◌, ◌≤◌, ◌++◌, ◌∷◌, [], List, Bool, true, false, cond, Option, Some, None, inl, inr, refl, sym, ap, ◌∙◌, arith, add-one}
use Rattle.std.proofs.lemmas.Bool.{cases_eq}
use Rattle.std.proofs.lemmas.List.Folds.{find-append}
use Rattle.std.proofs.lemmas.Option.{same_Some}
use Rattle.std.specs.Bool.{then_some}
use Rattle.std.specs.List.{find, range_with_len}
use Rattle.std.specs.Option.{option_or}

-- it passes, and none before it in the range does
pub record IsFirst (start n : ℕ) (test : ℕ → Bool) (k : ℕ) : Type 0 where
  pub from : start ≤ k
  pub below : k < start + n
  pub passes : test k ≡ true
  pub first : (j : ℕ) → start ≤ j → j < k → test j ≡ false

-- none in the range passes
abbrev pub NonePass : ℕ → ℕ → (ℕ → Bool) → Type 0
NonePass start n test = (k : ℕ) → start ≤ k → k < start + n → test k ≡ false

-- what is first is found
pub first_is : (start n : ℕ) (test : ℕ → Bool) (k : ℕ) → IsFirst start n test k → find test (range_with_len start n) ≡ Some k
first_is start zero test k h = absurd (omega (arith, h.from, h.below))
first_is start (suc n) test k h = elim (cases_eq k start) [
  | inl e ↦ rw (ap test (sym e) ∙ h.passes) (ap (λ (j : ℕ). Some j) (sym e))
  | inr other ↦
      rw (h.first start (omega arith) (omega (arith, h.from, other)))
      (first_is (start + 1) n test k (record {
        from = omega (arith, h.from, other);
        below = omega (arith, h.below);
        passes = h.passes;
        first = λ j after. h.first j (omega (arith, after));
      }))
]

pub none_is : (start n : ℕ) (test : ℕ → Bool) → NonePass start n test → find test (range_with_len start n) ≡ None
none_is start zero test h = refl
none_is start (suc n) test h =
    rw (h start (omega arith) (omega arith)) (none_is (start + 1) n test (λ k from below. h k (omega (arith, from)) (omega (arith, below))))

some_step : (b : Bool) (start k : ℕ) (rest : Option ℕ) (P : Type 0) → cond b (Some start) rest ≡ Some k
    → (b ≡ true → start ≡ k → P) → (b ≡ false → rest ≡ Some k → P) → P
some_step true start k rest P is one other = one refl (same_Some start k is)
some_step false start k rest P is one other = other refl is

-- what is found is the first
pub found_first : (start n : ℕ) (test : ℕ → Bool) (k : ℕ) → find test (range_with_len start n) ≡ Some k → IsFirst start n test k
found_first start zero test k is = absurd cc
found_first start (suc n) test k is =
    some_step (test start) start k (find test (range_with_len (start + 1) n)) (IsFirst start (suc n) test k) is
    (λ passes same. record {
      from = omega (arith, same);
      below = omega (arith, same);
      passes = ap test (sym same) ∙ passes;
      first = λ j from below. absurd (omega (arith, same, from, below));
    })
    (λ fails rest. let h = found_first (start + 1) n test k rest in record {
      from = omega (arith, h.from);
      below = omega (arith, h.below);
      passes = h.passes;
      first = λ j from below. elim (cases_eq j start) [
        | inl e ↦ ap test e ∙ fails
        | inr other ↦ h.first j (omega (arith, from, other)) below
      ];
    })

none_step : (b : Bool) (start : ℕ) (rest : Option ℕ) (P : Type 0) → cond b (Some start) rest ≡ None → (b ≡ false → rest ≡ None → P) → P
none_step true start rest P is one = absurd cc
none_step false start rest P is one = one refl is

pub found_none : (start n : ℕ) (test : ℕ → Bool) → find test (range_with_len start n) ≡ None → NonePass start n test
found_none start zero test is k from below = absurd (omega (arith, from, below))
found_none start (suc n) test is k from below =
    none_step (test start) start (find test (range_with_len (start + 1) n)) (test k ≡ false) is
    (λ fails rest. elim (cases_eq k start) [
      | inl e ↦ ap test e ∙ fails
      | inr other ↦ found_none (start + 1) n test rest k (omega (arith, from, other)) (omega (arith, below))
    ])

-- tests that agree on the range find the same
pub find_same : (n : ℕ) (test other : ℕ → Bool) → ((k : ℕ) → k < n → test k ≡ other k)
    → find test (range_with_len 0 n) ≡ find other (range_with_len 0 n)
find_same n test other same = pick (find other (range_with_len 0 n)) refl
  where
    pick : (o : Option ℕ) → find other (range_with_len 0 n) ≡ o → find test (range_with_len 0 n) ≡ find other (range_with_len 0 n)
    pick None e =
        none_is 0 n test (λ k from below. same k (omega (arith, below)) ∙ found_none 0 n other e k from below) ∙ sym e
    pick (Some k) e =
        let h = found_first 0 n other k e in
        let lt : k < n = omega (arith, h.below) in
        first_is 0 n test k (record {
          from = h.from;
          below = h.below;
          passes = same k lt ∙ h.passes;
          first = λ j from below. same j (omega (arith, below, lt)) ∙ h.first j from below;
        })
        ∙ sym e

range_more : (start n k : ℕ) → start + n ≡ k → range_with_len start (suc n) ≡ range_with_len start n ++ k ∷ []
range_more start zero k e = let same : start ≡ k = omega (arith, e) in ap (λ (k : ℕ). k ∷ []) same
range_more start (suc n) k e = ap (λ (ks : List ℕ). start ∷ ks) (range_more (start + 1) n k (omega (arith, e)))

then_same : (b : Bool) (n : ℕ) → cond b (Some n) None ≡ then_some b n
then_same true n = refl
then_same false n = refl

-- one more number of the range
pub find_more : (n : ℕ) (test : ℕ → Bool) → find test (range_with_len 0 (n + 1)) ≡ option_or (find test (range_with_len 0 n)) (then_some (test n) n)
find_more n test =
    ap (λ m. find test (range_with_len 0 m)) (add-one n)
    ∙ (ap (find test) (range_more 0 n n (omega arith)) ∙ find-append test (range_with_len 0 n) (n ∷ [])
    ∙ ap (option_or (find test (range_with_len 0 n))) (then_same (test n) n))
