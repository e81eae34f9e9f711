-- Sums of dependences by pairs of instructions.
use Rattle.std.proofs.Common.{◌≡◌, ◌⊎◌, ℕ, suc, ◌-◌, ◌==◌, ◌≤◌, ◌&&◌, Bool, true, false, cond, nat_lt, List, [], ◌∷◌, ◌++◌, Option, Some, None, min, refl, sym, ap, ◌∙◌, inl, inr, arith, eqb-true}
use Rattle.std.proofs.lemmas.Bool.{and_parts, cases_lt}
use Rattle.std.specs.Ordering.{is_eq, nat_cmp}
use Rattle.memory_bytes.proofs.SmallFacts.{is_eq_by_tests, is_eq_then, less_apart}
use Rattle.dependences.specs.declared.flow.Dependence.{Dependence}
use Rattle.dependences.specs.declared.pairs.PairSum.{PairSum}
use Rattle.dependences.specs.Pairs.{by_pcs, joins, pair_sum, sum_after, sum_more, sum_of_one, sum_with}
use Rattle.dependences.specs.Kept.{HasAsNear}

-- ---- the same pcs

pub at_pcs : (store load : ℕ) (x : Dependence) → is_eq (by_pcs (x.store_pc, x.load_pc) (store, load)) ≡ joins store load x
at_pcs store load x =
    is_eq_then (nat_lt x.store_pc store) (x.store_pc == store) (nat_cmp x.load_pc load) (less_apart x.store_pc store)
    ∙ ap (λ b. (x.store_pc == store) && b) (is_eq_by_tests (nat_lt x.load_pc load) (x.load_pc == load) (less_apart x.load_pc load))

-- ---- one more

sum_after_more : (store load : ℕ) (sum : Option PairSum) (xs : List Dependence) (x : Dependence)
    → sum_after store load sum (xs ++ x ∷ []) ≡ cond (joins store load x) (sum_with (sum_after store load sum xs) x) (sum_after store load sum xs)
sum_after_more store load sum [] x = refl
sum_after_more store load sum (y ∷ ys) x = sum_after_more store load (cond (joins store load y) (sum_with sum y) sum) ys x

more_by : (store load : ℕ) (before : List Dependence) (x : Dependence) (old was : Option PairSum) (b : Bool) → joins store load x ≡ b
    → old ≡ pair_sum store load before → was ≡ pair_sum x.store_pc x.load_pc before
    → cond b (sum_with was x) old ≡ cond b (sum_with (pair_sum store load before) x) (pair_sum store load before)
more_by store load before x old was true is before_it now =
    let parts = and_parts (x.store_pc == store) (x.load_pc == load) is in
    let first : x.store_pc ≡ store = eqb-true x.store_pc store parts.0 in
    let second : x.load_pc ≡ load = eqb-true x.load_pc load parts.1 in
    ap (λ (o : Option PairSum). sum_with o x) (now ∙ (ap (λ s. pair_sum s x.load_pc before) first ∙ ap (λ l. pair_sum store l before) second))
more_by store load before x old was false is before_it now = before_it

pub sums_more : (store load : ℕ) (before after : List Dependence) (x : Dependence) (old new was : Option PairSum) → after ≡ before ++ x ∷ []
    → new ≡ cond (is_eq (by_pcs (x.store_pc, x.load_pc) (store, load))) (sum_with was x) old
    → old ≡ pair_sum store load before → was ≡ pair_sum x.store_pc x.load_pc before → new ≡ pair_sum store load after
sums_more store load before after x old new was all updated before_it now =
    updated ∙ (ap (λ b. cond b (sum_with was x) old) (at_pcs store load x)
    ∙ (more_by store load before x old was (joins store load x) refl before_it now
    ∙ (sym (sum_after_more store load None before x) ∙ ap (pair_sum store load) (sym all))))

-- ---- the least distance

-- one of these dependences, or what was summed up before, is as near as the sum
least_among : (store load : ℕ) (before : Option PairSum) (list : List Dependence) (sum : PairSum) → sum_after store load before list ≡ Some sum
    → HasAsNear list sum.least ⊎ ((was : PairSum) × (before ≡ Some was) × (was.least ≤ sum.least))
least_among store load before [] sum is = inr (sum, is, omega arith)
least_among store load before (x ∷ rest) sum is = by_test (joins store load x) (λ o now. least_among store load o rest sum now) is where
  by_before : (o : Option PairSum) (was : PairSum) → sum_with o x ≡ Some was → was.least ≤ sum.least
      → HasAsNear (x ∷ rest) sum.least ⊎ ((old : PairSum) × (o ≡ Some old) × (old.least ≤ sum.least))
  by_before None was same low =
      let this : was.least ≡ x.later - x.earlier = ap (λ (s : PairSum). s.least) (let one : was ≡ sum_of_one x = cc in one) in
      inl (0, x, refl, omega (arith, this, low))
  by_before (Some old) was same low =
      let least : was.least ≡ min old.least (x.later - x.earlier) = ap (λ (s : PairSum). s.least) (let one : was ≡ sum_more old x = cc in one) in
      elim (cases_lt (x.later - x.earlier) old.least) [
        | inl less ↦ inl (0, x, refl, omega (arith, least, low, less))
        | inr more ↦ inr (old, refl, omega (arith, least, low, more))
      ]

  by_test : (b : Bool)
      → ((o : Option PairSum) → sum_after store load o rest ≡ Some sum → HasAsNear rest sum.least ⊎ ((was : PairSum) × (o ≡ Some was) × (was.least ≤ sum.least)))
      → sum_after store load (cond b (sum_with before x) before) rest ≡ Some sum
      → HasAsNear (x ∷ rest) sum.least ⊎ ((was : PairSum) × (before ≡ Some was) × (was.least ≤ sum.least))
  by_test true among now = elim (among (sum_with before x) now) [
    | inl near ↦ inl (suc near.0, near.1, near.2, near.3)
    | inr was ↦ by_before before was.0 was.1 was.2
  ]
  by_test false among now = elim (among before now) [
    | inl near ↦ inl (suc near.0, near.1, near.2, near.3)
    | inr was ↦ inr was
  ]

-- so near one of these is whose sum of this pair is no farther
pub as_near : (store load : ℕ) (list : List Dependence) (sum : PairSum) (distance : ℕ) → pair_sum store load list ≡ Some sum → sum.least ≤ distance → HasAsNear list distance
as_near store load list sum distance is low = elim (least_among store load None list sum is) [
  | inl near ↦ (near.0, near.1, near.2, (let least = near.3 in omega (arith, least, low)))
  | inr was ↦ (let none = was.1 in absurd cc)
]
