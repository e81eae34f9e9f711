-- The sum of a part is that of the list of its violations.
use Rattle.std.proofs.Common.{◌≡◌, ℕ, ◌+◌, Bool, true, false, cond, List, [], ◌∷◌, filter, sum_by, refl, ◌∙◌, arith, ap₂}
use Rattle.std.proofs.lemmas.List.Sums.{sum_by-cons}
use Rattle.conflict_findings.specs.declared.part.Part.{Part}
use Rattle.conflict_findings.specs.declared.part.Part.TheVariants.{Whole}
use Rattle.conflict_findings.specs.declared.rollback.Rollback.{Rollback}
use Rattle.conflict_findings.specs.declared.sum.Sum.{Sum}
use Rattle.conflict_findings.specs.Parts.{belongs}
use Rattle.conflict_findings.specs.Sums.{sum_in}

passed : {X : Type 0} (f : X → ℕ) (b : Bool) (x : X) (xs : List X) (n : ℕ) → sum_by f xs ≡ n → sum_by f (cond b (x ∷ xs) xs) ≡ cond b (f x) 0 + n
passed f true x xs n is = omega (arith, sum_by-cons f x xs, is)
passed f false x xs n is = omega (arith, is)

-- what those that pass add up to
sum_passing : {X : Type 0} (f : X → ℕ) (test : X → Bool) (xs : List X) → sum_by f (filter test xs) ≡ sum_by (λ x. cond (test x) (f x) 0) xs
sum_passing f test [] = refl
sum_passing f test (x ∷ xs) =
    passed f (test x) x (filter test xs) (sum_by (λ y. cond (test y) (f y) 0) xs) (sum_passing f test xs) ∙ back (sum_by-cons (λ y. cond (test y) (f y) 0) x xs)
  where
    back : {a b : ℕ} → a ≡ b → b ≡ a
    back is = omega (arith, is)

abbrev sum : ℕ → ℕ → Sum
sum n m = record { count = n; lost = m }

pub part_sum : (part : Part) (rs : List Rollback) → sum_in Whole (filter (belongs part) rs) ≡ sum_in part rs
part_sum part rs = ap₂ sum (sum_passing (λ (r : Rollback). 1) (belongs part) rs) (sum_passing (λ (r : Rollback). r.lost) (belongs part) rs)
