-- Sums over attempts.
use Rattle.std.proofs.Common.{◌≡◌, ℕ, ◌+◌, cond, List, [], ◌∷◌, length, sum_by, refl, arith}
use Rattle.std.proofs.lemmas.List.Sums.{sum_by-cons}
use Rattle.conflict_findings.specs.declared.ended.Ended.{Ended}
use Rattle.conflict_findings.specs.declared.ended.Ending.{Ending}
use Rattle.conflict_findings.specs.declared.ended.Ending.TheVariants.{Committed, Violated, Cancelled}
use Rattle.conflict_findings.specs.Tallies.{is_same}

three : {X : Type 0} (f a b c : X → ℕ) → ((x : X) → f x ≡ a x + b x + c x) → (xs : List X) → sum_by f xs ≡ sum_by a xs + sum_by b xs + sum_by c xs
three f a b c each [] = refl
three f a b c each (x ∷ xs) = omega (arith, sum_by-cons f x xs, sum_by-cons a x xs, sum_by-cons b x xs, sum_by-cons c x xs, each x, three f a b c each xs)

one_way : (ending : Ending) (w : ℕ) → w ≡ cond (is_same ending Committed) w 0 + cond (is_same ending Violated) w 0 + cond (is_same ending Cancelled) w 0
one_way Committed w = omega arith
one_way Violated w = omega arith
one_way Cancelled w = omega arith

-- what an attempt that ended so adds
abbrev pub by_ending : (Ended → ℕ) → Ending → Ended → ℕ
by_ending weight ending e = cond (is_same e.ending ending) (weight e) 0

-- each ended in one way
pub endings_add_up : (weight : Ended → ℕ) (es : List Ended)
    → sum_by weight es ≡ sum_by (by_ending weight Committed) es + sum_by (by_ending weight Violated) es + sum_by (by_ending weight Cancelled) es
endings_add_up weight es = three weight (by_ending weight Committed) (by_ending weight Violated) (by_ending weight Cancelled) (λ e. one_way e.ending (weight e)) es

pub all_counted : (es : List Ended) → sum_by (λ (e : Ended). 1) es ≡ length es
all_counted [] = refl
all_counted (e ∷ es) = omega (arith, sum_by-cons (λ (x : Ended). 1) e es, all_counted es)
