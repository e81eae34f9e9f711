-- What the code keeps of pairs of instructions: the sum of each, in the order in which the pairs first came, and where that stands.
use Rattle.std.specs.Prelude.{◌≡◌, ℕ, suc, List, [], ◌∷◌, Option, Some, None, map, option_map, if◌then◌else◌}
use Rattle.std.specs.BTreeMap.{get}
use Rattle.std.specs.declared.cmp.Ordering.{Ordering}
use Rattle.std.specs.Ordering.{nat_cmp, ordering_then}
use Rattle.conflict_findings.specs.declared.pairs.SumsByPair.{SumsByPair}
use Rattle.conflict_findings.specs.declared.rollback.Pair.{Pair}
use Rattle.conflict_findings.specs.declared.rollback.Rollback.{Rollback}
use Rattle.conflict_findings.specs.Pairs.{pairs_in}
use Rattle.conflict_findings.specs.PairSums.{pair_sum}
use Rattle.conflict_findings.specs.Parts.{is_pair}

-- by the first address, and then by the second
abbrev pub by_addresses : ℕ × ℕ → ℕ × ℕ → Ordering
by_addresses x y = ordering_then (nat_cmp x.0 y.0) (nat_cmp x.1 y.1)

-- the place of a pair in a list, if it is there
abbrev pub place_of : Pair → List Pair → Option ℕ
place_of p [] = None
place_of p (q ∷ qs) = if is_pair p q then Some 0 else option_map (λ k. suc k) (place_of p qs)

-- they are the sums of the pairs of these violations
pub record AreByPair (rollbacks : List Rollback) (sums : SumsByPair) : Type 0 where
  pub each : sums.sums.items ≡ map (pair_sum rollbacks) (pairs_in rollbacks)
  pub placed : (p : Pair) → get by_addresses sums.places (p.store, p.load) ≡ place_of p (pairs_in rollbacks)
