-- Heaviest first: what lost more instructions stands before what lost fewer; of those that lost as many, what has more violations.
use Rattle.std.specs.Prelude.{ℕ, List, map}
use Rattle.std.specs.BTreeMap.{BTreeMap}
use Rattle.std.specs.List.Sorted.{IsPermutation, IsSorted}
use Rattle.std.specs.declared.cmp.Ordering.{Ordering}
use Rattle.std.specs.Ordering.{nat_cmp, ordering_then}
use Rattle.conflict_findings.specs.declared.pair_sums.PairSum.{PairSum}
use Rattle.conflict_findings.specs.declared.rollback.Rollback.{Rollback}
use Rattle.conflict_findings.specs.declared.sum.Sum.{Sum}
use Rattle.conflict_findings.specs.Pairs.{pairs_in}
use Rattle.conflict_findings.specs.PairSums.{pair_sum}

abbrev pub by_weight : Sum → Sum → Ordering
by_weight a b = ordering_then (nat_cmp b.lost a.lost) (nat_cmp b.count a.count)

-- pairs that weigh the same by their addresses, the blamed store's before the blamed load's
abbrev pub pair_order : PairSum → PairSum → Ordering
pair_order a b = ordering_then (ordering_then (by_weight a.sum b.sum) (nat_cmp a.pair.store b.pair.store)) (nat_cmp a.pair.load b.pair.load)

-- and what has a number by that
abbrev pub number_order : ℕ × Sum → ℕ × Sum → Ordering
number_order a b = ordering_then (by_weight a.1 b.1) (nat_cmp a.0 b.0)

-- the pairs at which some of the violations met, each once, with what those cost
pub record ArePairSums (rollbacks : List Rollback) (sums : List PairSum) : Type 0 where
  pub all : IsPermutation (map (pair_sum rollbacks) (pairs_in rollbacks)) sums
  pub ordered : IsSorted pair_order sums

-- what a map has of each number
pub record AreHeaviest (sums : BTreeMap ℕ Sum) (found : List (ℕ × Sum)) : Type 0 where
  pub all : IsPermutation sums.entries found
  pub ordered : IsSorted number_order found
