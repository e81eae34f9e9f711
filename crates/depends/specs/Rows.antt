-- The pairs of instructions that dependences of the run in order join, the heaviest first.
-- Source: this project.
use Rattle.std.specs.Prelude.{◌≡◌, ℕ, List}
use Rattle.std.specs.BTreeMap.{BTreeMap, IsOrdered, get}
use Rattle.std.specs.List.Sorted.{IsPermutation, IsSorted}
use Rattle.std.specs.declared.cmp.Ordering.{Ordering}
use Rattle.std.specs.Ordering.{nat_cmp, ordering_then}
use Rattle.dependences.specs.declared.flow.Dependence.{Dependence}
use Rattle.dependences.specs.declared.pairs.PairSum.{PairSum}
use Rattle.dependences.specs.Pairs.{by_pcs, pair_sum}

-- more dependences stand before fewer; pairs of as many by the pc of the store, and then by that of the load
abbrev pub row_order : (ℕ × ℕ) × PairSum → (ℕ × ℕ) × PairSum → Ordering
row_order a b = ordering_then (ordering_then (nat_cmp b.1.times a.1.times) (nat_cmp a.0.0 b.0.0)) (nat_cmp a.0.1 b.0.1)

-- of each pair of instructions that some of these dependences join, once, their sum
pub record AreRowsOf (found : List Dependence) (rows : List ((ℕ × ℕ) × PairSum)) : Type 0 where
  pub sums : BTreeMap (ℕ × ℕ) PairSum
  pub once : IsOrdered by_pcs sums
  pub each : (store load : ℕ) → get by_pcs sums (store, load) ≡ pair_sum store load found
  pub all : IsPermutation sums.entries rows
  pub ordered : IsSorted row_order rows
