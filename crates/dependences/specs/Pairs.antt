-- What the dependences have in common that two instructions, a store and a load, join.
use Rattle.std.specs.Prelude.{ℕ, ◌+◌, ◌-◌, ◌==◌, ◌&&◌, Bool, List, [], ◌∷◌, Option, Some, None, min, max, if◌then◌else◌}
use Rattle.std.specs.declared.cmp.Ordering.{Ordering}
use Rattle.std.specs.Ordering.{nat_cmp, ordering_then}
use Rattle.dependences.specs.declared.flow.Dependence.{Dependence}
use Rattle.dependences.specs.declared.pairs.PairSum.{PairSum}

-- by the pc of the store, and then by that of the load
abbrev pub by_pcs : ℕ × ℕ → ℕ × ℕ → Ordering
by_pcs x y = ordering_then (nat_cmp x.0 y.0) (nat_cmp x.1 y.1)

-- the dependence is one of these two instructions
abbrev pub joins : ℕ → ℕ → Dependence → Bool
joins store load x = (x.store_pc == store) && (x.load_pc == load)

abbrev pub distance : Dependence → ℕ
distance x = x.later - x.earlier

abbrev pub sum_of_one : Dependence → PairSum
sum_of_one x = record { times = 1; least = distance x; most = distance x; lowest = x.byte; highest = x.byte; first = x }

abbrev pub sum_more : PairSum → Dependence → PairSum
sum_more s x = record {
  times = s.times + 1;
  least = min s.least (distance x);
  most = max s.most (distance x);
  lowest = min s.lowest x.byte;
  highest = max s.highest x.byte;
  first = s.first;
}

abbrev pub sum_with : Option PairSum → Dependence → Option PairSum
sum_with None x = Some (sum_of_one x)
sum_with (Some s) x = Some (sum_more s x)

-- so many, their least and greatest distance, their lowest and highest byte, and the first of them
abbrev pub sum_after : ℕ → ℕ → Option PairSum → List Dependence → Option PairSum
sum_after store load sum [] = sum
sum_after store load sum (x ∷ rest) = sum_after store load (if joins store load x then sum_with sum x else sum) rest

abbrev pub pair_sum : ℕ → ℕ → List Dependence → Option PairSum
pair_sum store load list = sum_after store load None list
