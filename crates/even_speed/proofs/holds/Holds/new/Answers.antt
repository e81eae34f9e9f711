use Rattle.std.proofs.lemmas.List.Sorted.{IsNonDecreasingBy-from_sort}
use Rattle.even_speed.proofs.Finding.{same_holding}
use Rattle.even_speed.proofs.holds.Holds.new.Goals as goal

pub invariant_of-result : goal.invariant_of-result
invariant_of-result c = record {
  places = IsNonDecreasingBy-from_sort (λ x. x) _ c.sort_unstable.ensures.sorted;
  stores = c.sort_unstable-2.ensures.sorted;
  pieces = c.requires;
}

pub returns : goal.returns
returns c = same_holding _ _ _ _ _ c.sort_unstable.ensures.permutation c.sort_unstable-2.ensures.permutation
