use Rattle.std.proofs.Common.{List, reverse, ap, subst, sym, ◌∙◌}
use Rattle.std.proofs.lemmas.List.{reverse-reverse}
use Rattle.std.specs.List.Sorted.{IsPermutation}
use Rattle.conflict_findings.specs.declared.pair_sums.PairSum.{PairSum}
use Rattle.conflict_findings.specs.Order.{ArePairSums}
use Rattle.conflict_findings.proofs.order.pairs_by_weight.Goals as goal

pub returns : goal.returns
returns c rs are =
    let sorted = c.order_pairs.new.sums.items in
    subst (λ (xs : List PairSum). ArePairSums rs xs) (sym (ap reverse c.reverse.ensures.items ∙ reverse-reverse sorted)) record {
      all = subst (λ (xs : List PairSum). IsPermutation xs sorted) are.each c.order_pairs.ensures.all;
      ordered = c.order_pairs.ensures.ordered;
    }
