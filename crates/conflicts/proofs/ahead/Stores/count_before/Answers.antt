use Rattle.std.proofs.Common.{sym, subst, true, false, rules, ◌≡◌}
use Rattle.std.specs.List.Sorted.{IsPartitionPoint, IsSorted}
use Rattle.std.proofs.lemmas.List.Sorted.{IsPartitionPoint-from_clause}
use Rattle.conflicts.specs.Ahead.{byte_order, is_before}
use Rattle.conflicts.proofs.Storing.{parted}
use Rattle.conflicts.proofs.ahead.Stores.count_before.Goals as goal

pub returns-clause-split : goal.returns-clause-split
returns-clause-split c sorted =
    let test = is_before c.args.addr c.args.after in
    subst (λ xs. IsPartitionPoint (λ x. test x ≡ true) (λ x. test x ≡ false) xs c.partition_point.result) c.deref.ensures.value
    (IsPartitionPoint-from_clause test _ _ c.partition_point.ensures.partitioned
    (parted c.args.addr c.args.after _ (subst (IsSorted byte_order) (sym c.deref.ensures.value) sorted)) (λ a r q k. search rules))
