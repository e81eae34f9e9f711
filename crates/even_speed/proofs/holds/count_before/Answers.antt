use Rattle.std.proofs.Common.{rules}
use Rattle.std.proofs.lemmas.List.Sorted.{IsPartitionPoint-from_clause}
use Rattle.even_speed.specs.Holds.{is_before}
use Rattle.even_speed.proofs.Finding.{parted}
use Rattle.even_speed.proofs.holds.count_before.Goals as goal

pub returns : goal.returns
returns c =
    IsPartitionPoint-from_clause (is_before c.args.piece c.args.epoch) _ _ c.partition_point.ensures.partitioned
    (parted c.args.piece c.args.epoch _ c.requires) (λ a r q k. search rules)
