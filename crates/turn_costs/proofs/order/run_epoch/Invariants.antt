use Rattle.std.proofs.Common.{◌+◌, ◌-◌}
use Rattle.turn_costs.specs.Order.{kind_of}
use Rattle.turn_costs.proofs.Ordering.{SoFar}
use Rattle.turn_costs.proofs.order.run_epoch.Given as goal

-- the accesses so far
abbrev pub invariant-accesses : goal.invariant-accesses
invariant-accesses g l =
    SoFar (kind_of g.S.EpochStore.makes g.S.EpochStore.view g.S.PricedStore.prices) l.image l.costs l.epoch l.initial.store l.memory l.hart l.store

abbrev pub decreases-accesses : goal.decreases-accesses
decreases-accesses g l = l.image.limit + 1 - l.hart.done
