use Rattle.turn_costs.specs.Order.{kind_of}
use Rattle.turn_costs.proofs.Ordering.{AreSoFar}
use Rattle.turn_costs.proofs.order.steps_in_order.Given as goal

-- the loop goes on after each epoch so far
abbrev pub invariant-loop-epoch : goal.invariant-loop-epoch
invariant-loop-epoch g l =
    AreSoFar (kind_of g.S.EpochStore.makes g.S.EpochStore.view g.S.PricedStore.prices) l.image l.costs l.initial.store l.epoch l.steps l.store
