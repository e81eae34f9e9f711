use Rattle.spec_bus.proofs.Placing.{seen_settled}
use Rattle.spec_bus.proofs.cached.CachedBusEpochStore.look.Goals as goal

pub returns-clause-settled : goal.returns-clause-settled
returns-clause-settled c =
    let i = c.self.inside in
    rw (← c.self.view_is) (seen_settled i.size i.apart i.parts c.self.invariant.bus c.self.invariant.places)

pub returns-clause-coherent : goal.returns-clause-coherent
returns-clause-coherent c = rw (← c.self.view_is) c.self.invariant.bus.coherent
