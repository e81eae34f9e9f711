use Rattle.std.proofs.Common.{◌∙◌, not, ap}
use Rattle.spec_bus.proofs.Placing.{committed_as_is, none_is}
use Rattle.spec_bus.proofs.cached.CachedBusEpochStore.committed_memory.Goals as goal

pub returns-then-is_none : goal.returns-then-is_none
returns-then-is_none c =
    let i = c.self.inside in
    rw (← c.self.view_is)
    (committed_as_is i.size i.apart i.parts c.in_ok-memory.memory.items c.self.invariant.places (none_is i.apart (c.is_none.ensures ∙ ap not c.if-is_none.true)) c.in_ok-memory.ensures)
