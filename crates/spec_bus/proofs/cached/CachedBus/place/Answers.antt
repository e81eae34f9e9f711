use Rattle.std.proofs.Common.{◌<◌, ◌∙◌, length, sym, ap, subst}
use Rattle.spec_bus.proofs.Placing.{place_in, place_inside}
use Rattle.spec_bus.proofs.cached.CachedBus.place.Goals as goal

pub returns-clause-inside : goal.returns-clause-inside
returns-clause-inside c =
    let i = c.self.inside in
    rw (← c.self.view_is)
    (λ below. subst (λ p. p < length i.parts.memory.items) (sym (c.place.ensures ∙ ap (place_in i.size i.apart i.parts) c.min.ensures)) (place_inside i.size i.apart i.parts c.args.addr c.self.invariant.places below))
