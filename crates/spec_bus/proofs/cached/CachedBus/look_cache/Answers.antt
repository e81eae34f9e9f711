use Rattle.std.proofs.Common.{◌≡◌, ◌∙◌, sym, subst, Some}
use Rattle.cache_lines.specs.Placed.{IsPlaced}
use Rattle.spec_bus.specs.declared.bus_core.Core.{Core}
use Rattle.spec_bus.proofs.cached.CachedBus.look_cache.Goals as goal

pub returns : goal.returns
returns c = rw (← c.self.view_is) (λ core at.
    let one : Some c.core.result.now ≡ Some core = sym c.core.ensures.is ∙ at in
    let same : c.core.result.now ≡ core = cc in
    subst (λ (x : Core). IsPlaced x.cache) same c.ways-ways.ensures.placed)
