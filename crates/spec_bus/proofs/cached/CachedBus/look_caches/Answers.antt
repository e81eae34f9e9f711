use Rattle.std.proofs.Common.{◌<◌, arith}
use Rattle.std.proofs.lemmas.Option.{slice_get_within}
use borrow.Author.Count.{below_more}
use Rattle.spec_bus.specs.Laws.{IsPlacedCore}
use Rattle.spec_bus.proofs.cached.CachedBus.look_caches.Goals as goal

pub loop-core-preserved : goal.loop-core-preserved
loop-core-preserved c = below_more (IsPlacedCore c.args.self.now.cores) c.loop-core.core c.loop-core.invariant c.look_cache.ensures

pub returns : goal.returns
returns c = λ k core at.
    let within = slice_get_within c.args.self.now.cores k core at in
    let below : k < c.loop-core.core = omega arith in
    c.loop-core.invariant k below core at
