use Rattle.std.proofs.Common.{ℕ, ◌<◌}
use Rattle.spec_bus.specs.Laws.{IsPlacedCore}
use Rattle.spec_bus.proofs.cached.CachedBus.look_caches.Given as goal

abbrev pub invariant-loop-core : goal.invariant-loop-core
invariant-loop-core l = (k : ℕ) → k < l.core → IsPlacedCore l.self.cores k
