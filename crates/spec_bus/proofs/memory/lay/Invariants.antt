use Rattle.std.proofs.Common.{◌≡◌}
use Rattle.spec_bus.specs.Fresh.{laid}
use Rattle.spec_bus.proofs.memory.lay.Given as goal

abbrev pub invariant-loop-n : goal.invariant-loop-n
invariant-loop-n l = l.memory.items ≡ laid l.image l.apart.first l.n
