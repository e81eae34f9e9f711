use Rattle.std.proofs.Common.{◌≡◌, length}
use Rattle.spec_bus.specs.Fresh.{AreIdle}
use Rattle.spec_bus.proofs.cores.idle_cores.Given as goal

abbrev pub invariant-loop : goal.invariant-loop
invariant-loop l = record {
  count : length l.cores.items ≡ l.counter;
  idle : AreIdle l.machine l.cores.items;
}
