use Rattle.std.proofs.Common.{◌≡◌, length}
use Rattle.spec_history.specs.Cores.{AreIdle}
use Rattle.spec_history.proofs.machine.idle_cores.Given as goal

abbrev pub invariant-loop : goal.invariant-loop
invariant-loop l = record {
  count : length l.cores.items ≡ l.counter;
  idle : AreIdle l.cores.items;
}
