use Rattle.std.proofs.Common.{◌≡◌, ℕ, length}
use Rattle.violations.specs.CoreState.{AreIdle}
use Rattle.violations.proofs.core_states.idle_states.Given as goal

abbrev pub invariant-loop : goal.invariant-loop
invariant-loop l = record {
  count : length l.states.items ≡ l.counter;
  idle : (size : ℕ) → AreIdle size l.states.items;
}
