use Rattle.violations.proofs.Changing.{Reserving}
use Rattle.violations.proofs.core_states.reserve.Given as goal

abbrev pub invariant-loop-k : goal.invariant-loop-k
invariant-loop-k l = Reserving l.size l.accesses l.fn.states.items l.states.items l.k
