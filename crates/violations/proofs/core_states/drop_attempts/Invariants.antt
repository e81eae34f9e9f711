use Rattle.violations.specs.CoreSet.{is_in}
use Rattle.violations.proofs.Changing.{Dropping}
use Rattle.violations.proofs.core_states.drop_attempts.Given as goal

abbrev pub invariant-loop-k : goal.invariant-loop-k
invariant-loop-k l = Dropping (is_in l.hurt) l.fn.states.items l.states.items l.k
