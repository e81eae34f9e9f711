use Rattle.violations.specs.CoreSet.{is_in}
use Rattle.violations.specs.View.{is_accessed}
use Rattle.violations.proofs.Changing.{Reading}
use Rattle.violations.proofs.core_states.readers_from.Given as goal

abbrev pub invariant-loop-k : goal.invariant-loop-k
invariant-loop-k l = Reading l.core (is_accessed l.addr l.width) l.states (is_in l.hurt) l.k
