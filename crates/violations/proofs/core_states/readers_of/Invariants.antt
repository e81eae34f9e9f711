use Rattle.violations.specs.CoreSet.{is_in}
use Rattle.violations.specs.CoreState.{bytes_in}
use Rattle.violations.proofs.Changing.{Reading}
use Rattle.violations.proofs.core_states.readers_of.Given as goal

abbrev pub invariant-loop-k : goal.invariant-loop-k
invariant-loop-k l = Reading l.core (bytes_in l.bytes.cells) l.states (is_in l.hurt) l.k
