use Rattle.std.proofs.Common.{◌≡◌}
use Rattle.spec_history.specs.View.{state_in}
use Rattle.conflict_findings.specs.Ends.{running_below}
use Rattle.conflict_findings.proofs.running.running_in.Given as goal

-- those of the cores so far
abbrev pub invariant-loop-core : goal.invariant-loop-core
invariant-loop-core l = l.running.items ≡ running_below l.flat.image l.entries (state_in l.flat) l.core
