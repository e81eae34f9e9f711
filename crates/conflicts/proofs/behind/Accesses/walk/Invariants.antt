use Rattle.std.proofs.Common.{◌-◌}
use Rattle.conflicts.specs.Behind.{AreBehind}
use Rattle.conflicts.proofs.behind.Accesses.walk.Given as goal

-- what is noted is right
abbrev pub invariant-loop-self : goal.invariant-loop-self
invariant-loop-self l = AreBehind l.image.size l.entries l.core l.self

abbrev pub decreases-loop-self : goal.decreases-loop-self
decreases-loop-self l = l.place - l.self.place
