use Rattle.std.proofs.Common.{◌-◌}
use Rattle.depends.specs.Never.{IsBetween}
use Rattle.depends.proofs.least.least_by_halves.Given as goal

-- epochs conflict on the one number of cores, and on none below the other
abbrev pub invariant-halves : goal.invariant-halves
invariant-halves l = IsBetween l.image l.grain l.cores l.least l.low

abbrev pub decreases-halves : goal.decreases-halves
decreases-halves l = l.least.cores - l.low
