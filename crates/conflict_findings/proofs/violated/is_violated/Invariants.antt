use Rattle.std.proofs.Common.{◌≡◌, ◌-◌}
use Rattle.conflict_findings.specs.Violated.{is_violated}
use Rattle.conflict_findings.proofs.violated.is_violated.Given as goal

-- the entries so far say nothing
abbrev pub invariant-loop-i : goal.invariant-loop-i
invariant-loop-i l = is_violated l.entries l.runner.core l.runner.epoch l.before ≡ is_violated l.entries l.runner.core l.runner.epoch (l.before - l.i)
