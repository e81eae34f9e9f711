use Rattle.std.proofs.Common.{◌≡◌, ◌++◌, map, take}
use Rattle.conflict_findings.specs.AllAttempts.{of_ended}
use Rattle.conflict_findings.proofs.attempts.push_ended.Given as goal

-- those so far
abbrev pub invariant-loop-e : goal.invariant-loop-e
invariant-loop-e l = l.attempts.items ≡ l.initial.attempts.items ++ map (of_ended l.entries) (take l.e-index l.ended)
