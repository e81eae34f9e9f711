use Rattle.std.proofs.Common.{◌≡◌, ◌++◌, map, take}
use Rattle.conflict_findings.specs.AllAttempts.{of_running}
use Rattle.conflict_findings.proofs.attempts.push_running.Given as goal

-- those so far
abbrev pub invariant-loop-attempt : goal.invariant-loop-attempt
invariant-loop-attempt l = l.attempts.items ≡ l.initial.attempts.items ++ map (of_running l.entries) (take l.attempt-index l.running)
