use Rattle.std.proofs.Common.{◌≡◌, ◌++◌, take}
use Rattle.std.specs.List.{flat_map}
use Rattle.conflict_text.specs.AllAttempts.{attempt_line}
use Rattle.conflict_text.proofs.attempts.push_all.Given as goal

-- those so far are told
abbrev pub invariant-loop-attempt : goal.invariant-loop-attempt
invariant-loop-attempt l = l.text.items ≡ l.initial.text.items ++ flat_map attempt_line (take l.attempt-index l.attempts)
