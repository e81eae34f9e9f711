use Rattle.std.proofs.Common.{◌≡◌, ◌++◌}
use Rattle.turn_steps.specs.Stepped.{attempt_changes, attempt_in}
use Rattle.turn_steps.proofs.cores.push_attempt_changes.Given as goal

-- the cores so far are written
abbrev pub invariant-loop-core : goal.invariant-loop-core
invariant-loop-core l = l.text.items ≡ l.initial.text.items ++ attempt_changes (attempt_in l.old) (attempt_in l.now) l.core
