use Rattle.std.proofs.Common.{◌≤◌}
use Rattle.conflicts.specs.Attempts.{core_does, is_begin, is_start}
use Rattle.conflicts.proofs.Numbering.{IsNumbered}
use Rattle.conflicts.proofs.accesses.attempt_number.Given as goal

-- so many begin so far, and none starts
abbrev pub invariant-loop-i : goal.invariant-loop-i
invariant-loop-i l = record {
  few : l.again ≤ l.i;
  rest : IsNumbered (λ k. core_does l.entries l.core k is_start) (λ k. core_does l.entries l.core k is_begin) l.before l.i l.again;
}
