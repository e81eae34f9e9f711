use Rattle.conflicts.specs.Attempts.{core_does, is_begin}
use Rattle.conflicts.proofs.Backwards.{Passed}
use Rattle.conflicts.proofs.accesses.attempt_place.Given as goal

-- none so far begins an attempt
abbrev pub invariant-loop-i : goal.invariant-loop-i
invariant-loop-i l = Passed (λ k. core_does l.entries l.core k is_begin) l.before l.i
