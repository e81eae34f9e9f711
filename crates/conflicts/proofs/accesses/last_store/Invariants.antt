use Rattle.conflicts.specs.Attempts.{core_does, stores_byte}
use Rattle.conflicts.proofs.Backwards.{Passed}
use Rattle.conflicts.proofs.accesses.last_store.Given as goal

-- none so far stores to the byte
abbrev pub invariant-loop-i : goal.invariant-loop-i
invariant-loop-i l = Passed (λ k. core_does l.entries l.core k (stores_byte l.addr)) l.before l.i
