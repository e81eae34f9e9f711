use Rattle.conflicts.proofs.Storing.{IsFilled}
use Rattle.conflicts.proofs.ahead.push_stored.Given as goal

-- those so far are there
abbrev pub invariant-loop-addr : goal.invariant-loop-addr
invariant-loop-addr l = IsFilled l.entries l.core l.place l.first l.addr l.fn.bytes.items l.bytes.items
