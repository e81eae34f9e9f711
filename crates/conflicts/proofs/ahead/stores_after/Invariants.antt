use Rattle.conflicts.specs.Ahead.{AreStored}
use Rattle.conflicts.proofs.ahead.stores_after.Given as goal

-- the stores of the places so far are there
abbrev pub invariant-loop-place : goal.invariant-loop-place
invariant-loop-place l = AreStored l.image.size l.entries l.core l.after l.place l.bytes.items
