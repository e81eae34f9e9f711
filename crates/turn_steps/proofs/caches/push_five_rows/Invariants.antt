use Rattle.std.proofs.Common.{◌+◌, ◌&&◌, nat_le, nat_lt}
use Rattle.turn_steps.specs.Laws.{Adds}
use Rattle.turn_steps.proofs.caches.push_five_rows.Given as goal

-- the rows so far
abbrev pub invariant-loop-i : goal.invariant-loop-i
invariant-loop-i l = Adds l.initial.rows l.rows (λ row. nat_le l.first row && nat_lt row (l.first + l.i))
