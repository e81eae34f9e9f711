use Rattle.std.proofs.Common.{◌-◌, ◌&&◌, nat_le, nat_lt}
use Rattle.turn_steps.specs.Laws.{Adds}
use Rattle.turn_steps.proofs.entries.add_near.Given as goal

-- the rows so far
abbrev pub invariant-loop-near : goal.invariant-loop-near
invariant-loop-near l = Adds l.initial.rows l.rows (λ other. nat_le (l.number - 4) other && nat_lt other l.near)
