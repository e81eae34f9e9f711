use Rattle.std.proofs.Common.{◌≡◌}
use Rattle.dependences.specs.Kept.{load_behind}
use Rattle.dependences.proofs.nearest.nearer_of.Given as goal

-- the bytes so far are looked at
abbrev pub invariant-loop-i : goal.invariant-loop-i
invariant-loop-i l = l.nearest ≡ load_behind l.writers l.epoch l.addr l.i l.fn.nearest
