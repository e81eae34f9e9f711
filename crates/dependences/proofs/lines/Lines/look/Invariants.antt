use Rattle.std.proofs.Common.{ℕ, ◌+◌, ◌<◌}
use Rattle.dependences.specs.KeptOwn.{HasStored}
use Rattle.dependences.proofs.lines.Lines.look.Given as goal

-- the bytes so far are the epoch's own
abbrev pub invariant-loop-i : goal.invariant-loop-i
invariant-loop-i l = (k : ℕ) → k < l.i → HasStored l.self.own l.epoch (l.addr + k)
