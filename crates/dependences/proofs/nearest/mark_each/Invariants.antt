use Rattle.epoch_paths.specs.Kept.{IsMarked}
use Rattle.dependences.proofs.nearest.mark_each.Given as goal

-- the bytes so far are marked
abbrev pub invariant-loop-i : goal.invariant-loop-i
invariant-loop-i l = IsMarked l.fn.writers l.writers l.addr l.i l.writer
