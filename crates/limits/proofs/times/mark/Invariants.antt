use Rattle.epoch_paths.specs.Kept.{IsMarked}
use Rattle.limits.proofs.times.mark.Given as goal

-- the bytes so far are marked
abbrev pub invariant-loop-i : goal.invariant-loop-i
invariant-loop-i l = record {
  writers : IsMarked l.fn.writers l.writers l.addr l.i l.writer;
  stores : IsMarked l.fn.stores l.stores l.addr l.i l.step;
}
