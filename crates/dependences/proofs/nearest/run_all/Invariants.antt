use Rattle.dependences.specs.Kept.{GoesOn}
use Rattle.dependences.proofs.nearest.run_all.Given as goal

-- the epochs so far are done
abbrev pub invariant-loop-epoch : goal.invariant-loop-epoch
invariant-loop-epoch l = GoesOn l.image l.epoch l.memory l.writers l.nearest
