use Rattle.std.proofs.Common.{◌≡◌, length}
use Rattle.dependences.specs.KeptRun.{IsLeft, IsRunKept}
use Rattle.dependences.proofs.flow.run_all.Given as goal

-- the epochs so far are done
abbrev pub invariant-loop-epoch : goal.invariant-loop-epoch
invariant-loop-epoch g l = record {
  left : IsLeft l.image l.epoch l.memory l.goes_on;
  kept : IsRunKept g.F.Found.keeps l.image l.epoch l.flow l.lengths.items;
  size : length l.memory ≡ l.image.size;
}
