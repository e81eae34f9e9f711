use Rattle.std.proofs.Common.{◌≡◌, length}
use Rattle.rv32_exec.specs.declared.sequential.End.TheVariants.{Done}
use Rattle.rv32_exec.specs.Sequential.{first_epochs}
use Rattle.dependences.specs.KeptRun.{IsRunKept}
use Rattle.dependences.specs.KeptTouches.{AreClear}
use Rattle.dependences.specs.KeptWatch.{IsWatchKept}
use Rattle.dependences.proofs.over_caches.run_both.Given as goal

-- the epochs so far are done, and none of them conflicts with one before it
abbrev pub invariant-loop-epoch : goal.invariant-loop-epoch
invariant-loop-epoch g l = record {
  before : first_epochs l.image l.epoch ≡ record { end = Done l.epoch; bytes = l.memory };
  size : length l.memory ≡ l.image.size;
  flow : IsRunKept g.F.Found.keeps l.image l.epoch l.both.first l.lengths.items;
  watch : IsWatchKept l.image l.cores l.both.second l.epoch;
  clear : AreClear l.image l.cores l.epoch;
}
