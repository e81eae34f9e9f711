use Rattle.std.proofs.Common.{◌≡◌, ◌≤◌, length}
use Rattle.rv32_exec.specs.declared.sequential.End.TheVariants.{Done}
use Rattle.rv32_exec.specs.Sequential.{first_epochs}
use Rattle.dependences.specs.Conflict.{first_beside}
use Rattle.dependences.specs.KeptTouches.{AreClear}
use Rattle.dependences.specs.KeptWatch.{IsWatchKept}
use Rattle.dependences.proofs.caches.search.Given as goal

-- no epoch before this one conflicts
abbrev pub invariant-loop-later : goal.invariant-loop-later
invariant-loop-later l = record {
  before : first_epochs l.image l.done ≡ record { end = Done l.done; bytes = l.memory };
  low : l.done ≤ first_beside l.cores l.later;
  size : length l.memory ≡ l.image.size;
  alone : length l.alone ≡ l.image.size;
  kept : IsWatchKept l.image l.cores l.watch l.later;
  clear : AreClear l.image l.cores l.later;
}
