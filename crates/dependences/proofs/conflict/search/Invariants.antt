use Rattle.std.proofs.Common.{◌≡◌, length}
use Rattle.dependences.proofs.Ending.{Searched}
use Rattle.dependences.proofs.conflict.search.Given as goal

-- no epoch before this one conflicts
abbrev pub invariant-loop-later : goal.invariant-loop-later
invariant-loop-later l = record {
  searched : Searched l.image l.cores l.later l.done l.memory;
  size : length l.memory ≡ l.image.size;
  alone : length l.alone ≡ l.image.size;
  marks : length l.marks ≡ l.image.size;
}
