use Rattle.std.proofs.Common.{◌≡◌, take, Some}
use Rattle.spec_history.specs.Replay.{replay}
use Rattle.spec_history.specs.View.{state_in, cores_in}
use Rattle.spec_history.proofs.flat.audit.Given as goal

-- the entries so far replay
abbrev pub invariant-loop-place : goal.invariant-loop-place
invariant-loop-place l = record {
  image : l.flat.image ≡ l.image;
  cores : cores_in l.flat ≡ l.cores;
  replays : replay l.image l.cores (take l.place l.entries) ≡ Some (state_in l.flat);
}
