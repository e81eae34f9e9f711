use Rattle.std.proofs.Common.{◌≡◌, take, Some}
use Rattle.spec_history.specs.Replay.{replay}
use Rattle.spec_history.specs.View.{state_in, cores_in}
use Rattle.conflicts.specs.Sites.{sites_before}
use Rattle.conflicts.proofs.standing.sites.Given as goal

-- the entries so far replay, and each has its site
abbrev pub invariant-loop-place : goal.invariant-loop-place
invariant-loop-place l = record {
  image : l.flat.image ≡ l.image;
  cores : cores_in l.flat ≡ l.cores;
  replays : replay l.image l.cores (take l.place l.entries) ≡ Some (state_in l.flat);
  each : l.sites.items ≡ sites_before l.image l.cores l.entries l.place;
}
