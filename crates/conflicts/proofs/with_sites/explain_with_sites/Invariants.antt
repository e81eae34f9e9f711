use Rattle.std.proofs.Common.{◌≡◌, take, Some, All}
use Rattle.spec_history.specs.Replay.{replay}
use Rattle.spec_history.specs.View.{state_in, cores_in}
use Rattle.conflicts.specs.Behind.{IsKnown}
use Rattle.conflicts.specs.Explained.{IsExplained, places_of, violations_before}
use Rattle.conflicts.specs.Sites.{sites_before}
use Rattle.conflicts.proofs.with_sites.explain_with_sites.Given as goal

-- the entries so far replay, each violation among them is explained, each entry has its site, and what is kept of attempts is right
abbrev pub invariant-loop-place : goal.invariant-loop-place
invariant-loop-place l = record {
  image : l.flat.image ≡ l.image;
  cores : cores_in l.flat ≡ l.cores;
  replays : replay l.image l.cores (take l.place l.entries) ≡ Some (state_in l.flat);
  each : places_of l.explanations.items ≡ violations_before l.entries l.place;
  explained : All (IsExplained l.image l.cores l.entries) l.explanations.items;
  sites : l.sites.items ≡ sites_before l.image l.cores l.entries l.place;
  known : IsKnown l.flat.image.size l.entries l.known;
}
