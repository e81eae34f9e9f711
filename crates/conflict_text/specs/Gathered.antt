-- What is gathered of a history in one replay.
-- Source: this project.
use Rattle.std.specs.Prelude.{◌≡◌, ℕ, Bool, List, Option, Some, filter, take}
use Rattle.rv32_image.specs.Image.{LoadedImage}
use Rattle.spec_history.specs.declared.entry.Entry.{Entry}
use Rattle.spec_history.specs.Replay.{replay}
use Rattle.spec_history.specs.View.{state_in, cores_in}
use Rattle.conflicts.specs.declared.standing.Site.{Site}
use Rattle.conflicts.specs.Behind.{IsKnown}
use Rattle.conflict_findings.specs.Ends.{ended_before}
use Rattle.conflict_findings.specs.Followed.{IsFollowedTo}
use Rattle.conflict_findings.specs.Violated.{AreMarked}
use Rattle.conflict_text.specs.declared.finding.Gathering.{Gathering}
use Rattle.conflict_text.specs.Ends.{is_kept}
use Rattle.conflict_text.specs.Why.{AreFound}

-- the entries before a place replay, they say which cores are hurt, what is found of their violations is kept, and what is kept of attempts is right, and they are noted
pub record IsGathered (all : Bool) (loaded : LoadedImage) (count : ℕ) (history : List Entry) (sites : List (Option Site)) (place : ℕ) (so_far : Gathering) : Type 0 where
  pub image : so_far.flat.image ≡ loaded
  pub cores : cores_in so_far.flat ≡ count
  pub replays : replay loaded count (take place history) ≡ Some (state_in so_far.flat)
  pub marked : AreMarked history place (state_in so_far.flat).cores
  pub found : AreFound loaded count history sites place so_far.findings.lines.items so_far.findings.sums
  pub ended : so_far.ended.items ≡ filter (is_kept all) (ended_before loaded count history place)
  pub known : IsKnown loaded.size history so_far.known
  pub followed : IsFollowedTo history place so_far.findings.followed
