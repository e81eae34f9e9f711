-- What of a finding is summed: the kind, the violated epoch, the two instructions that met, the line and the bytes in which they
-- met, what was lost, what became of it, and how far apart the epochs stood.
use Rattle.std.specs.Prelude.{ℕ, List, Option, is_some, option_and_then, option_map}
use Rattle.rv32_image.specs.Image.{LoadedImage}
use Rattle.spec_history.specs.declared.entry.Entry.{Entry}
use Rattle.conflicts.specs.declared.explanation.Explanation.{Explanation}
use Rattle.conflicts.specs.declared.standing.Site.{Site}
use Rattle.conflict_findings.specs.declared.finding.Access.{Access}
use Rattle.conflict_findings.specs.declared.finding.Finding.{Finding}
use Rattle.conflict_findings.specs.declared.rollback.Pair.{Pair}
use Rattle.conflict_findings.specs.declared.rollback.Rollback.{Rollback}
use Rattle.conflict_findings.specs.Findings.{finding_of}

-- the address of the instruction of an access, where both are known
abbrev pub pc_of : Option Access → Option ℕ
pc_of access = option_and_then (λ (a : Access). a.pc) access

-- the instructions that met, where both are known
abbrev pub pair_of : Option Access → Option Access → Option Pair
pair_of causer victim = option_and_then (λ s. option_map (λ l. record { store = s; load = l }) (pc_of victim)) (pc_of causer)

abbrev pub rollback_of : Finding → Rollback
rollback_of f = record {
  kind = f.kind;
  epoch = f.victim.epoch;
  pair = pair_of f.causer_access f.victim_access;
  line = f.line;
  lost = f.lost;
  stale = f.stale;
  vain = is_some f.undoing;
  came_true = is_some f.later;
  distance = f.distance;
  bytes = f.bytes;
}

-- the same of what is found of an explanation
abbrev pub rollback_at : LoadedImage → List Entry → List (Option Site) → Explanation → Rollback
rollback_at image entries sites e = rollback_of (finding_of image entries sites e)
