-- What is found of a violation: all that is told and summed of it. Its explanation has whom to blame; here stand the two accesses
-- with their instructions, where they met, what it cost, and what became of it.
-- Source: this project.
use Rattle.std.specs.Prelude.{ℕ, ◌-◌, List, Option, Some, None, is_some, map, slice_get, option_and_then, option_map}
use Rattle.rv32_image.specs.Image.{LoadedImage}
use Rattle.spec_history.specs.declared.entry.Entry.{Entry}
use Rattle.spec_history.specs.FlatState.{FlatState}
use Rattle.conflicts.specs.declared.explanation.Blame.{Blame}
use Rattle.conflicts.specs.declared.explanation.ByteRange.{ByteRange}
use Rattle.conflicts.specs.declared.explanation.Explanation.{Explanation}
use Rattle.conflicts.specs.declared.explanation.Runner.{Runner}
use Rattle.spec_history.specs.declared.kind.Kind.{Kind}
use Rattle.spec_history.specs.declared.kind.Kind.TheVariants.{FullBuffer}
use Rattle.conflicts.specs.declared.standing.Site.{Site}
use Rattle.conflicts.specs.Attempts.{attempt_number, state_before}
use Rattle.conflicts.specs.Blame.{accessed_bytes, accessed_line}
use Rattle.spec_history.specs.Conflict.{line_number, what_at}
use Rattle.conflicts.specs.Fates.{held_at, is_stale_pair, moot_at, since, undone_at}
use Rattle.conflict_findings.specs.declared.finding.Access.{Access}
use Rattle.conflict_findings.specs.declared.finding.Finding.{Finding}
use Rattle.conflict_findings.specs.declared.finding.FurtherRun.{FurtherRun}
use Rattle.conflict_findings.specs.declared.run.Run.{Run}
use Rattle.conflict_findings.specs.Runs.{runs_in}

-- ---- accesses

-- the address of the instruction of the entry at a place
abbrev pub pc_at : List (Option Site) → ℕ → Option ℕ
pc_at sites place = option_and_then (λ (there : Option Site). option_map (λ (site : Site). site.pc) there) (slice_get sites place)

-- the access at a place, with its instruction
abbrev pub access_at : List (Option Site) → ℕ → Access
access_at sites place = record { place = place; pc = pc_at sites place }

-- the place of the access that asked for the line of a full buffer: its cause
abbrev pub asked_by : Kind → Option ℕ → Option ℕ
asked_by FullBuffer cause = cause
asked_by kind cause = None

abbrev pub asked_at : Explanation → Option ℕ
asked_at e = asked_by e.kind e.cause

-- the place of the causer's access: the store that is blamed, or the access that asked
abbrev pub causer_place_by : Option Blame → Option ℕ → Option ℕ
causer_place_by (Some blame) asked = Some blame.store
causer_place_by None asked = asked

abbrev pub causer_place : Explanation → Option ℕ
causer_place e = causer_place_by e.blame (asked_at e)

-- the place of the victim's access: the load that is blamed, or the store that held the line
abbrev pub victim_place_by : Option Blame → Option ℕ → Option ℕ
victim_place_by (Some blame) held = Some blame.load
victim_place_by None held = held

abbrev pub victim_place : LoadedImage → List Entry → Explanation → Option ℕ
victim_place image entries e = victim_place_by e.blame (held_at image entries e)

-- ---- where they met

-- the line that the cause asked for where a buffer was full
abbrev pub asked_line : LoadedImage → List Entry → Explanation → Option ℕ
asked_line image entries e = option_and_then (accessed_line image) (what_at entries (asked_at e))

-- the line of the blamed byte, or the one that was asked for
abbrev pub met_line_by : LoadedImage → Option Blame → Option ℕ → Option ℕ
met_line_by image (Some blame) asked = Some (line_number image blame.byte)
met_line_by image None asked = asked

abbrev pub met_line : LoadedImage → List Entry → Explanation → Option ℕ
met_line image entries e = met_line_by image e.blame (asked_line image entries e)

-- where the bytes of that line are
abbrev pub asked_bytes : LoadedImage → List Entry → Explanation → Option ByteRange
asked_bytes image entries e = option_and_then (accessed_bytes image) (what_at entries (asked_at e))

-- the bytes around the blamed one that met alike, or the line that was asked for
abbrev pub met_bytes_by : Option Blame → Option ByteRange → Option ByteRange
met_bytes_by (Some blame) asked = Some blame.bytes
met_bytes_by None asked = asked

abbrev pub met_bytes : LoadedImage → List Entry → Explanation → Option ByteRange
met_bytes image entries e = met_bytes_by e.blame (asked_bytes image entries e)

-- ---- findings

-- by how many epochs the victim stands after the causer; 0 where it does not, which is so of no violation that the flat machine
-- accepts (`sum_laws::violated_epochs_come_after`)
abbrev pub distance_of : Runner → Runner → ℕ
distance_of victim causer = victim.epoch - causer.epoch

abbrev pub finding_of : LoadedImage → List Entry → List (Option Site) → Explanation → Finding
finding_of image entries sites e = record {
  place = e.place;
  kind = e.kind;
  victim = e.victim;
  attempt = attempt_number entries e.victim.core e.place;
  lost = e.lost;
  entered = e.entered;
  since = since sites e;
  causer = e.causer;
  distance = distance_of e.victim e.causer;
  cause = e.cause;
  act = what_at entries e.cause;
  victim_access = option_map (access_at sites) (victim_place image entries e);
  causer_access = option_map (access_at sites) (causer_place e);
  line = met_line image entries e;
  bytes = met_bytes image entries e;
  stale = is_stale_pair e.blame;
  later = option_map (access_at sites) e.later;
  undoing = what_at entries (undone_at entries e);
  moot = is_some (moot_at entries e);
}

-- a further run, with the instructions that met there
abbrev pub further_run : List (Option Site) → Run → FurtherRun
further_run sites run = record { kind = run.kind; load = access_at sites run.load; store = access_at sites run.store; bytes = run.bytes }

-- the further runs of a violation, in the state before it
abbrev pub further_in : LoadedImage → List Entry → List (Option Site) → Explanation → Option FlatState → List FurtherRun
further_in image entries sites e s = map (further_run sites) (runs_in image entries e s)

abbrev pub further_of : LoadedImage → ℕ → List Entry → List (Option Site) → Explanation → List FurtherRun
further_of image count entries sites e = further_in image entries sites e (state_before image count entries e.place)
