-- The further runs of bytes at which two epochs met in a violation, beside the one that is blamed.
-- Source: this project.
use Rattle.std.specs.Prelude.{◌≡◌, ◌<◌, ℕ, zero, suc, ◌+◌, ◌==◌, ◌&&◌, not, nat_lt, Bool, false, length, slice_index, List, [], ◌++◌, Option, Some, None, is_some, option_and_then, option_map, option_to_list, if◌then◌else◌}
use Rattle.std.specs.List.Sorted.{IsSorted}
use Rattle.std.specs.Ordering.{nat_cmp}
use Rattle.memory_bytes.specs.Shadow.{IsAmong}
use Rattle.rv32_image.specs.Image.{LoadedImage}
use Rattle.spec_history.specs.declared.entry.Entry.{Entry}
use Rattle.spec_history.specs.declared.entry.What.{What}
use Rattle.spec_history.specs.FlatState.{FlatState}
use Rattle.spec_history.specs.Refusal.{any_below}
use Rattle.conflicts.specs.declared.explanation.Blame.{Blame}
use Rattle.conflicts.specs.declared.explanation.ByteRange.{ByteRange}
use Rattle.conflicts.specs.declared.explanation.Explanation.{Explanation}
use Rattle.spec_history.specs.declared.kind.Kind.{Kind}
use Rattle.spec_history.specs.declared.kind.Kind.TheVariants.{TrueSharing, SilentStore, FalseSharing}
use Rattle.spec_history.specs.Searches.{first_below}
use Rattle.conflicts.specs.Attempts.{covers, first_read, reads_outside, state_before}
use Rattle.conflicts.specs.Blame.{Violation, blamed_range, blamed_store, read_at}
use Rattle.spec_history.specs.Conflict.{Meeting, is_changed, is_shared, line_count, line_has, line_number, meeting, what_at}
use Rattle.conflict_findings.specs.declared.run.Run.{Run}

-- ---- runs

-- a run of a violation of this kind is true sharing, if the cause changes one of its bytes
abbrev pub run_kind : LoadedImage → Meeting → Kind → ByteRange → Kind
run_kind image m kind bytes = if any_below image.size (λ a. covers bytes.first bytes.length a && is_changed m a) then TrueSharing else kind

-- the run of a byte that this load read first: its neighbours of which the load and the store are the same
abbrev pub run_with : LoadedImage → List Entry → Violation → ℕ → ℕ → ℕ → Run
run_with image entries v load a store =
    let bytes = blamed_range image entries v load store a in
    record { kind = run_kind image v.bytes v.kind bytes; load = load; store = store; bytes = bytes }

abbrev pub run_of : LoadedImage → List Entry → Violation → ℕ → ℕ → Option Run
run_of image entries v load a = option_map (run_with image entries v load a) (blamed_store image entries v a)

-- the blamed run begins at this byte
abbrev pub begins_blamed : Option Blame → ℕ → Bool
begins_blamed None a = false
begins_blamed (Some pair) a = pair.bytes.first == a

abbrev pub only : (Run → Bool) → Option Run → Option Run
only test run = option_and_then (λ r. if test r then Some r else None) run

-- ---- of bytes that are written and were read

-- the run of a byte
abbrev pub run_at : LoadedImage → List Entry → Violation → ℕ → Option Run
run_at image entries v a = option_and_then (λ load. run_of image entries v load a) (read_at entries v a)

-- the run that begins at a byte, if one does
abbrev pub run_from : LoadedImage → List Entry → Violation → ℕ → Option Run
run_from image entries v a = only (λ run. run.bytes.first == a) (run_at image entries v a)

abbrev pub shared_run : LoadedImage → List Entry → Option Blame → Violation → ℕ → Option Run
shared_run image entries blame v a =
    if is_shared v.bytes a && not (begins_blamed blame a) then run_from image entries v a else None

-- ---- of lines alone

-- the victim has read a byte of the line and the cause writes one, but no byte is both
abbrev pub is_falsely_shared : LoadedImage → Meeting → ℕ → Bool
is_falsely_shared image m line =
    line_has image line (λ a. is_some (m.reads a)) && (line_has image line (λ a. is_some (m.writes a)) && not (line_has image line (is_shared m)))

-- the lowest byte of a line that the load at a place read from outside, of the attempt that a core runs before another place
abbrev pub byte_in : LoadedImage → List Entry → ℕ → ℕ → ℕ → ℕ → Option ℕ
byte_in image entries core before line load =
    first_below image.size (λ a. (line_number image a == line) && reads_outside entries core before a load)

-- the first load of the attempt that read one
abbrev pub load_in : LoadedImage → List Entry → ℕ → ℕ → ℕ → Option ℕ
load_in image entries core before line = first_below before (λ j. is_some (byte_in image entries core before line j))

-- the run that this load read first
abbrev pub run_in : LoadedImage → List Entry → Violation → ℕ → Option Run
run_in image entries v line =
    option_and_then (λ load. option_and_then (run_of image entries v load) (byte_in image entries v.victim v.place line load))
    (load_in image entries v.victim v.place line)

abbrev pub line_run : LoadedImage → List Entry → Option Blame → Violation → ℕ → Option Run
line_run image entries blame v line =
    if is_falsely_shared image v.bytes line then only (λ run. not (begins_blamed blame run.bytes.first)) (run_in image entries v line) else None

-- ---- of a violation

-- those of the numbers below another, in ascending order
unfoldable pub runs_below : ℕ → (ℕ → Option Run) → List Run
runs_below zero runs = []
runs_below (suc n) runs = runs_below n runs ++ option_to_list (runs n)

-- the violation of an explanation, taken for one of this kind
abbrev pub violation_of : FlatState → Explanation → ℕ → What → Kind → Violation
violation_of s e cause what kind = record {
  place = e.place;
  causer = e.causer.core;
  victim = e.victim.core;
  cause = cause;
  what = what;
  kind = kind;
  bytes = meeting s e.causer.core what e.victim.core;
}

-- those of bytes in ascending order, and then those of lines
abbrev pub runs_by : LoadedImage → FlatState → List Entry → Explanation → Option ℕ → Option What → List Run
runs_by image s entries e (Some cause) (Some what) =
    runs_below image.size (shared_run image entries e.blame (violation_of s e cause what SilentStore))
    ++ runs_below (line_count image) (line_run image entries e.blame (violation_of s e cause what FalseSharing))
runs_by image s entries e cause what = []

-- the further runs of a violation, in the state before it
abbrev pub runs_in : LoadedImage → List Entry → Explanation → Option FlatState → List Run
runs_in image entries e (Some s) = runs_by image s entries e e.cause (what_at entries e.cause)
runs_in image entries e None = []

abbrev pub further_runs : LoadedImage → ℕ → List Entry → Explanation → List Run
further_runs image count entries e = runs_in image entries e (state_before image count entries e.place)

-- ---- what the code keeps

-- this address is below the end of a run
abbrev pub is_below_end : Option Run → ℕ → Bool
is_below_end None a = false
is_below_end (Some run) a = nat_lt a (run.bytes.first + run.bytes.length)

-- these are the bytes of memory that were read, ascending
pub record AreRead (size : ℕ) (reads : ℕ → Option ℕ) (addresses : List ℕ) : Type 0 where
  pub ordered : IsSorted nat_cmp addresses
  pub within : (place : ℕ) → place < length addresses → slice_index addresses place < size
  pub each : (a byte : ℕ) → reads a ≡ Some byte → IsAmong a addresses

-- these are the lines in which bytes of memory were read, ascending
pub record AreLinesRead (image : LoadedImage) (reads : ℕ → Option ℕ) (lines : List ℕ) : Type 0 where
  pub ordered : IsSorted nat_cmp lines
  pub within : (place : ℕ) → place < length lines → slice_index lines place < line_count image
  pub each : (a byte : ℕ) → reads a ≡ Some byte → IsAmong (line_number image a) lines

-- the first load of the attempt that read a byte from outside, if the byte lies in the line
abbrev pub read_in : LoadedImage → List Entry → ℕ → ℕ → ℕ → ℕ → Option ℕ
read_in image entries core before line a = if line_number image a == line then first_read entries core before a else None

-- the earlier of two loads, the one that is known before the other, each with the byte that it read first
abbrev pub earlier : Option (ℕ × ℕ) → Option ℕ → ℕ → Option (ℕ × ℕ)
earlier known None a = known
earlier None (Some load) a = Some (load, a)
earlier (Some first) (Some load) a = if nat_lt load first.0 then Some (load, a) else Some first
