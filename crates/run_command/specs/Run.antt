-- What `run` comes to, and what it wrote; and what a run on threads prints and why it stops, over any store.
-- Source: this project.
use Rattle.std.specs.Prelude.{◌≡◌, ℕ, ◌+◌, ◌<◌, ◌≤◌, ◌++◌, Bool, true, false, List, [], length, codes, Option, Some, None, MatchResult}
use Rattle.std.specs.Fmt.{decimal}
use Rattle.std.specs.Io.KnownBytes.{Appends, Keeps}
use Rattle.rv32_image.specs.Image.{LoadedImage}
use Rattle.rv32_image.specs.ImageText.{image_text}
use Rattle.rv32_image.specs.Version.{limits_of}
use Rattle.rv32_exec.specs.Sequential.{sequential_result}
use Rattle.run_ledger.specs.declared.counts.Counts.{Counts}
use Rattle.spec_history.specs.declared.entry.Entry.{Entry}
use Rattle.spec_history.specs.Conflict.{AreKnown}
use Rattle.spec_history.specs.FlatState.{FlatState}
use Rattle.spec_history.specs.Replay.{replay}
use Rattle.violations.specs.Rule.{IsCoreCount}
use Rattle.homefree.specs.declared.book.Loop.{Loop}
use Rattle.homefree.specs.Caused.{HasCauses}
use Rattle.homefree.specs.Counted.{counted_in}
use Rattle.homefree.specs.Ending.{NoneStartsAfterCancel}
use Rattle.homefree.specs.Missed.{PassesOverNone}
use Rattle.core_threads.specs.declared.fault.RunFault.{RunFault}
use Rattle.core_threads.specs.declared.fault.RunFault.TheVariants as fault
use Rattle.trace_text.specs.Laws.{AreEntries}
use Rattle.trace_text.specs.Printing.{printed_trace}
use Rattle.trace_commands.specs.declared.outcome.Outcome.{Outcome}
use Rattle.trace_commands.specs.declared.outcome.Outcome.TheVariants.{Reported, Usage, BadImage, Stopped}
use Rattle.trace_commands.specs.declared.outcome.CommandStop.{CommandStop}
use Rattle.trace_commands.specs.declared.outcome.CommandStop.TheVariants.{Write, NoMemory, HistoryFull, NoThread, Spent, Shut}
use Rattle.trace_commands.specs.Outcome.{Conclusion, AppendsPrefix, IsRefusal}
use Rattle.trace_commands.specs.Report.{report_of}
use Rattle.run_command.specs.declared.options.RunOptions.{RunOptions}

-- the loop that a run is asked for
abbrev pub loop_asked : LoadedImage → RunOptions → Loop
loop_asked image options = record { image = image; cores = options.cores; room = options.room }

-- ---- what is printed

abbrev pub counted : ℕ → List ℕ
counted n = codes " " ++ decimal n

-- loads, stores, restarts, commits
abbrev pub counts_line : Counts → List ℕ
counts_line c = codes "counts" ++ counted c.loads ++ counted c.stores ++ counted c.restarts ++ counted c.commits ++ codes "\n"

-- a history that turns over a store make: each violation has its cause and is of a kind, and no epoch starts once one has been
-- cancelled; where the store is one of caches, no entry passes over a later epoch that has read in a line which it writes, further
-- stores aside
pub record IsMade (OfCaches : Type 0) (l : Loop) (history : List Entry) : Type 0 where
  pub caused : HasCauses history
  pub known : AreKnown l.image l.cores history
  pub starts : NoneStartsAfterCancel history
  pub passes : OfCaches → PassesOverNone l.image l.cores history

-- a history of the loop that ends as the sequential loop does: it replays on the one-thread machine to that end; its entries are
-- within the room, and their numbers are of 32 bits
pub record IsWholeHistory (l : Loop) (history : List Entry) : Type 0 where
  pub within : length history ≤ l.room
  pub numbers : AreEntries history
  pub state : FlatState
  pub replays : replay l.image l.cores history ≡ Some state
  pub over : state.end ≡ Some (sequential_result l.image).end

-- below the report: nothing, or with a trace the counts and the text of a whole history that turns over the store make
abbrev pub IsBelow : Type 0 → Bool → Loop → List ℕ → Type 0
IsBelow OfCaches false l text = text ≡ []
IsBelow OfCaches true l text =
    (history : List Entry) × IsWholeHistory l history × IsMade OfCaches l history × (text ≡ counts_line (counted_in history) ++ printed_trace l.cores history)

-- all that a run of this loop prints, which is that of the image but for its machine: the report of the sequential loop, which `seq`
-- prints too, and what is below it
abbrev pub IsPrinted : Type 0 → LoadedImage → Loop → Bool → List ℕ → Type 0
IsPrinted OfCaches image l trace text = (below : List ℕ) × IsBelow OfCaches trace l below × (text ≡ report_of image (sequential_result image) ++ below)

-- ---- why a run stops

-- the cause that has the fault's name
abbrev pub cause_of : RunFault → CommandStop
cause_of fault.HistoryFull = HistoryFull
cause_of fault.NoMemory = NoMemory
cause_of fault.NoThread = NoThread
cause_of fault.Spent = Spent
cause_of fault.Shut = Shut

-- a history of the loop that isn't over, and has fewer free entries than a turn asks for
pub record IsFullHistory (OfCaches : Type 0) (l : Loop) (history : List Entry) : Type 0 where
  pub made : IsMade OfCaches l history
  pub within : length history ≤ l.room
  pub state : FlatState
  pub replays : replay l.image l.cores history ≡ Some state
  pub going : state.end ≡ None
  pub full : l.room < length history + (limits_of l.image.version).free_entries

-- a run may stop so before its loop is over
abbrev pub IsStop : Type 0 → Loop → CommandStop → Type 0
IsStop OfCaches l Write = ⊥
IsStop OfCaches l HistoryFull = (history : List Entry) × IsFullHistory OfCaches l history
IsStop OfCaches l other = Unit {0}

-- ---- outcomes

-- what running this loop of the image came to is right, and this was written
abbrev pub IsRun : Type 0 → LoadedImage → Loop → Bool → Option (List ℕ) → Option (List ℕ) → Outcome → Type 0
IsRun OfCaches image l trace old new (Reported end) =
    (end ≡ (sequential_result image).end) × (text : List ℕ) × IsPrinted OfCaches image l trace text × Appends old new text
IsRun OfCaches image l trace old new (Stopped Write) = (text : List ℕ) × IsPrinted OfCaches image l trace text × AppendsPrefix old new text
IsRun OfCaches image l trace old new (Stopped cause) = IsStop OfCaches l cause × Keeps old new
IsRun OfCaches image l trace old new other = ⊥

-- what came of a text is right: of its image, where it has one
abbrev pub IsOutcomeOf : (LoadedImage → Outcome → Type 0) → List ℕ → Option (List ℕ) → Option (List ℕ) → Outcome → Type 0
IsOutcomeOf IsRight text old new (BadImage fault) = IsRefusal fault.kind fault (image_text text) × Keeps old new
IsOutcomeOf IsRight text old new (Stopped NoMemory) = Keeps old new
IsOutcomeOf IsRight text old new outcome = MatchResult (image_text text) (λ image. IsRight image outcome) (λ fault. ⊥)

-- ---- `run`, whose store is one of caches: nothing is left to show of that

-- what `run` came to for an image, whose version may not allow so many cores
abbrev pub IsImageOutcome : RunOptions → Option (List ℕ) → Option (List ℕ) → LoadedImage → Outcome → Type 0
IsImageOutcome options old new image Usage = ((limits_of image.version).most_cores < options.cores) × Keeps old new
IsImageOutcome options old new image outcome = IsCoreCount image options.cores × IsRun (Unit {0}) image (loop_asked image options) options.trace old new outcome

-- what `run` came to is right for this input, and this was written
abbrev pub IsRunOutcome : RunOptions → List ℕ → Option (List ℕ) → Option (List ℕ) → Outcome → Type 0
IsRunOutcome options text old new outcome = IsOutcomeOf (IsImageOutcome options old new) text old new outcome

-- what `run` answers for an input
abbrev pub RunAnswers : RunOptions → List ℕ → Option (List ℕ) → Option (List ℕ) → Option (List ℕ) → Option (List ℕ) → ℕ → Type 0
RunAnswers options text old new errors errors' status = Conclusion (IsRunOutcome options text old new) errors errors' status
