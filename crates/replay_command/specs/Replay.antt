-- What the replay of a schedule or of a trace comes to, and what it wrote.
-- Source: this project.
use Rattle.std.specs.Prelude.{◌≡◌, ◌⊎◌, ℕ, ◌<◌, ◌≤◌, Bool, true, false, List, ◌++◌, length, Option, Some, None, Ok, Err, MatchResult}
use Rattle.rv32_image.specs.ImageText.{image_text}
use Rattle.rv32_image.specs.Image.{LoadedImage}
use Rattle.rv32_exec.specs.declared.sequential.End.{End}
use Rattle.spec_history.specs.declared.entry.Entry.{Entry}
use Rattle.violations.specs.View.{StoreView, Waits}
use Rattle.violations.specs.Calls.{Call}
use Rattle.homefree.specs.declared.book.Loop.{Loop}
use Rattle.homefree.specs.declared.fault.TurnFault.{TurnFault}
use Rattle.homefree.specs.declared.fault.TurnFault.TheVariants as fault
use Rattle.trace_text.specs.declared.fault.TraceFault.{TraceFault}
use Rattle.trace_text.specs.declared.fault.TraceFaultKind.{TraceFaultKind}
use Rattle.trace_text.specs.declared.fault.TraceFaultKind.TheVariants as kind
use Rattle.trace_text.specs.TraceText.{longest_trace_text}
use Rattle.trace_commands.specs.declared.outcome.Outcome.{Outcome}
use Rattle.trace_commands.specs.declared.outcome.Outcome.TheVariants.{Usage, BadImage, BadTurns, Stopped}
use Rattle.trace_commands.specs.declared.outcome.CommandStop.{CommandStop}
use Rattle.trace_commands.specs.declared.outcome.CommandStop.TheVariants.{NoMemory, HistoryFull}
use Rattle.replay_command.specs.declared.settings.Settings.{Settings}
use Rattle.replay_command.specs.Settings.{RunsWith, loop_with}
use Rattle.all_schedules.specs.Made.{IsFull, Makes}
use Rattle.replay_command.specs.Shown.{IsShown}
use Rattle.replay_command.specs.Told.{Comes, HasBegun}
use Rattle.homefree.specs.Retraced.{turns_of}
use Rattle.replay_command.specs.Traced.{IsNoRetrace, IsRetraced, OfTrace, has_trace}
use Rattle.replay_command.specs.Turns.{image_part, schedule_text}

-- ---- of a schedule

-- the text shows the history that the schedule makes, below such a head
pub record IsReplay {S : Type 0} (starts : LoadedImage → ℕ → S → Type 0) (calls : S → Call → S → Type 0) (view : S → StoreView) (waits : S → Waits) (heads : Loop → List ℕ → List Entry → List ℕ → Type 0) (l : Loop) (schedule : List ℕ) (outcome : Outcome)
    (text : List ℕ) : Type 0 where
  pub result : Option End
  pub history : List Entry
  pub makes : Makes starts calls view waits l schedule (Ok result) history
  pub head : List ℕ
  pub is_head : heads l schedule history head
  pub below : List ℕ
  pub shown : IsShown l.image l.cores history outcome below
  pub text_is : text ≡ head ++ below

-- the cause of a turn's fault
abbrev pub cause_of : TurnFault → CommandStop
cause_of fault.HistoryFull = HistoryFull
cause_of fault.NoMemory = NoMemory

-- turns may stop so
abbrev pub IsStop : {S : Type 0} → (LoadedImage → ℕ → S → Type 0) → (S → Call → S → Type 0) → (S → StoreView) → (S → Waits) → Loop → List ℕ → CommandStop → Type 0
IsStop starts makes view waits l schedule HistoryFull = IsFull starts makes view waits l schedule
IsStop starts makes view waits l schedule NoMemory = Unit {0}
IsStop starts makes view waits l schedule other = ⊥

-- nothing is printed of them
abbrev pub IsFullOutcome : {S : Type 0} → (LoadedImage → ℕ → S → Type 0) → (S → Call → S → Type 0) → (S → StoreView) → (S → Waits) → Loop → List ℕ → Outcome → Type 0
IsFullOutcome starts makes view waits l schedule (Stopped HistoryFull) = IsFull starts makes view waits l schedule
IsFullOutcome starts makes view waits l schedule outcome = ⊥

-- what the turns came to is right, and this was written
abbrev pub IsTurnsOutcome : {S : Type 0} → (LoadedImage → ℕ → S → Type 0) → (S → Call → S → Type 0) → (S → StoreView) → (S → Waits) → (Loop → List ℕ → List Entry → List ℕ → Type 0) → Loop → List ℕ → Option (List ℕ) → Option (List ℕ) → Outcome → Type 0
IsTurnsOutcome starts makes view waits heads l schedule old new outcome =
    Comes (IsReplay starts makes view waits heads l schedule) (IsFullOutcome starts makes view waits l schedule) (HasBegun heads l schedule old new) old new outcome

-- ---- lines of turns

-- of the image and the schedule that a text says for so many cores, on which the machine can run it
abbrev pub OfText : ℕ → Settings → List ℕ → (Loop → List ℕ → Type 0) → Type 0
OfText cores settings text P =
    MatchResult (image_text (image_part text))
    (λ image. RunsWith image cores settings × MatchResult (schedule_text cores text) (P (loop_with image cores settings)) (λ fault. ⊥))
    (λ fault. ⊥)

-- nothing is printed, since the image, the machine, the number of cores or the lines of turns are refused, the history is full or memory ran out
abbrev pub IsNoReplay : {S : Type 0} → (LoadedImage → ℕ → S → Type 0) → (S → Call → S → Type 0) → (S → StoreView) → (S → Waits) → ℕ → Settings → List ℕ → Outcome → Type 0
IsNoReplay starts makes view waits cores settings text Usage =
    MatchResult (image_text (image_part text)) (λ image. RunsWith image cores settings → ⊥) (λ fault. ⊥)
IsNoReplay starts makes view waits cores settings text (BadImage fault) = (image_text (image_part text) ≡ Err fault) × (length text ≤ longest_trace_text)
IsNoReplay starts makes view waits cores settings text (BadTurns fault) =
    MatchResult (image_text (image_part text)) (λ image. RunsWith image cores settings × (schedule_text cores text ≡ Err fault)) (λ fault. ⊥)
IsNoReplay starts makes view waits cores settings text (Stopped HistoryFull) = OfText cores settings text (IsFull starts makes view waits)
IsNoReplay starts makes view waits cores settings text (Stopped NoMemory) = Unit {0}
IsNoReplay starts makes view waits cores settings text outcome = ⊥

-- what the replay of a text's lines of turns comes to is right, and this was written
abbrev pub IsLinesOutcome : {S : Type 0} → (LoadedImage → ℕ → S → Type 0) → (S → Call → S → Type 0) → (S → StoreView) → (S → Waits) → (Loop → List ℕ → List Entry → List ℕ → Type 0) → ℕ → Settings → List ℕ → Option (List ℕ) → Option (List ℕ) → Outcome → Type 0
IsLinesOutcome starts makes view waits heads cores settings text old new outcome =
    Comes (λ o printed. OfText cores settings text (λ l schedule. IsReplay starts makes view waits heads l schedule o printed)) (IsNoReplay starts makes view waits cores settings text)
    (OfText cores settings text (λ l schedule. HasBegun heads l schedule old new)) old new outcome

-- ---- the whole input: a trace, or lines of turns for so many cores

-- this is printed
abbrev pub IsPrinted : {S : Type 0} → (LoadedImage → ℕ → S → Type 0) → (S → Call → S → Type 0) → (S → StoreView) → (S → Waits) → (Loop → List ℕ → List Entry → List ℕ → Type 0) → Bool → Option ℕ → Settings → List ℕ → Outcome → List ℕ → Type 0
IsPrinted starts makes view waits heads true cores settings text outcome printed = OfTrace cores settings text (λ l entries. IsRetraced starts makes view waits heads l entries outcome printed)
IsPrinted starts makes view waits heads false (Some cores) settings text outcome printed = OfText cores settings text (λ l schedule. IsReplay starts makes view waits heads l schedule outcome printed)
IsPrinted starts makes view waits heads false None settings text outcome printed = ⊥

-- nothing is
abbrev pub IsUnprinted : {S : Type 0} → (LoadedImage → ℕ → S → Type 0) → (S → Call → S → Type 0) → (S → StoreView) → (S → Waits) → Bool → Option ℕ → Settings → List ℕ → Outcome → Type 0
IsUnprinted starts makes view waits true cores settings text outcome = IsNoRetrace starts makes view waits cores settings text outcome
IsUnprinted starts makes view waits false (Some cores) settings text outcome = IsNoReplay starts makes view waits cores settings text outcome
IsUnprinted starts makes view waits false None settings text Usage = Unit {0}
IsUnprinted starts makes view waits false None settings text outcome = ⊥

-- the input is too long, or a read failed
abbrev pub IsUnread : TraceFaultKind → TraceFault → List ℕ → Type 0
IsUnread kind.TooLong fault text = (fault.line ≡ 0) × (longest_trace_text < length text)
IsUnread kind.Read fault text = fault.line ≡ 0
IsUnread kind fault text = ⊥

abbrev pub IsUnreadOutcome : List ℕ → Outcome → Type 0
IsUnreadOutcome text (BadTurns fault) = IsUnread fault.kind fault text
IsUnreadOutcome text outcome = ⊥

-- the first turns have been told
abbrev pub HasBegunOn : (Loop → List ℕ → List Entry → List ℕ → Type 0) → Bool → Option ℕ → Settings → List ℕ → Option (List ℕ) → Option (List ℕ) → Type 0
HasBegunOn heads true cores settings text old new = OfTrace cores settings text (λ l entries. HasBegun heads l (turns_of l.cores entries) old new)
HasBegunOn heads false (Some cores) settings text old new = OfText cores settings text (λ l schedule. HasBegun heads l schedule old new)
HasBegunOn heads false None settings text old new = ⊥

-- what `replay` came to over this store is right for this input, and this was written, with such a head
abbrev pub IsReplayOutcome : {S : Type 0} → (LoadedImage → ℕ → S → Type 0) → (S → Call → S → Type 0) → (S → StoreView) → (S → Waits) → (Loop → List ℕ → List Entry → List ℕ → Type 0) → Option ℕ → Settings → List ℕ → Option (List ℕ) → Option (List ℕ) → Outcome → Type 0
IsReplayOutcome starts makes view waits heads cores settings text old new outcome =
    Comes (λ o printed. IsPrinted starts makes view waits heads (has_trace text) cores settings text o printed)
    (λ o. IsUnreadOutcome text o ⊎ IsUnprinted starts makes view waits (has_trace text) cores settings text o)
    (HasBegunOn heads (has_trace text) cores settings text old new) old new outcome
