-- What the replay of a trace comes to: the schedule that the trace shows, driven again.
-- Source: this project.
use Rattle.std.specs.Prelude.{◌≡◌, ◌⊎◌, ℕ, Bool, true, false, not, nat_lt, ◌==◌, List, ◌++◌, length, Option, Some, None, Ok}
use Rattle.rv32_image.specs.Image.{LoadedImage}
use Rattle.rv32_exec.specs.declared.sequential.End.{End}
use Rattle.spec_history.specs.declared.entry.Entry.{Entry}
use Rattle.violations.specs.View.{StoreView, Waits}
use Rattle.violations.specs.Calls.{Call}
use Rattle.homefree.specs.declared.book.Loop.{Loop}
use Rattle.homefree.specs.Retraced.{turns_of}
use Rattle.trace_text.specs.TraceText.{image_part}
use Rattle.trace_commands.specs.declared.outcome.Outcome.{Outcome}
use Rattle.trace_commands.specs.declared.outcome.Outcome.TheVariants.{Differs, Stopped, Usage}
use Rattle.trace_commands.specs.declared.outcome.CommandStop.TheVariants.{NoMemory, HistoryFull}
use Rattle.trace_commands.specs.Audit.{IsNoVerdict, IsTracedBy}
use Rattle.replay_command.specs.declared.settings.Settings.{Settings}
use Rattle.replay_command.specs.Settings.{RunsWith, loop_with}
use Rattle.all_schedules.specs.Made.{IsFull, Makes}
use Rattle.all_schedules.specs.MadeAgain.{PartAt, Parts}
use Rattle.replay_command.specs.Shown.{IsShown}
use Rattle.replay_command.specs.Told.{Comes, HasBegun}

-- ---- the replay of a trace

-- nothing is shown of a history: it parts from the entries, or memory ran out
abbrev pub IsNotSame : List Entry → List Entry → Outcome → Type 0
IsNotSame made given (Differs place) = PartAt made given place
IsNotSame made given (Stopped NoMemory) = Unit {0}
IsNotSame made given outcome = ⊥

-- the turns make the entries again, and the text shows them, below such a head
pub record IsRetraced {S : Type 0} (starts : LoadedImage → ℕ → S → Type 0) (calls : S → Call → S → Type 0) (view : S → StoreView) (waits : S → Waits) (heads : Loop → List ℕ → List Entry → List ℕ → Type 0) (l : Loop) (entries : List Entry) (outcome : Outcome)
    (text : List ℕ) : Type 0 where
  pub result : Option End
  pub makes : Makes starts calls view waits l (turns_of l.cores entries) (Ok result) entries
  pub head : List ℕ
  pub is_head : heads l (turns_of l.cores entries) entries head
  pub below : List ℕ
  pub shown : IsShown l.image l.cores entries outcome below
  pub text_is : text ≡ head ++ below

-- or nothing is shown: they make a history that parts from the entries, or they stop
abbrev pub IsNotRetraced : {S : Type 0} → (LoadedImage → ℕ → S → Type 0) → (S → Call → S → Type 0) → (S → StoreView) → (S → Waits) → Loop → List Entry → Outcome → Type 0
IsNotRetraced starts makes view waits l entries (Differs place) = Parts starts makes view waits l entries place
IsNotRetraced starts makes view waits l entries (Stopped HistoryFull) = IsFull starts makes view waits l (turns_of l.cores entries)
IsNotRetraced starts makes view waits l entries (Stopped NoMemory) = Unit {0}
IsNotRetraced starts makes view waits l entries outcome = ⊥

-- what the turns of a trace came to is right, and this was written
abbrev pub IsTraceOutcome : {S : Type 0} → (LoadedImage → ℕ → S → Type 0) → (S → Call → S → Type 0) → (S → StoreView) → (S → Waits) → (Loop → List ℕ → List Entry → List ℕ → Type 0) → Loop → List Entry → Option (List ℕ) → Option (List ℕ) → Outcome → Type 0
IsTraceOutcome starts makes view waits heads l entries old new outcome =
    Comes (IsRetraced starts makes view waits heads l entries) (IsNotRetraced starts makes view waits l entries) (HasBegun heads l (turns_of l.cores entries) old new) old new outcome

-- ---- of a text

-- a line begins a trace: it ends the image
abbrev pub has_trace : List ℕ → Bool
has_trace text = nat_lt (length (image_part text)) (length text)

-- so many cores are said, and the trace has another number of them
abbrev pub is_other : Option ℕ → ℕ → Bool
is_other (Some cores) number = not (cores == number)
is_other None number = false

-- of the image and the trace that a text says, where no other number of cores is said and the machine can run it
pub record OfTrace (cores : Option ℕ) (settings : Settings) (text : List ℕ) (P : Loop → List Entry → Type 0) : Type 0 where
  pub image : LoadedImage
  pub number : ℕ
  pub entries : List Entry
  pub traced : IsTracedBy text image number entries
  pub same : is_other cores number ≡ false
  pub runs : RunsWith image number settings
  pub holds : P (loop_with image number settings) entries

-- where another is
pub record IsOfOther (cores : Option ℕ) (text : List ℕ) : Type 0 where
  pub image : LoadedImage
  pub number : ℕ
  pub entries : List Entry
  pub traced : IsTracedBy text image number entries
  pub other : is_other cores number ≡ true

-- where the machine that is asked for can't run it
pub record IsOfNoMachine (settings : Settings) (text : List ℕ) : Type 0 where
  pub image : LoadedImage
  pub number : ℕ
  pub entries : List Entry
  pub traced : IsTracedBy text image number entries
  pub cannot : RunsWith image number settings → ⊥

-- nothing is printed, since the image, the trace, the number of cores or the machine is refused, or the trace isn't made again
abbrev pub IsNoRetrace : {S : Type 0} → (LoadedImage → ℕ → S → Type 0) → (S → Call → S → Type 0) → (S → StoreView) → (S → Waits) → Option ℕ → Settings → List ℕ → Outcome → Type 0
IsNoRetrace starts makes view waits cores settings text Usage = IsOfOther cores text ⊎ IsOfNoMachine settings text
IsNoRetrace starts makes view waits cores settings text (Differs place) = OfTrace cores settings text (λ l entries. Parts starts makes view waits l entries place)
IsNoRetrace starts makes view waits cores settings text (Stopped HistoryFull) = OfTrace cores settings text (λ l entries. IsFull starts makes view waits l (turns_of l.cores entries))
IsNoRetrace starts makes view waits cores settings text outcome = IsNoVerdict text outcome

-- what the replay of a text's trace comes to is right, and this was written
abbrev pub IsRetraceOutcome : {S : Type 0} → (LoadedImage → ℕ → S → Type 0) → (S → Call → S → Type 0) → (S → StoreView) → (S → Waits) → (Loop → List ℕ → List Entry → List ℕ → Type 0) → Option ℕ → Settings → List ℕ → Option (List ℕ) → Option (List ℕ) → Outcome → Type 0
IsRetraceOutcome starts makes view waits heads cores settings text old new outcome =
    Comes (λ o printed. OfTrace cores settings text (λ l entries. IsRetraced starts makes view waits heads l entries o printed)) (IsNoRetrace starts makes view waits cores settings text)
    (OfTrace cores settings text (λ l entries. HasBegun heads l (turns_of l.cores entries) old new)) old new outcome
