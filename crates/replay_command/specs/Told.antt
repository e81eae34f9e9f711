-- What is printed above what the turns of a schedule made.
-- Source: this project.
use Rattle.std.specs.Prelude.{◌≡◌, ◌⊎◌, ℕ, Bool, List, [], ◌++◌, take, codes, Option, None}
use Rattle.std.specs.Io.KnownBytes.{Appends, Keeps}
use Rattle.rv32_image.specs.Image.{LoadedImage}
use Rattle.rv32_exec.specs.declared.sequential.End.{End}
use Rattle.run_ledger.specs.Counts.{no_counts}
use Rattle.spec_history.specs.declared.entry.Entry.{Entry}
use Rattle.violations.specs.View.{StoreView, Waits}
use Rattle.violations.specs.Calls.{Call}
use Rattle.homefree.specs.declared.book.Loop.{Loop}
use Rattle.homefree.specs.BookView.{BookView}
use Rattle.homefree.specs.Driven.{Driver, driver}
use Rattle.trace_commands.specs.declared.outcome.Outcome.{Outcome}
use Rattle.trace_commands.specs.declared.outcome.Outcome.TheVariants.{Reported, Open, Stopped}
use Rattle.trace_commands.specs.declared.outcome.CommandStop.TheVariants.{Write, NoMemory}
use Rattle.trace_commands.specs.Outcome.{AppendsPrefix}
use Rattle.turn_steps.specs.Stepped.{Stepped}
use Rattle.turn_steps.specs.Writing.{AppendsFirst, IsWrittenBut}
use Rattle.replay_command.specs.declared.detail.Detail.{Detail}
use Rattle.replay_command.specs.declared.detail.Detail.TheVariants.{Whole, Steps}
use Rattle.homefree.specs.Retraced.{IsNew}
use Rattle.replay_command.specs.Shown.{IsShown}

-- the schedule's turns, one for each of its cores, in order, make this history, and the text tells each of them
pub record Tells {S : Type 0} (starts : LoadedImage → ℕ → S → Type 0) (makes : S → Call → S → Type 0) (view : S → StoreView) (waits : S → Waits) (changes : ℕ → S → S → List ℕ) (l : Loop) (schedule : List ℕ) (history : List Entry)
    (text : List ℕ) : Type 0 where
  pub first : BookView S
  pub last : Driver S
  pub end : Option End
  pub is_new : IsNew starts view l first
  pub stepped : Stepped makes view waits changes 0 (λ _. None) (driver first no_counts) schedule end last text
  pub history_is : last.book.history ≡ history

-- none, or each turn and a line `end`
abbrev pub IsHead : {S : Type 0} → (LoadedImage → ℕ → S → Type 0) → (S → Call → S → Type 0) → (S → StoreView) → (S → Waits) → (ℕ → S → S → List ℕ) → Detail → Loop → List ℕ → List Entry → List ℕ → Type 0
IsHead starts makes view waits changes Whole l schedule history head = head ≡ []
IsHead starts makes view waits changes Steps l schedule history head =
    (steps : List ℕ) × Tells starts makes view waits changes l schedule history steps × (head ≡ steps ++ codes "end\n")

-- ---- what was written of it

-- it tells the first turns of the schedule, and some of the first of it was written
abbrev pub HasBegun : (Loop → List ℕ → List Entry → List ℕ → Type 0) → Loop → List ℕ → Option (List ℕ) → Option (List ℕ) → Type 0
HasBegun heads l schedule old new = (n : ℕ) × (history : List Entry) × (head : List ℕ) × heads l (take n schedule) history head × AppendsFirst old new head

-- a command came to this, and this was written: what is printed, or some of the first of it; or, where nothing is to be printed, nothing; or, where
-- memory ran out, nothing or what was begun
abbrev pub Comes : (Outcome → List ℕ → Type 0) → (Outcome → Type 0) → Type 0 → Option (List ℕ) → Option (List ℕ) → Outcome → Type 0
Comes printed unprinted begun old new (Reported end) = (text : List ℕ) × printed (Reported end) text × Appends old new text
Comes printed unprinted begun old new (Open homefree) = (text : List ℕ) × printed (Open homefree) text × Appends old new text
Comes printed unprinted begun old new (Stopped Write) = (outcome : Outcome) × (text : List ℕ) × printed outcome text × AppendsPrefix old new text
Comes printed unprinted begun old new (Stopped NoMemory) = Keeps old new ⊎ begun
Comes printed unprinted begun old new outcome = unprinted outcome × Keeps old new

-- where the turns stop: nothing was written, or what was begun
abbrev pub Leaves : (Loop → List ℕ → List Entry → List ℕ → Type 0) → Loop → List ℕ → Option (List ℕ) → Option (List ℕ) → Type 0
Leaves heads l schedule old new = Keeps old new ⊎ HasBegun heads l schedule old new

-- the head of this history was written but for this rest, or, after a failed write, some of the first of it
abbrev pub IsToldOf : (Loop → List ℕ → List Entry → List ℕ → Type 0) → Loop → List ℕ → List Entry → List ℕ → Bool → Option (List ℕ) → Option (List ℕ) → Type 0
IsToldOf heads l schedule history rest whole old new = (head : List ℕ) × heads l schedule history head × IsWrittenBut rest whole old new head

-- the history is shown below this head
abbrev pub IsBelow : LoadedImage → ℕ → List Entry → List ℕ → Outcome → List ℕ → Type 0
IsBelow image cores history head outcome text = (below : List ℕ) × IsShown image cores history outcome below × (text ≡ head ++ below)

abbrev pub IsShownBelow : LoadedImage → ℕ → List Entry → List ℕ → Option (List ℕ) → Option (List ℕ) → Outcome → Type 0
IsShownBelow image cores history head old new outcome =
    Comes (IsBelow image cores history head) (λ o. ⊥) (AppendsFirst old new head) old new outcome

-- what the schedule's turns made, which is this history, is shown below such a head
abbrev pub IsShownMade : (Loop → List ℕ → List Entry → List ℕ → Type 0) → Loop → List ℕ → List Entry → Option (List ℕ) → Option (List ℕ) → Outcome → Type 0
IsShownMade heads l schedule history old new outcome =
    Comes (λ o text. (head : List ℕ) × heads l schedule history head × IsBelow l.image l.cores history head o text) (λ o. ⊥) (HasBegun heads l schedule old new) old new outcome
