-- What a schedule makes.
-- Source: this project.
use Rattle.std.specs.Prelude.{◌≡◌, ℕ, ◌≤◌, List, length, Option, None, Result, Ok, Err}
use Rattle.rv32_image.specs.Image.{LoadedImage}
use Rattle.rv32_exec.specs.declared.sequential.End.{End}
use Rattle.run_ledger.specs.Counts.{no_counts}
use Rattle.spec_history.specs.declared.entry.Entry.{Entry}
use Rattle.violations.specs.View.{StoreView, Waits}
use Rattle.violations.specs.Calls.{Call}
use Rattle.homefree.specs.declared.book.Loop.{Loop}
use Rattle.homefree.specs.declared.fault.TurnFault.{TurnFault}
use Rattle.homefree.specs.declared.fault.TurnFault.TheVariants.{HistoryFull, NoMemory}
use Rattle.homefree.specs.BookView.{BookView}
use Rattle.homefree.specs.Caused.{HasCauses, HasKinds}
use Rattle.homefree.specs.Driven.{Driven, Driver, driver}
use Rattle.homefree.specs.Ending.{NoneStartsAfterCancel}
use Rattle.homefree.specs.LockView.{loop_of}
use Rattle.homefree.specs.Missed.{PassesOverNone, IsOfCaches}
use Rattle.homefree.specs.Retraced.{IsNew}
use Rattle.all_schedules.specs.declared.loop_on.LoopOn.{LoopOn}

abbrev pub loop_on : LoadedImage → ℕ → ℕ → Loop
loop_on image cores room = record { image = image; cores = cores; room = room }

-- the loop that is given
abbrev pub the_loop : LoopOn → Loop
the_loop on = loop_on on.image.now on.cores on.room

-- a history that turns over a store make: each violation has its cause and is of a kind, no epoch starts once one has been cancelled, over
-- caches no entry passes over a later epoch that has read in a line which it writes, further stores aside, and the entries are within the room
pub record IsOfTurns {S : Type 0} (view : S → StoreView) (l : Loop) (history : List Entry) : Type 0 where
  pub caused : HasCauses history
  pub kinds : HasKinds l.image l.cores history
  pub starts : NoneStartsAfterCancel history
  pub passes : IsOfCaches view → PassesOverNone l.image l.cores history
  pub within : length history ≤ l.room

-- the schedule's turns, one for each of its cores, in order, make this history and come to this: an access waits where the store
-- makes it wait, and for the cause that the store has
pub record Makes {S : Type 0} (starts : LoadedImage → ℕ → S → Type 0) (makes : S → Call → S → Type 0) (view : S → StoreView) (waits : S → Waits) (l : Loop) (schedule : List ℕ) (result : Result (Option End) TurnFault) (history : List Entry) : Type 0 where
  pub first : BookView S
  pub last : Driver S
  pub is_new : IsNew starts view l first
  pub driven : Driven makes view waits (λ _. None) (driver first no_counts) schedule result last
  pub history_is : last.book.history ≡ history
  pub of_turns : IsOfTurns view l history

-- a turn of the schedule finds too few free entries
abbrev pub IsFull : {S : Type 0} → (LoadedImage → ℕ → S → Type 0) → (S → Call → S → Type 0) → (S → StoreView) → (S → Waits) → Loop → List ℕ → Type 0
IsFull starts makes view waits l schedule = (history : List Entry) × Makes starts makes view waits l schedule (Err HistoryFull) history

-- the turns may end in this fault
abbrev pub IsFault : {S : Type 0} → (LoadedImage → ℕ → S → Type 0) → (S → Call → S → Type 0) → (S → StoreView) → (S → Waits) → Loop → List ℕ → TurnFault → Type 0
IsFault starts makes view waits l schedule HistoryFull = IsFull starts makes view waits l schedule
IsFault starts makes view waits l schedule NoMemory = Unit {0}

-- the book has the history that the schedule makes
pub record IsMade {S : Type 0} (starts : LoadedImage → ℕ → S → Type 0) (calls : S → Call → S → Type 0) (view : S → StoreView) (waits : S → Waits) (l : Loop) (schedule : List ℕ) (b : BookView S) : Type 0 where
  pub loop : loop_of b ≡ l
  pub result : Option End
  pub makes : Makes starts calls view waits l schedule (Ok result) b.history

-- the schedule's turns make a history
abbrev pub AreMade : {S : Type 0} → (LoadedImage → ℕ → S → Type 0) → (S → Call → S → Type 0) → (S → StoreView) → (S → Waits) → Loop → List ℕ → Type 0
AreMade starts makes view waits l schedule = (end : Option End) × (history : List Entry) × Makes starts makes view waits l schedule (Ok end) history
