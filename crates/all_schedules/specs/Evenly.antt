-- What the run at even speed makes.
-- Source: this project.
use Rattle.std.specs.Prelude.{◌≡◌, ℕ, List, Option, Some, Result, Ok, Err}
use Rattle.rv32_image.specs.Image.{LoadedImage}
use Rattle.rv32_exec.specs.Sequential.{sequential_result}
use Rattle.run_ledger.specs.Counts.{no_counts}
use Rattle.spec_history.specs.declared.entry.Entry.{Entry}
use Rattle.violations.specs.View.{StoreView, Waits}
use Rattle.violations.specs.Calls.{Call}
use Rattle.homefree.specs.declared.book.Loop.{Loop}
use Rattle.homefree.specs.declared.fault.TurnFault.{TurnFault}
use Rattle.homefree.specs.declared.fault.TurnFault.TheVariants.{HistoryFull, NoMemory}
use Rattle.homefree.specs.BookView.{BookView}
use Rattle.homefree.specs.Driven.{driver}
use Rattle.homefree.specs.LockView.{loop_of}
use Rattle.even_speed.specs.declared.run.Ran.{Ran}
use Rattle.even_speed.specs.Even.{AccountsFor, Evenly, IfRan, IsShort, IsWhole, Pacing, at_first, end_in}
use Rattle.all_schedules.specs.Made.{Makes}

-- the schedule makes this history, and is that of the run at even speed, so paced: each step of each core is counted once, on one core none is
-- lost, dropped or waited, the busy ones of a loop that is done are its instructions in order, and the end is that of the sequential loop
pub record MakesEvenly {S : Type 0} (starts : LoadedImage → ℕ → S → Type 0) (calls : S → Call → S → Type 0) (view : S → StoreView) (waits : S → Waits) (keeps : S → Type 0) (paced : Pacing S) (l : Loop) (schedule : List ℕ) (result : Result (Option Ran) TurnFault) (history : List Entry) : Type 0 where
  pub makes : Makes starts calls view waits l schedule (end_in result) history
  pub evenly : Evenly calls view waits keeps paced at_first (driver makes.first no_counts) schedule result makes.last
  pub whole : IfRan result (IsWhole l.cores)
  pub short : IfRan result IsShort
  pub accounts : IfRan result (AccountsFor paced makes.first)
  pub end_is : IfRan result (λ ran. ran.end ≡ (sequential_result l.image).end)

-- the run may end in this fault
abbrev pub IsEvenFault : {S : Type 0} → (LoadedImage → ℕ → S → Type 0) → (S → Call → S → Type 0) → (S → StoreView) → (S → Waits) → (S → Type 0) → Pacing S → Loop → TurnFault → Type 0
IsEvenFault starts makes view waits keeps paced l HistoryFull = (schedule : List ℕ) × (history : List Entry) × MakesEvenly starts makes view waits keeps paced l schedule (Err HistoryFull) history
IsEvenFault starts makes view waits keeps paced l NoMemory = Unit {0}

-- the book has the history that the run makes, up to the end of its loop
pub record IsEvenRun {S : Type 0} (starts : LoadedImage → ℕ → S → Type 0) (calls : S → Call → S → Type 0) (view : S → StoreView) (waits : S → Waits) (keeps : S → Type 0) (paced : Pacing S) (l : Loop) (schedule : List ℕ) (ran : Ran) (b : BookView S) : Type 0 where
  pub loop : loop_of b ≡ l
  pub makes : MakesEvenly starts calls view waits keeps paced l schedule (Ok (Some ran)) b.history
