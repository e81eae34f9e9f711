-- That what a schedule makes is fixed by the loop, the schedule and the store's rules.
-- Source: this project.
use Rattle.std.specs.Prelude.{◌≡◌, ◌≢◌, ℕ, Bool, List, Option, Result, Err}
use Rattle.rv32_image.specs.Image.{LoadedImage}
use Rattle.rv32_exec.specs.declared.sequential.End.{End}
use Rattle.spec_history.specs.declared.entry.Entry.{Entry}
use Rattle.violations.specs.View.{StoreView, Waits}
use Rattle.violations.specs.Calls.{Call}
use Rattle.homefree.specs.declared.book.Loop.{Loop}
use Rattle.homefree.specs.declared.fault.TurnFault.{TurnFault}
use Rattle.homefree.specs.declared.fault.TurnFault.TheVariants.{NoMemory}
use Rattle.homefree.specs.Driven.{Driver}
use Rattle.homefree.specs.DriveFixed.{AreTwinDrivers}
use Rattle.even_speed.specs.declared.run.Ran.{Ran}
use Rattle.even_speed.specs.Fixed.{IsDone}
use Rattle.even_speed.specs.Even.{pacing}
use Rattle.even_speed.specs.Held.{Holding}
use Rattle.turn_costs.specs.declared.costs.Costs.{Costs}
use Rattle.turn_costs.specs.Prices.{Prices}
use Rattle.all_schedules.specs.Drawn.{MakesDrawn}
use Rattle.all_schedules.specs.Evenly.{MakesEvenly}
use Rattle.all_schedules.specs.Made.{Makes}

-- two runs come to the same and make the same history, and their stores hold the same at the end
pub record IsOneHistory {S : Type 0} (alike : S → S → Type 0) (result result' : Result (Option End) TurnFault) (history history' : List Entry) (last last' : Driver S) : Type 0 where
  pub result_is : result' ≡ result
  pub history_is : history' ≡ history
  pub twins : AreTwinDrivers alike last last'

-- so do the turns of a schedule each time, unless memory runs out
abbrev pub HistoryIsFixed : {S : Type 0} → (LoadedImage → ℕ → S → Type 0) → (S → Call → S → Type 0) → (S → S → Type 0) → (S → StoreView) → (S → Waits) → Type 0
HistoryIsFixed starts makes alike view waits =
    (l : Loop) (schedule : List ℕ) (result result' : Result (Option End) TurnFault) (history history' : List Entry) → result ≢ Err NoMemory → result' ≢ Err NoMemory
    → (one : Makes starts makes view waits l schedule result history) → (two : Makes starts makes view waits l schedule result' history')
    → IsOneHistory alike result result' history history' one.last two.last

-- ---- runs whose schedules aren't given

-- two runs come to the same, take the same turns and make the same history
pub record IsOneRun {A : Type 0} (result result' : Result (Option A) TurnFault) (schedule schedule' : List ℕ) (history history' : List Entry) : Type 0 where
  pub result_is : result' ≡ result
  pub schedule_is : schedule' ≡ schedule
  pub history_is : history' ≡ history

-- so do the runs at even speed each time, where they aren't stopped
abbrev pub EvenHistoryIsFixed : {S : Type 0} → (LoadedImage → ℕ → S → Type 0) → (S → Call → S → Type 0) → (S → StoreView) → (S → Waits) → (S → Prices) → (S → Type 0) → Type 0
EvenHistoryIsFixed starts makes view waits prices keeps =
    (holding : Holding) (queues : Bool) (costs : Option Costs) (l : Loop) (schedule schedule' : List ℕ) (result result' : Result (Option Ran) TurnFault) (history history' : List Entry) → IsDone result → IsDone result'
    → MakesEvenly starts makes view waits keeps (pacing prices holding queues costs) l schedule result history
    → MakesEvenly starts makes view waits keeps (pacing prices holding queues costs) l schedule' result' history'
    → IsOneRun result result' schedule schedule' history history'

-- and the runs that a seed draws, unless memory runs out
abbrev pub DrawnHistoryIsFixed : {S : Type 0} → (LoadedImage → ℕ → S → Type 0) → (S → Call → S → Type 0) → (S → StoreView) → (S → Waits) → Type 0
DrawnHistoryIsFixed starts makes view waits =
    (l : Loop) (seed : ℕ) (schedule schedule' : List ℕ) (result result' : Result (Option End) TurnFault) (history history' : List Entry) → result ≢ Err NoMemory → result' ≢ Err NoMemory
    → MakesDrawn starts makes view waits l seed schedule result history → MakesDrawn starts makes view waits l seed schedule' result' history'
    → IsOneRun result result' schedule schedule' history history'
