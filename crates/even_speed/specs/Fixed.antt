-- That a run at even speed is fixed by the book that it begins with, what its store holds included.
-- Source: this project.
use Rattle.std.specs.Prelude.{◌≡◌, ◌≢◌, ℕ, Bool, List, Option, None, Result, Ok, Err}
use Rattle.violations.specs.View.{StoreView, Waits}
use Rattle.violations.specs.Calls.{Call}
use Rattle.homefree.specs.declared.fault.TurnFault.{TurnFault}
use Rattle.homefree.specs.declared.fault.TurnFault.TheVariants.{NoMemory}
use Rattle.homefree.specs.Driven.{Driver}
use Rattle.turn_costs.specs.declared.costs.Costs.{Costs}
use Rattle.turn_costs.specs.Prices.{Prices}
use Rattle.homefree.specs.DriveFixed.{AreTwinDrivers}
use Rattle.even_speed.specs.declared.run.Ran.{Ran}
use Rattle.even_speed.specs.Even.{Evenly, Pace, pricing_of}
use Rattle.even_speed.specs.Held.{Holding}

-- the run came to the end of its loop, or its history was full
pub record IsDone (result : Result (Option Ran) TurnFault) : Type 0 where
  pub ended : result ≢ Ok None
  pub fed : result ≢ Err NoMemory

-- what comes of two runs
pub record IsOneRun {S : Type 0} (alike : S → S → Type 0) (schedule schedule' : List ℕ) (result result' : Result (Option Ran) TurnFault) (new new' : Driver S) : Type 0 where
  pub schedule_is : schedule' ≡ schedule
  pub result_is : result' ≡ result
  pub twins : AreTwinDrivers alike new new'

-- from two books with the same history, whose stores hold the same, paced alike, the cores are due in the same order, and the runs come
-- to the same and lead to two such books
abbrev pub RunIsFixed : {S : Type 0} → (S → Call → S → Type 0) → (S → S → Type 0) → (S → StoreView) → (S → Waits) → (S → Prices) → (S → Type 0) → Type 0
RunIsFixed {S} makes alike view waits prices keeps =
    (holds : Holding) (queues : Bool) (costs : Option Costs) (p : Pace) (old new old' new' : Driver S) (schedule schedule' : List ℕ) (result result' : Result (Option Ran) TurnFault)
    → AreTwinDrivers alike old old' → Evenly makes view waits keeps (record { holds = holds; queues = queues; pricing = pricing_of prices costs }) p old schedule result new
    → Evenly makes view waits keeps (record { holds = holds; queues = queues; pricing = pricing_of prices costs }) p old' schedule' result' new'
    → IsDone result → IsDone result' → IsOneRun alike schedule schedule' result result' new new'
