-- What is measured of a run.
-- Source: this project.
use Rattle.std.specs.Prelude.{◌≡◌, ℕ, ◌<◌, ◌^◌, List, Option, Some, None, Ok}
use Rattle.rv32_image.specs.Image.{LoadedImage}
use Rattle.spec_history.specs.declared.entry.Entry.{Entry}
use Rattle.violations.specs.View.{StoreView, Waits}
use Rattle.violations.specs.Calls.{Call}
use Rattle.homefree.specs.declared.book.Loop.{Loop}
use Rattle.homefree.specs.declared.fault.TurnFault.TheVariants.{HistoryFull}
use Rattle.homefree.specs.Counted.{counted_in}
use Rattle.even_speed.specs.Account.{steps_of}
use Rattle.even_speed.specs.Even.{IsShort, Pacing}
use Rattle.turn_costs.specs.declared.costs.Costs.{Costs}
use Rattle.turn_costs.specs.Order.{IsOrder, Kind}
use Rattle.all_schedules.specs.Evenly.{IsEvenFault, MakesEvenly}
use Rattle.gain.specs.declared.measure.Measured.{Measured}
use Rattle.gain.specs.Kinds.{AreKinds}

-- of a run at even speed, so paced, up to the end of its loop: how long it took and where the steps went, and the restarts and violations of its history
pub record IsOf {S : Type 0} (starts : LoadedImage → ℕ → S → Type 0) (calls : S → Call → S → Type 0) (view : S → StoreView) (waits : S → Waits) (keeps : S → Type 0) (paced : Pacing S) (l : Loop) (m : Measured) : Type 0 where
  pub schedule : List ℕ
  pub history : List Entry
  pub makes : MakesEvenly starts calls view waits keeps paced l schedule (Ok (Some m.ran)) history
  pub restarts : m.restarts ≡ (counted_in history).restarts
  pub kinds : AreKinds l.image l.cores history m.kinds

-- the run ended before: its history was full
abbrev pub IsUnfinished : {S : Type 0} → (LoadedImage → ℕ → S → Type 0) → (S → Call → S → Type 0) → (S → StoreView) → (S → Waits) → (S → Type 0) → Pacing S → Loop → Type 0
IsUnfinished starts makes view waits keeps paced l = IsEvenFault starts makes view waits keeps paced l HistoryFull

abbrev pub IsMeasured : {S : Type 0} → (LoadedImage → ℕ → S → Type 0) → (S → Call → S → Type 0) → (S → StoreView) → (S → Waits) → (S → Type 0) → Pacing S → Loop → Option Measured → Type 0
IsMeasured starts makes view waits keeps paced l (Some m) = IsOf starts makes view waits keeps paced l m
IsMeasured starts makes view waits keeps paced l None = IsUnfinished starts makes view waits keeps paced l

-- so few that their sums are numbers of 64 bits
abbrev pub HasFewSteps : Measured → Type 0
HasFewSteps m = IsShort m.ran × (steps_of m.ran.account < 2 ^ 63)

-- where turns cost something, so many steps are those of the loop in order on one core that doesn't speculate
abbrev pub IsOrderOf : {S : Type 0} → (LoadedImage → ℕ → S → Type 0) → Kind S → LoadedImage → Option Costs → Option ℕ → Type 0
IsOrderOf starts kind image (Some costs) (Some steps) = IsOrder starts kind image costs steps
IsOrderOf starts kind image (Some costs) None = ⊥
IsOrderOf starts kind image None order = order ≡ None
