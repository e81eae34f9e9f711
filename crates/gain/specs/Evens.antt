-- The lines `even`: up to which cost a loop gains.
-- Source: this project.
use Rattle.std.specs.Prelude.{◌≡◌, ℕ, ◌<◌, ◌≤◌, Bool, true, false, nat_lt, List, [], ◌∷◌, ◌++◌, codes, Option, Some, None}
use Rattle.rv32_image.specs.Image.{LoadedImage}
use Rattle.violations.specs.View.{StoreView, Waits}
use Rattle.violations.specs.Calls.{Call}
use Rattle.homefree.specs.declared.book.Loop.{Loop}
use Rattle.turn_costs.specs.declared.costs.Costs.{Costs}
use Rattle.turn_costs.specs.Costs.{bus_costs}
use Rattle.turn_costs.specs.Order.{IsOrder, kind_of}
use Rattle.turn_costs.specs.Prices.{Prices}
use Rattle.even_speed.specs.Even.{pacing}
use Rattle.even_speed.specs.Held.{loads_at}
use Rattle.all_schedules.specs.Made.{loop_on}
use Rattle.all_schedules.specs.Holding.{none_waits}
use Rattle.gain.specs.declared.gains.Study.{Study}
use Rattle.gain.specs.declared.measure.Measured.{Measured}
use Rattle.gain.specs.Measured.{IsMeasured}
use Rattle.gain.specs.Lines.{more_counts}
use Rattle.gain.specs.Text.{number}

-- how long a message holds the bus
abbrev pub hold_in : Option Costs → ℕ
hold_in (Some costs) = costs.hold
hold_in None = 0

-- each action costs so much
abbrev pub costs_at : Study → ℕ → Costs
costs_at study k = record (bus_costs k) { hold = hold_in study.costs }

-- the run took fewer steps than this
abbrev pub is_faster : Option Measured → ℕ → Bool
is_faster (Some m) order = nat_lt m.ran.steps order
is_faster None order = false

-- where turns cost this, the run at even speed takes fewer steps than the loop in order, or doesn't
pub record Compares {S : Type 0} (starts : LoadedImage → ℕ → S → Type 0) (calls : S → Call → S → Type 0) (view : S → StoreView) (waits : S → Waits) (prices : S → Prices) (keeps : S → Type 0) (addresses : List ℕ) (l : Loop) (costs : Costs) (gains : Bool) : Type 0 where
  pub measured : Option Measured
  pub is_measured : IsMeasured starts calls view waits keeps (pacing prices (loads_at addresses) (none_waits addresses) (Some costs)) l measured
  pub order : ℕ
  pub is_order : IsOrder starts (kind_of calls view prices) l.image costs order
  pub gains_is : gains ≡ is_faster measured order

-- the most that each action may cost, up to 60 steps, for the loop to gain: none, where it gains at no such cost
abbrev pub IsEvenAt : {S : Type 0} → (LoadedImage → ℕ → S → Type 0) → (S → Call → S → Type 0) → (S → StoreView) → (S → Waits) → (S → Prices) → (S → Type 0) → List ℕ → Study → Loop → Option ℕ → Type 0
IsEvenAt starts makes view waits prices keeps addresses study l (Some k) = (k ≤ 60) × Compares starts makes view waits prices keeps addresses l (costs_at study k) true
    × ((j : ℕ) → k < j → j ≤ 60 → Compares starts makes view waits prices keeps addresses l (costs_at study j) false)
IsEvenAt starts makes view waits prices keeps addresses study l None = (j : ℕ) → j ≤ 60 → Compares starts makes view waits prices keeps addresses l (costs_at study j) false

abbrev pub at_text : Option ℕ → List ℕ
at_text (Some k) = number (codes " at ") k
at_text None = codes " at -"

unfoldable pub even_line : List ℕ → ℕ → Option ℕ → List ℕ
even_line store cores at = codes "even " ++ store ++ number (codes " cores ") cores ++ at_text at ++ codes "\n"

-- to a text, the line of so many cores
abbrev pub AddEven : {S : Type 0} → (LoadedImage → ℕ → S → Type 0) → (S → Call → S → Type 0) → (S → StoreView) → (S → Waits) → (S → Prices) → (S → Type 0) → List ℕ → Study → LoadedImage → List ℕ → ℕ → List ℕ → List ℕ → Type 0
AddEven starts makes view waits prices keeps addresses study image store cores old new =
    (at : Option ℕ) × IsEvenAt starts makes view waits prices keeps addresses study (loop_on image cores study.room) at × (new ≡ old ++ even_line store cores at)

-- so for each number of cores
abbrev pub AddEvenEach : {S : Type 0} → (LoadedImage → ℕ → S → Type 0) → (S → Call → S → Type 0) → (S → StoreView) → (S → Waits) → (S → Prices) → (S → Type 0) → List ℕ → Study → LoadedImage → List ℕ → List ℕ → List ℕ → List ℕ → Type 0
AddEvenEach starts makes view waits prices keeps addresses study image store [] old new = new ≡ old
AddEvenEach starts makes view waits prices keeps addresses study image store (cores ∷ rest) old new =
    (mid : List ℕ) × AddEven starts makes view waits prices keeps addresses study image store cores old mid
    × AddEvenEach starts makes view waits prices keeps addresses study image store rest mid new

-- for one core, and for more up to those that are asked for
abbrev pub AddEvens : {S : Type 0} → (LoadedImage → ℕ → S → Type 0) → (S → Call → S → Type 0) → (S → StoreView) → (S → Waits) → (S → Prices) → (S → Type 0) → List ℕ → Study → LoadedImage → List ℕ → List ℕ → List ℕ → Type 0
AddEvens starts makes view waits prices keeps addresses study image store old new =
    AddEvenEach starts makes view waits prices keeps addresses study image store (1 ∷ more_counts study.cores) old new
