-- How many steps the loop takes in order, on one core that doesn't speculate, over a store of its own: one for each instruction, and what each
-- access costs in the state before it. What it costs to handle epochs isn't counted.
-- Source: this project.
use Rattle.std.specs.Prelude.{◌≡◌, ℕ, zero, suc, ◌+◌, ◌<◌, Bool, true, false, not, [], ◌∷◌, Option, Some, None, Result, Ok, Err}
use Rattle.memory_bytes.specs.Bytes.{number_at}
use Rattle.rv32_image.specs.Image.{LoadedImage}
use Rattle.rv32_exec.specs.declared.stop.Stop.{Stop}
use Rattle.rv32_exec.specs.declared.stop.Stop.TheVariants as stop
use Rattle.rv32_exec.specs.Arrival.{after_number}
use Rattle.rv32_exec.specs.Hart.{HartState, start_of, stepped}
use Rattle.rv32_exec.specs.NextEvent.{next_event}
use Rattle.rv32_exec.specs.Sequential.{exits}
use Rattle.violations.specs.Calls.{Call, Reserve, Begin, Publish, StraightLoad, StraightStore, Leave, Leads}
use Rattle.violations.specs.View.{StoreView}
use Rattle.rv32_image.specs.declared.image.NoMemory.{NoMemory}
use Rattle.turn_costs.specs.declared.costs.Costs.{Costs}
use Rattle.turn_costs.specs.declared.order.Gone.{Gone}
use Rattle.turn_costs.specs.Actions.{memory_steps}
use Rattle.turn_costs.specs.Prices.{Prices}
use Rattle.turn_costs.specs.Turns.{access_at}

-- of a kind of store, what the run hangs on: what calls make of a store, what it shows, what calls cost
pub record Kind (S : Type 0) : Type 1 where
  pub makes : S → Call → S → Type 0
  pub view : S → StoreView
  pub prices : S → Prices

abbrev pub kind_of : {S : Type 0} → (S → Call → S → Type 0) → (S → StoreView) → (S → Prices) → Kind S
kind_of makes view prices = record { makes = makes; view = view; prices = prices }

-- the access at this stop, by core 0, makes this of the store; an end or a fault has none
abbrev pub MakesAccess : {S : Type 0} → Kind S → Stop → S → S → Type 0
MakesAccess kind (stop.Load address width signed rd) s t = kind.makes s (StraightLoad 0 address width) t
MakesAccess kind (stop.Store address width value) s t = kind.makes s (StraightStore 0 address width value) t
MakesAccess kind stop.Ended s t = ⊥
MakesAccess kind (stop.Fault cause pc) s t = ⊥

-- the hart after it: a load gives what is committed
abbrev pub after_access : HartState → Stop → StoreView → HartState
after_access now (stop.Load address width signed rd) v = after_number now (stop.Load address width signed rd) (number_at v.committed address width)
after_access now (stop.Store address width value) v = stepped now
after_access now stop.Ended v = now
after_access now (stop.Fault cause pc) v = now

-- it is an end or a fault
abbrev pub IsLast : Stop → Type 0
IsLast (stop.Load address width signed rd) = ⊥
IsLast (stop.Store address width value) = ⊥
IsLast stop.Ended = Unit {0}
IsLast (stop.Fault cause pc) = Unit {0}

-- the hart g makes its access over the store r, which first makes room for the call. That costs so many steps, and leads to h and s
pub record Goes {S : Type 0} (kind : Kind S) (image : LoadedImage) (costs : Costs) (g : HartState) (r : S) (steps : ℕ) (h : HartState) (s : S) : Type 0 where
  pub reserved : S
  pub reserves : kind.makes r Reserve reserved
  pub makes : MakesAccess kind (next_event image g).at reserved s
  pub hart : h ≡ after_access (next_event image g).now (next_event image g).at (kind.view reserved)
  pub steps_are : steps ≡ memory_steps costs (access_at (kind.prices reserved) true 0 (next_event image g).at)

-- so many accesses lead from the one hart and store to the other, and cost so many steps
abbrev pub GoesThrough : {S : Type 0} → Kind S → LoadedImage → Costs → HartState → S → ℕ → ℕ → HartState → S → Type 0
GoesThrough kind image costs g r zero steps h s = (h ≡ g) × (s ≡ r) × (steps ≡ 0)
GoesThrough {S} kind image costs g r (suc n) steps h s = (i : HartState) × (q : S) × (before one : ℕ)
    × GoesThrough kind image costs g r n before i q × Goes kind image costs i q one h s × (steps ≡ before + one)

-- the loop goes on after an epoch that comes to this: it has ended, and doesn't exit
abbrev pub goes_on : LoadedImage → HartState → Stop → Bool
goes_on image now (stop.Load address width signed rd) = false
goes_on image now (stop.Store address width value) = false
goes_on image now stop.Ended = not (exits image now)
goes_on image now (stop.Fault cause pc) = false

-- an epoch, on core 0 of the store s, which is straight from its beginning on, to its end or fault over the store t; the loop goes on
-- after it or doesn't
pub record RunsEpoch {S : Type 0} (kind : Kind S) (image : LoadedImage) (costs : Costs) (epoch : ℕ) (s : S) (steps : ℕ) (on : Bool) (t : S) : Type 0 where
  pub begun : S
  pub begins : Leads kind.makes (Reserve ∷ Begin 0 epoch ∷ Publish 0 ∷ []) s begun
  pub accesses : ℕ
  pub memory : ℕ
  pub hart : HartState
  pub goes : GoesThrough kind image costs (start_of image epoch) begun accesses memory hart t
  pub ends : IsLast (next_event image hart).at
  pub steps_are : steps ≡ (next_event image hart).now.done + memory
  pub on_is : on ≡ goes_on image (next_event image hart).now (next_event image hart).at

-- the first n epochs, each of which the loop goes on after; core 0 leaves each
abbrev pub RunsEpochs : {S : Type 0} → Kind S → LoadedImage → Costs → S → ℕ → ℕ → S → Type 0
RunsEpochs kind image costs r zero steps s = (s ≡ r) × (steps ≡ 0)
RunsEpochs {S} kind image costs r (suc n) steps s = (q p : S) × (before one : ℕ)
    × RunsEpochs kind image costs r n before q × RunsEpoch kind image costs n q one true p
    × Leads kind.makes (Reserve ∷ Leave 0 ∷ []) p s × (steps ≡ before + one)

-- after the first n epochs the loop is done, or the next one stops it
pub data IsLastOf {S : Type 0} (kind : Kind S) (image : LoadedImage) (costs : Costs) (n : ℕ) (s : S) (steps : ℕ) : Type 0 where
  done : n ≡ image.epochs → steps ≡ 0 → IsLastOf kind image costs n s steps
  stopped : n < image.epochs → (t : S) → RunsEpoch kind image costs n s steps false t → IsLastOf kind image costs n s steps

-- the loop over a store that is made for one core
pub record IsOrder {S : Type 0} (starts : LoadedImage → ℕ → S → Type 0) (kind : Kind S) (image : LoadedImage) (costs : Costs) (steps : ℕ) : Type 0 where
  pub fresh : S
  pub is_fresh : starts image 1 fresh
  pub epochs : ℕ
  pub before : ℕ
  pub store : S
  pub runs : RunsEpochs kind image costs fresh epochs before store
  pub rest : ℕ
  pub last : IsLastOf kind image costs epochs store rest
  pub steps_are : steps ≡ before + rest

-- where an access was made, this of where it led to
abbrev pub IfGone : Result (Option Gone) NoMemory → (Gone → Type 0) → Type 0
IfGone (Ok (Some gone)) P = P gone
IfGone (Ok None) P = Unit {0}
IfGone (Err refused) P = Unit {0}
