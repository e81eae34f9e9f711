-- What the arms of a turn start from, and how far the homefree core has come once it has published.
use Rattle.std.specs.Prelude.{◌≡◌, ◌≢◌, ℕ, ◌+◌, ◌<◌, ◌≤◌, Bool, true, false, List, [], ◌++◌, length, Option, Some, None, IsSome, vec_len, vec_capacity, if◌then◌else◌}
use Rattle.rv32_exec.specs.declared.stop.Stop.{Stop}
use Rattle.rv32_exec.specs.Arrival.{Arrival}
use Rattle.rv32_exec.specs.Hart.{HartState}
use Rattle.run_ledger.specs.declared.counts.Counts.{Counts}
use Rattle.spec_history.specs.declared.entry.Entry.{Entry}
use Rattle.spec_history.specs.declared.entry.What.TheVariants.{Publish}
use Rattle.violations.specs.declared.attempt.Attempt.{Attempt}
use Rattle.violations.specs.View.{StoreView, Runs}
use Rattle.violations.specs.Rule.{IsSameCore}
use Rattle.homefree.specs.declared.register.Register.{Register}
use Rattle.homefree.specs.declared.register.Running.{Running}
use Rattle.homefree.specs.Acted.{MayNote}
use Rattle.homefree.specs.AtStop.{IsAtStop}
use Rattle.homefree.specs.Hurts.{entry}
use Rattle.homefree.specs.Kept.{Fits, running_at}
use Rattle.homefree.specs.Noted.{epoch_in, hurts_noted}
use Rattle.homefree.specs.Steps.{Steps}
use Rattle.homefree.specs.Turned.{publishes_unless}

-- what a core runs with this attempt and this hart
abbrev pub running_by : Attempt → HartState → Running
running_by attempt hart = record { epoch = attempt.epoch; hart = hart; straight = attempt.straight; hurt = false }

-- the loop isn't over, and the core runs an epoch and isn't hurt
pub record RunsEpoch (r : Register) (v : StoreView) (core : ℕ) (now : Running) : Type 0 where
  pub there : core < length r.running.items
  pub fits : Fits r v
  pub going : r.end ≡ None
  pub runs : running_at r.running.items core ≡ Some now
  pub unhurt : now.hurt ≡ false

-- the loop isn't over, the core runs this or nothing, and a turn of it can be noted
pub record MayBeginEpoch (r : Register) (v : StoreView) (shares : Counts) (core : ℕ) (running : Option Running) : Type 0 where
  pub there : core < length r.running.items
  pub fits : Fits r v
  pub going : r.end ≡ None
  pub notes : MayNote r shares
  pub runs : running_at r.running.items core ≡ running

-- the core runs an epoch, and hands in its next event, which is this stop; what comes of it can be noted, in two calls of the store
pub record Arrives (r : Register) (v : StoreView) (budget : ℕ) (shares : Counts) (core : ℕ) (now : Running) (arrived : Arrival) (at : Stop) : Type 0 where
  pub running : RunsEpoch r v core now
  pub notes : MayNote r shares
  pub is_at : IsAtStop r core now arrived at
  pub budget_left : 2 ≤ budget

-- so does the homefree core
pub record HomefreeArrives (r : Register) (v : StoreView) (budget : ℕ) (shares : Counts) (core : ℕ) (now : Running) (arrived : Arrival) (at : Stop) : Type 0 where
  pub arrives : Arrives r v budget shares core now arrived at
  pub homefree : now.epoch ≡ r.homefree

-- the homefree core runs an epoch; its publish can be noted, in a call of the store
pub record MayGoStraight (r : Register) (v : StoreView) (budget : ℕ) (core : ℕ) (now : Running) : Type 0 where
  pub running : RunsEpoch r v core now
  pub homefree : now.epoch ≡ r.homefree
  pub room : vec_len r.history + length r.running.items ≤ vec_capacity r.history
  pub budget_left : 1 ≤ budget

-- the core runs, these others do too, and there is room for their entries and one more
pub record MayHurt (r : Register) (core : ℕ) (now : Running) (hurt : ℕ → Bool) : Type 0 where
  pub there : core < length r.running.items
  pub few : length r.running.items ≤ 16
  pub room : vec_len r.history + length r.running.items ≤ vec_capacity r.history
  pub runs : running_at r.running.items core ≡ Some now
  pub spared : hurt core ≡ false
  pub others : (k : ℕ) → hurt k ≡ true → IsSome (running_at r.running.items k)

-- the entries of a core that publishes unless it is straight
abbrev pub publish_noted : Register → ℕ → Running → (ℕ → Bool) → List Entry
publish_noted r core now hurt = if now.straight then [] else hurts_noted core hurt r.running.items (length r.running.items) ++ entry core Publish

-- the core has published, unless it was straight, and is straight
pub record WentStraight (old mid : Register) (v x : StoreView) (core : ℕ) (now after : Running) : Type 0 where
  pub hurt : ℕ → Bool
  pub publishes : publishes_unless now.straight v x core hurt
  pub shape : x.shape ≡ v.shape
  pub steps : (shares : Counts) → Steps old mid shares shares (publish_noted old core now hurt)
  pub epochs : (k : ℕ) → epoch_in mid.running.items k ≡ epoch_in old.running.items k
  pub running : RunsEpoch mid x core after
  pub after_is : after ≡ record now { straight = true }
  pub short : length (publish_noted old core now hurt) ≤ length old.running.items

-- the core has published, unless it was straight, with no entry of its own
pub record Settled (old mid : Register) (v x : StoreView) (core : ℕ) (now : Running) : Type 0 where
  pub hurt : ℕ → Bool
  pub publishes : publishes_unless now.straight v x core hurt
  pub steps : (shares : Counts) → Steps old mid shares shares (hurts_noted core hurt old.running.items (length old.running.items))
  pub runs : running_at mid.running.items core ≡ Some now
  pub short : length (hurts_noted core hurt old.running.items (length old.running.items)) < length old.running.items

-- ---- the attempts of the cores that an exit cancels

-- a core that runs an epoch and isn't hurt has an attempt in the store, which isn't straight; any other has none
abbrev pub HasAttemptUnless : Bool → StoreView → ℕ → Type 0
HasAttemptUnless true v k = v.attempt k ≡ None
HasAttemptUnless false v k = Runs v k false

abbrev pub HasAttempt : StoreView → ℕ → Option Running → Type 0
HasAttempt v k None = v.attempt k ≡ None
HasAttempt v k (Some now) = HasAttemptUnless now.hurt v k

-- the core has no attempt; memory and the other cores are as they were
pub record EndsAttempt (v w : StoreView) (core : ℕ) : Type 0 where
  pub shape : w.shape ≡ v.shape
  pub cached : w.cached ≡ v.cached
  pub committed : (a : ℕ) → w.committed a ≡ v.committed a
  pub none : w.attempt core ≡ None
  pub others : (k : ℕ) → k ≢ core → IsSameCore v w k
