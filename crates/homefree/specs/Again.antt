-- Why a core has to come again.
use Rattle.std.specs.Prelude.{◌≡◌, ℕ, ◌<◌, ◌≤◌, false, Some, None, Result, Ok, Err}
use Rattle.rv32_exec.specs.declared.stop.Stop.{Stop}
use Rattle.rv32_exec.specs.NextEvent.{next_event}
use Rattle.spec_history.specs.FlatState.{CoreState, FlatState}
use Rattle.homefree.specs.declared.answer.Answer.{Answer}
use Rattle.homefree.specs.declared.answer.Answer.TheVariants.{Go, Again, Left, Over, Stopped}
use Rattle.homefree.specs.declared.answer.Cause.{Cause}
use Rattle.homefree.specs.declared.answer.Cause.TheVariants.{NoEpoch, NotHomefree, NoWay, OrbFull, OrbBusy}
use Rattle.homefree.specs.declared.fault.TurnFault.{TurnFault}
use Rattle.violations.specs.declared.step.WaitCause.{WaitCause}
use Rattle.violations.specs.declared.step.WaitCause.TheVariants as wait
use Rattle.homefree.specs.Turned.{Turn, wait_at, IsEnd}

-- the core is idle, and no epoch is left
pub record HasNoEpoch (t : Turn) : Type 0 where
  pub idle : t.state.cores t.core ≡ None
  pub left : t.image.epochs ≤ t.state.next_epoch

-- the core runs an epoch that is later than the homefree one, and is at such a stop
pub record IsLaterAt (t : Turn) (IsSuch : Stop → Type 0) : Type 0 where
  pub core : CoreState
  pub runs : t.state.cores t.core ≡ Some core
  pub unhurt : core.hurt ≡ false
  pub later : t.state.homefree < core.epoch
  pub event : IsSuch (next_event t.image core.hart).at

-- it is at an access at which the store waits, for this cause
abbrev pub IsWaitFor : Turn → WaitCause → Type 0
IsWaitFor t cause = IsLaterAt t (λ at. wait_at t.waits t.core at ≡ Some cause)

-- the cause is true: at an access it is the store's
abbrev pub IsWhy : Turn → Cause → Type 0
IsWhy t NoEpoch = HasNoEpoch t
IsWhy t NotHomefree = IsLaterAt t IsEnd
IsWhy t NoWay = IsWaitFor t wait.NoWay
IsWhy t OrbFull = IsWaitFor t wait.OrbFull
IsWhy t OrbBusy = IsWaitFor t wait.OrbBusy

-- the core runs the homefree epoch
pub record RunsHomefree (s : FlatState) (core : ℕ) : Type 0 where
  pub running : CoreState
  pub runs : s.cores core ≡ Some running
  pub is_homefree : running.epoch ≡ s.homefree

abbrev pub IfAgain : Result Answer TurnFault → (Cause → Type 0) → Type 0
IfAgain (Ok (Again cause)) P = P cause
IfAgain (Ok (Go hart)) P = Unit {0}
IfAgain (Ok Left) P = Unit {0}
IfAgain (Ok (Over end)) P = Unit {0}
IfAgain (Ok (Stopped cause)) P = Unit {0}
IfAgain (Err fault) P = Unit {0}
