-- What a speculative access answers.
use Rattle.std.specs.Prelude.{◌≡◌, ◌<◌, ◌^◌, ◌&&◌, ℕ, Bool, false, if◌then◌else◌, Option, Some, None}
use Rattle.memory_bytes.specs.Bytes.{number_at}
use Rattle.spec_states.specs.declared.next.Next.{Next}
use Rattle.violations.specs.declared.step.Step.{Step}
use Rattle.violations.specs.declared.step.Step.TheVariants.{Done, Wait}
use Rattle.violations.specs.declared.step.WaitCause.{WaitCause}
use Rattle.violations.specs.declared.step.WaitCause.TheVariants.{OrbFull, OrbBusy}
use Rattle.violations.specs.CoreSet.{is_in}
use Rattle.orb.specs.Lines.{is_full}
use Rattle.bus_states.specs.declared.notice.Notice.TheVariants.{Store}
use Rattle.bus_states.specs.Messages.{Room, message_of, violates, is_busy}
use Rattle.bus_states.specs.Bus.{Bus, sees}
use Rattle.bus_states.specs.Speculative.{after_load, load_wait, load_violates, store_next, after_claim, after_store, store_wait, store_violates}

-- where it was done, this holds of the value and of the cores that were violated; where it waits, that of the cause
abbrev pub MatchAnswer : Step → (ℕ → (ℕ → Bool) → Type 0) → (WaitCause → Type 0) → Type 0
MatchAnswer (Done value hurt) done waits = done value (is_in hurt)
MatchAnswer (Wait cause) done waits = waits cause

-- a load that is answered: it doesn't wait, the bus is as it makes it, the value is what the core sees, and it violates these
pub record IsLoaded (old new : Bus) (core addr offset width : ℕ) (room : Option Room) (value : ℕ) (hurt : ℕ → Bool) : Type 0 where
  pub goes_on : load_wait old core addr room ≡ None
  pub bus : new ≡ after_load old core addr offset width room
  pub value_is : value ≡ number_at (sees old core addr) offset width
  pub small : value < 256 ^ width
  pub violates : (k : ℕ) → hurt k ≡ load_violates old core addr k

-- the core may take hold of the line of its store: what becomes of its copy, and whom the message violates
pub record MayTake (bus : Bus) (core addr offset width : ℕ) (next : Next) (hurt : ℕ → Bool) : Type 0 where
  pub next_is : next ≡ store_next bus core addr offset width
  pub has_room : (next.enters && is_full (bus.core core).buffer) ≡ false
  pub free : is_busy bus (message_of bus Store core addr) ≡ false
  pub violates : (k : ℕ) → hurt k ≡ violates bus (message_of bus Store core addr) k

-- the last two causes of a wait of a store
abbrev pub full_or_busy : Bus → ℕ → ℕ → ℕ → ℕ → Option WaitCause
full_or_busy bus core addr offset width =
    if (store_next bus core addr offset width).enters && is_full (bus.core core).buffer then Some OrbFull
    else if is_busy bus (message_of bus Store core addr) then Some OrbBusy
    else None

-- the core has taken hold of the line of its store
pub record IsTaken (old new : Bus) (core addr offset width : ℕ) (room : Option Room) (hurt : ℕ → Bool) : Type 0 where
  pub goes_on : store_wait old core addr offset width room ≡ None
  pub bus : new ≡ after_claim old core addr offset width room
  pub violates : (k : ℕ) → hurt k ≡ store_violates old core addr k

-- a store that is answered
pub record IsStored (old new : Bus) (core addr offset width value : ℕ) (room : Option Room) (hurt : ℕ → Bool) : Type 0 where
  pub goes_on : store_wait old core addr offset width room ≡ None
  pub bus : new ≡ after_store old core addr offset width value room
  pub violates : (k : ℕ) → hurt k ≡ store_violates old core addr k
