-- What is kept of the clocks along a run.
use Rattle.std.specs.Prelude.{◌≡◌, ℕ, ◌+◌, ◌*◌, ◌^◌, ◌<◌, ◌≤◌, ◌==◌, ◌&&◌, ◌||◌, nat_le, nat_lt, not, Bool, true, false, List, length, Option, Some, None, Result, Ok, Err, if◌then◌else◌}
use Rattle.std.specs.List.{slice_index_or}
use Rattle.rv32_image.specs.Image.{LoadedImage}
use Rattle.rv32_exec.specs.Arrival.{Arrival}
use Rattle.homefree.specs.declared.answer.Answer.{Answer}
use Rattle.homefree.specs.declared.answer.Answer.TheVariants.{Go, Again, Left, Over, Stopped}
use Rattle.homefree.specs.declared.answer.Cause.TheVariants.{NoEpoch, NotHomefree, NoWay, OrbFull, OrbBusy}
use Rattle.homefree.specs.declared.fault.TurnFault.{TurnFault}
use Rattle.homefree.specs.Held.{HaveArrived}
use Rattle.even_speed.specs.declared.clock.Clock.{Clock}
use Rattle.even_speed.specs.declared.clock.Next.{Next}
use Rattle.even_speed.specs.declared.clock.Next.TheVariants.{Due, Waits, Gone}
use Rattle.even_speed.specs.declared.clocks.Turn.{Turn}
use Rattle.even_speed.specs.declared.pricing.Free.{Free}
use Rattle.even_speed.specs.declared.pricing.Price.{Price}
use Rattle.even_speed.specs.Account.{WastesNone, steps_of, total}
use Rattle.even_speed.specs.Clocks.{IsFirst, clock_at, due_of}
use Rattle.even_speed.specs.Pricing.{IsLow, later}

-- the time up to which all its steps are told
abbrev pub told : Clock → ℕ
told c = c.since + c.waited

-- and what its attempt has spent behind that
abbrev pub used : Clock → ℕ
used c = told c + total c.spent

-- nothing is used of the time after it is due, or since when it waits, which is this time or sooner
abbrev pub IsSoundNext : ℕ → ℕ → Next → Type 0
IsSoundNext now used (Due at) = used ≤ at
IsSoundNext now used (Waits since cause) = (since ≤ now) × (used ≤ since)
IsSoundNext now used Gone = Unit {0}

-- at the time of the last turn, where no commit goes on for longer than that
pub record IsSound (now last : ℕ) (c : Clock) : Type 0 where
  pub whole : steps_of c.account ≡ told c
  pub so_far : told c ≤ last + 1
  pub next : IsSoundNext now (used c) c.next

-- up to then the last turn or commit goes on
abbrev pub last_in : Free → ℕ
last_in free = later free.order free.began

-- it may be woken at this time
abbrev pub IsWaitBefore : ℕ → Next → Type 0
IsWaitBefore at (Due due) = Unit {0}
IsWaitBefore at (Waits since cause) = since ≤ at
IsWaitBefore at Gone = Unit {0}

pub record MayWake (at : ℕ) (c : Clock) : Type 0 where
  pub whole : steps_of c.account ≡ told c
  pub few : told c < 2 ^ 62
  pub before : IsWaitBefore at c.next

-- a turn of it may begin at this time: what it has used lies before, and its account has all that is told
pub record MayTurn (at : ℕ) (c : Clock) : Type 0 where
  pub before : used c ≤ at
  pub whole : steps_of c.account ≡ told c
  pub soon : at < 2 ^ 61

-- a turn of it that was due at this time may begin at that one
pub record MayBeLate (due at : ℕ) (c : Clock) : Type 0 where
  pub before : used c ≤ due
  pub whole : steps_of c.account ≡ told c
  pub later_on : due ≤ at
  pub soon : at < 2 ^ 61

-- from this time on it may run another attempt, or have no epoch
pub record MayPart (at : ℕ) (c : Clock) : Type 0 where
  pub so_far : told c ≤ at
  pub whole : steps_of c.account ≡ told c
  pub soon : at < 2 ^ 62

-- the clocks are these now, of as many cores
pub record AreClocks (old new : List Clock) (clocks : ℕ → Clock) : Type 0 where
  pub len : length new ≡ length old
  pub each : (k : ℕ) → clock_at new k ≡ clocks k

-- of so many cores, the turn of this one may be priced: what each has in hand is where `advance` came to
pub record MayPrice (image : LoadedImage) (cores : ℕ) (hands : List (Option Arrival)) (core : ℕ) : Type 0 where
  pub there : core < cores
  pub few : cores ≤ 16
  pub came : HaveArrived image hands

-- where it is due, it is due at this time or sooner
abbrev pub IsDueBy : ℕ → Next → Type 0
IsDueBy bound (Due at) = at ≤ bound
IsDueBy bound (Waits since cause) = since ≤ bound
IsDueBy bound Gone = Unit {0}

-- the most steps that a turn takes
abbrev pub most_steps : ℕ
most_steps = 70000003

-- after so many turns the clocks of so many cores are sound at the time of the last one, and due by the steps that turns take at the most
pub record AreSound (taken cores : ℕ) (free : Free) (clocks : List Clock) : Type 0 where
  pub count : length clocks ≡ cores
  pub few : cores ≤ 16
  pub each : (k : ℕ) → k < cores → IsSound free.began (last_in free) (clock_at clocks k)
  pub due : (k : ℕ) → k < cores → IsDueBy (taken * most_steps) (clock_at clocks k).next
  pub soon : free.began ≤ taken * most_steps
  pub bus : free.bus ≤ taken * most_steps
  pub order : free.order ≤ taken * most_steps

-- is the core held, by this list?
abbrev pub is_held_in : List Bool → ℕ → Bool
is_held_in held k = slice_index_or held k false

-- none is due, or this one is the first, and costs no more than a turn can
abbrev pub IsNext : Free → (ℕ → Price) → (ℕ → Option ℕ) → ℕ → Option Turn → Type 0
IsNext free prices dues n (Some t) = IsFirst free prices dues n t × IsLow t.price
IsNext free prices dues n None = (k : ℕ) → k < n → dues k ≡ None

-- it begins before that time, or then and was due no later than at this one
abbrev pub is_no_later : Turn → ℕ → ℕ → Bool
is_no_later t at due = nat_lt t.at at || ((t.at == at) && nat_le t.due due)

-- the one found so far, or this one, where that isn't later
abbrev pub sooner : Option Turn → Turn → Turn
sooner (Some old) t = if is_no_later old t.at t.due then old else t
sooner None t = t

abbrev pub may_begin_sooner : Option Turn → Free → ℕ → Bool
may_begin_sooner (Some old) free due = not (is_no_later old (later free.began due) due)
may_begin_sooner None free due = true

-- of so many cores, the turn of one that is due as it begins
pub record IsTurnOf (clocks : ℕ → Clock) (n : ℕ) (t : Turn) : Type 0 where
  pub core : t.core < n
  pub due : due_of (clocks t.core).next ≡ Some t.at

-- it doesn't wait for another core
abbrev pub NeverWaits : Result Answer TurnFault → Type 0
NeverWaits (Ok (Go hart)) = Unit {0}
NeverWaits (Ok (Again NoEpoch)) = Unit {0}
NeverWaits (Ok (Again NotHomefree)) = ⊥
NeverWaits (Ok (Again NoWay)) = ⊥
NeverWaits (Ok (Again OrbFull)) = ⊥
NeverWaits (Ok (Again OrbBusy)) = ⊥
NeverWaits (Ok Left) = Unit {0}
NeverWaits (Ok (Over end)) = Unit {0}
NeverWaits (Ok (Stopped cause)) = Unit {0}
NeverWaits (Err fault) = Unit {0}

-- it is due after the last turn
abbrev pub NeverWaitsAt : ℕ → Next → Type 0
NeverWaitsAt now (Due at) = now ≤ at
NeverWaitsAt now (Waits since cause) = ⊥
NeverWaitsAt now Gone = Unit {0}

-- the clock of the one core that there is, at the time of the last turn, where it is held by none or may be
pub record IsAloneClock (IsUnheld : Type 0) (now : ℕ) (c : Clock) : Type 0 where
  pub account : WastesNone c.account
  pub held : IsUnheld → c.account.held ≡ 0
  pub next : NeverWaitsAt now c.next
