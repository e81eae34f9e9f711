-- The clock of a core: when its next turn is due, and where its steps went.
-- Source: this project, after the limit study of Oplinger, Heine and Lam, "In Search of Speculative Thread-Level Parallelism", PACT 1999: each
-- instruction takes one step, and so do a begin, a restart and a commit. What a turn costs comes on top.
use Rattle.std.specs.Prelude.{◌≡◌, ℕ, zero, suc, ◌+◌, ◌-◌, ◌<◌, ◌≤◌, ◌==◌, Bool, true, false, List, Option, Some, None, if◌then◌else◌}
use Rattle.std.specs.List.{slice_index_or}
use Rattle.homefree.specs.declared.answer.Answer.{Answer}
use Rattle.homefree.specs.declared.answer.Answer.TheVariants.{Go, Again, Left, Over, Stopped}
use Rattle.homefree.specs.declared.answer.Cause.{Cause}
use Rattle.homefree.specs.declared.answer.Cause.TheVariants.{NoEpoch, NotHomefree, NoWay, OrbFull, OrbBusy}
use Rattle.even_speed.specs.declared.account.Account.{Account}
use Rattle.even_speed.specs.declared.account.Spent.{Spent}
use Rattle.even_speed.specs.declared.clock.Clock.{Clock}
use Rattle.even_speed.specs.declared.clock.Next.{Next}
use Rattle.even_speed.specs.declared.clock.Next.TheVariants.{Due, Waits, Gone}
use Rattle.even_speed.specs.declared.clocks.Turn.{Turn}
use Rattle.even_speed.specs.declared.pricing.Free.{Free}
use Rattle.even_speed.specs.declared.pricing.Price.{Price}
use Rattle.even_speed.specs.Account.{both, no_steps, nothing_spent, one_more, sum_of, total, with_waited, with_hold, with_useful, with_lost, with_dropped, with_idle, with_queue}
use Rattle.even_speed.specs.Pricing.{begins}

-- at the start each core is due, and has no epoch
abbrev pub first_clock : Clock
first_clock = record { next = Due 0; runs = false; since = 0; waited = 0; spent = nothing_spent; account = no_steps }

-- the clock of each core
abbrev pub clock_at : List Clock → ℕ → Clock
clock_at clocks k = slice_index_or clocks k first_clock

-- ---- whose turn is next

abbrev pub due_of : Next → Option ℕ
due_of (Due at) = Some at
due_of (Waits since cause) = None
due_of Gone = None

-- when each core is due: one that is held isn't
abbrev pub dues : (ℕ → Bool) → (ℕ → Clock) → ℕ → Option ℕ
dues held clocks k = if held k then None else due_of (clocks k).next

-- of the cores 0 to n - 1 this one is due, and of what is free its turn begins then; none could begin before, of those that could begin then none was
-- due before, and of those none has a lower number
pub record IsFirst (free : Free) (prices : ℕ → Price) (dues : ℕ → Option ℕ) (n : ℕ) (t : Turn) : Type 0 where
  pub core : t.core < n
  pub due : dues t.core ≡ Some t.due
  pub price : t.price ≡ prices t.core
  pub begins_at : t.at ≡ begins free t.price t.due
  pub soonest : (k due : ℕ) → k < n → dues k ≡ Some due → t.at ≤ begins free (prices k) due
  pub longest : (k due : ℕ) → k < n → dues k ≡ Some due → begins free (prices k) due ≡ t.at → t.due ≤ due
  pub lowest : (k : ℕ) → k < n → dues k ≡ Some t.due → begins free (prices k) t.due ≡ t.at → t.core ≤ k

-- a core that was due before its turn begins was in a queue until then, or was held
abbrev pub late : Bool → ℕ → ℕ → Clock → Clock
late queues due at c =
    if queues then record c { next = Due at; spent = with_queue (at - due) c.spent }
    else record c { next = Due at; waited = c.waited + (at - due); account = with_hold (at - due) c.account }

-- the clocks as this turn begins
abbrev pub late_clocks : Bool → (ℕ → Clock) → Turn → ℕ → Clock
late_clocks queues clocks t k = if k == t.core then late queues t.due t.at (clocks k) else clocks k

-- ---- an attempt begins and ends

-- its steps up to a time since it began its attempt or has no epoch, less what it waited
abbrev pub steps_to : ℕ → Clock → ℕ
steps_to end c = end - c.since - c.waited

-- from a time on it runs another attempt, which has spent this, or has no epoch
abbrev pub parted : ℕ → Bool → Spent → Account → Clock → Clock
parted at runs spent account c = record { next = c.next; runs = runs; since = at; waited = 0; spent = spent; account = account }

-- it begins an epoch, or begins it again, since it was violated
abbrev pub begun : ℕ → Bool → Clock → Clock
begun at restarted c =
    if c.runs then (if restarted then parted at true (one_more nothing_spent) (with_lost (steps_to at c) c.account) c else c)
    else parted at true (one_more nothing_spent) (with_idle (steps_to at c) c.account) c

-- its attempt spends this too
abbrev pub paid : Spent → Clock → Clock
paid spent c = record c { spent = both c.spent spent }

-- its epoch commits, or faults as the homefree one
abbrev pub ended : ℕ → Clock → Clock
ended end c =
    parted end false nothing_spent (if c.runs then with_useful (steps_to end c - total c.spent) c.spent c.account else with_idle (steps_to end c) c.account) c

-- what still runs is dropped
abbrev pub dropped : ℕ → Clock → Clock
dropped end c = parted end false nothing_spent (if c.runs then with_dropped (steps_to end c) c.account else with_idle (steps_to end c) c.account) c

-- ---- a turn

abbrev pub waits_for : Cause → ℕ → Clock → Clock
waits_for NoEpoch at c = record c { next = Gone }
waits_for NotHomefree at c = record c { next = Waits at NotHomefree }
waits_for NoWay at c = record c { next = Waits at NoWay }
waits_for OrbFull at c = record c { next = Waits at OrbFull }
waits_for OrbBusy at c = record c { next = Waits at OrbBusy }

-- its epoch is left by a turn at this time, which spends this and takes a step
abbrev pub left : ℕ → Spent → Clock → Clock
left at spent c = ended (at + 1 + total spent) (paid (one_more spent) c)

-- its turn at this time, which spends this, was answered so, with or without a restart, and what it goes on with executes so many instructions
abbrev pub answered : ℕ → Bool → ℕ → Spent → Answer → Clock → Clock
answered at restarted executed spent (Go hart) c = record (paid spent (begun at restarted c)) { next = Due (at + 1 + total spent + executed) }
answered at restarted executed spent (Again cause) c = waits_for cause at c
answered at restarted executed spent Left c = record (left at spent c) { next = Due (at + 1 + total spent) }
answered at restarted executed spent (Over end) c = record (left at spent c) { next = Gone }
answered at restarted executed spent (Stopped cause) c = c

abbrev pub woken_from : Next → ℕ → Clock → Clock
woken_from (Due due) at c = c
woken_from (Waits since cause) at c =
    record c { next = Due at; waited = c.waited + (at - since); account = with_waited cause (at - since) c.account }
woken_from Gone at c = c

-- where it waits, it is due at this time, and waits no more
abbrev pub woken : ℕ → Clock → Clock
woken at c = woken_from c.next at c

-- every core that waits is woken, but by a turn that waits too, and by the last one
abbrev pub woken_by : Answer → ℕ → (ℕ → Clock) → ℕ → Clock
woken_by (Go hart) at clocks k = woken at (clocks k)
woken_by (Again cause) at clocks k = clocks k
woken_by Left at clocks k = woken at (clocks k)
woken_by (Over end) at clocks k = clocks k
woken_by (Stopped cause) at clocks k = clocks k

-- the run is over at this time: up to then it waits, where it waits, and what still runs is dropped
abbrev pub closed : ℕ → Clock → Clock
closed end c = dropped end (woken end c)

-- ---- all cores

-- where the steps of the cores 0 to n - 1 went, where the run is over at this time
unfoldable pub account_of : ℕ → (ℕ → Clock) → ℕ → Account
account_of end clocks zero = no_steps
account_of end clocks (suc n) = sum_of (account_of end clocks n) (closed end (clocks n)).account
