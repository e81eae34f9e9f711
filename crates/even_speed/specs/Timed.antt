-- What a turn makes of the cores, told by what the clocks need of it.
use Rattle.std.specs.Prelude.{◌≡◌, ◌≢◌, ◌⊎◌, ℕ, zero, suc, ◌+◌, ◌<◌, ◌≤◌, Bool, true, false, length, Option, Some, None, Result, Ok, Err, IfOk}
use Rattle.rv32_image.specs.Image.{LoadedImage}
use Rattle.rv32_exec.specs.declared.sequential.End.TheVariants.{Done, Exit, Fault}
use Rattle.rv32_exec.specs.Hart.{HartState}
use Rattle.rv32_exec.specs.NextEvent.{next_event}
use Rattle.spec_history.specs.FlatState.{CoreState, FlatState}
use Rattle.spec_history.specs.Replay.{replay}
use Rattle.homefree.specs.declared.answer.Answer.{Answer}
use Rattle.homefree.specs.declared.answer.Answer.TheVariants.{Go, Again, Left, Over, Stopped}
use Rattle.homefree.specs.declared.answer.Cause.TheVariants.{NoEpoch, NotHomefree, NoWay, OrbFull, OrbBusy}
use Rattle.homefree.specs.declared.answer.StopCause.{StopCause}
use Rattle.homefree.specs.declared.fault.TurnFault.{TurnFault}
use Rattle.homefree.specs.Driven.{Driver}
use Rattle.homefree.specs.Room.{most_room}
use Rattle.even_speed.specs.declared.clock.Clock.{Clock}
use Rattle.even_speed.specs.declared.clock.Next.{Next}
use Rattle.even_speed.specs.declared.clock.Next.TheVariants.{Due, Waits, Gone}
use Rattle.even_speed.specs.Even.{Pace, restarts}
use Rattle.even_speed.specs.Account.{total}
use Rattle.even_speed.specs.InOrder.{epoch_count, instructions_in_order}
use Rattle.even_speed.specs.Kept.{told, used}

-- ---- a turn

-- another core runs what it ran, or is hurt, and runs the same epoch
pub record Moves (o u : Option CoreState) : Type 0 where
  pub idle : u ≡ None → o ≡ None
  pub runs : (d : CoreState) → u ≡ Some d → (c : CoreState) × (o ≡ Some c) × (d.hurt ≡ false → d ≡ c) × (d.epoch ≡ c.epoch)

-- a core that goes on with this hart has begun, has begun again, or has come past its next event
abbrev pub From : LoadedImage → Option HartState → Bool → HartState → Option CoreState → Type 0
From image held restarted hart None = hart.done ≡ 0
From image held restarted hart (Some c) = (c.hurt ≡ true → (restarted ≡ true) × (hart.done ≡ 0))
    × (c.hurt ≡ false → held ≡ Some c.hart → (restarted ≡ false) × (hart.done ≡ (next_event image c.hart).now.done + 1))

-- an idle core has begun the next epoch, and another runs the epoch that it ran
abbrev pub TakesEpoch : FlatState → FlatState → CoreState → Option CoreState → Type 0
TakesEpoch s u now None = (now.epoch ≡ s.next_epoch) × (u.next_epoch ≡ s.next_epoch + 1)
TakesEpoch s u now (Some c) = (now.epoch ≡ c.epoch) × (u.next_epoch ≡ s.next_epoch)

pub record GoesTo (image : LoadedImage) (s u : FlatState) (core : ℕ) (held : Option HartState) (restarted : Bool) (hart : HartState) : Type 0 where
  pub now : CoreState
  pub runs : u.cores core ≡ Some now
  pub hart_is : now.hart ≡ hart
  pub unhurt : now.hurt ≡ false
  pub from : From image held restarted hart (s.cores core)
  pub epochs : TakesEpoch s u now (s.cores core)
  pub others : (k : ℕ) → k ≢ core → Moves (s.cores k) (u.cores k)
  pub homefree : u.homefree ≡ s.homefree
  pub going : u.end ≡ None

-- it waits, with the same in hand; it runs a later epoch than the homefree one
pub record StaysAt (s u : FlatState) (core : ℕ) : Type 0 where
  pub was : CoreState
  pub runs : s.cores core ≡ Some was
  pub unhurt : was.hurt ≡ false
  pub later : s.homefree < was.epoch
  pub going : s.end ≡ None
  pub same : u ≡ s

-- it is idle, and no epoch is left
pub record FindsNone (image : LoadedImage) (s u : FlatState) (core : ℕ) : Type 0 where
  pub idle : s.cores core ≡ None
  pub left : image.epochs ≤ s.next_epoch
  pub going : s.end ≡ None
  pub same : u ≡ s

-- its epoch commits
pub record Leaves (image : LoadedImage) (s u : FlatState) (core : ℕ) : Type 0 where
  pub was : CoreState
  pub runs : s.cores core ≡ Some was
  pub unhurt : was.hurt ≡ false
  pub idle : u.cores core ≡ None
  pub others : (k : ℕ) → k ≢ core → Moves (s.cores k) (u.cores k)
  pub epoch : was.epoch ≡ s.homefree
  pub homefree : u.homefree ≡ s.homefree + 1
  pub next_epoch : u.next_epoch ≡ s.next_epoch
  pub count : epoch_count image s.homefree ≡ (next_event image was.hart).now.done

-- the loop was done before
pub record WasOver (s u : FlatState) (core n : ℕ) : Type 0 where
  pub over : s.end ≡ Some (Done n)
  pub idle : s.cores core ≡ None
  pub homefree : u.homefree ≡ s.homefree

abbrev pub Came : LoadedImage → FlatState → FlatState → ℕ → Option HartState → Bool → Answer → Type 0
Came image s u core held restarted (Go hart) = GoesTo image s u core held restarted hart
Came image s u core held restarted (Again NoEpoch) = FindsNone image s u core
Came image s u core held restarted (Again NotHomefree) = StaysAt s u core
Came image s u core held restarted (Again NoWay) = StaysAt s u core
Came image s u core held restarted (Again OrbFull) = StaysAt s u core
Came image s u core held restarted (Again OrbBusy) = StaysAt s u core
Came image s u core held restarted Left = (u.end ≡ None) × Leaves image s u core
Came image s u core held restarted (Over (Done n)) = (u.homefree ≡ n) × (Leaves image s u core ⊎ WasOver s u core n)
Came image s u core held restarted (Over (Exit epoch)) = Unit {0}
Came image s u core held restarted (Over (Fault epoch cause pc)) = Unit {0}
Came image s u core held restarted (Stopped cause) = Unit {0}

abbrev pub CameBy : LoadedImage → FlatState → FlatState → ℕ → Option HartState → Bool → Result Answer TurnFault → Type 0
CameBy image s u core held restarted (Ok answer) = Came image s u core held restarted answer
CameBy image s u core held restarted (Err fault) = Unit {0}

-- the core runs, isn't hurt, and has not its hart in hand
pub record WasTold (was : Option CoreState) (held : Option HartState) : Type 0 where
  pub core : CoreState
  pub runs : was ≡ Some core
  pub unhurt : core.hurt ≡ false
  pub stale : held ≡ Some core.hart → ⊥

-- a history of so many entries has so many after a turn: one more at least, but where a core is told its hart, or has to come again; that the
-- book was stopped is answered only where it was
abbrev pub Adds : Option StopCause → Option CoreState → Option HartState → ℕ → ℕ → Answer → Type 0
Adds stopped was held old new (Go hart) = (old < new) ⊎ WasTold was held
Adds stopped was held old new (Again cause) = new ≡ old
Adds stopped was held old new Left = old < new
Adds stopped was held old new (Over end) = Unit {0}
Adds stopped was held old new (Stopped cause) = stopped ≡ Some cause

-- from the state that the history led to, to the one that it leads to
pub record Leads {S : Type 0} (old new : Driver S) (core : ℕ) (held : Option HartState) (result : Result Answer TurnFault) : Type 0 where
  pub before : FlatState
  pub after : FlatState
  pub led : replay old.book.image old.book.cores old.book.history ≡ Some before
  pub leads : replay new.book.image new.book.cores new.book.history ≡ Some after
  pub came : CameBy old.book.image before after core held (restarts old new) result
  pub adds : IfOk result (Adds old.book.stopped (before.cores core) held (length old.book.history) (length new.book.history))
  pub few : length new.book.history ≤ most_room
  pub stopped : new.book.stopped ≡ old.book.stopped

-- ---- the clocks

-- its next turn, due or waited for, is at this time
abbrev pub IsNextAt : ℕ → Next → Type 0
IsNextAt n (Due at) = at ≡ n
IsNextAt n (Waits since cause) = since ≡ n
IsNextAt n Gone = ⊥

-- what a running core's attempt has taken: what it spent beside instructions, and one for each of these up to its next event; where turns cost
-- nothing, it has spent the step to begin
abbrev pub IsOnTime : Bool → LoadedImage → Option CoreState → Option HartState → Clock → Type 0
IsOnTime costless image None held c = c.runs ≡ false
IsOnTime costless image (Some core) held c = (c.runs ≡ true)
    × (core.hurt ≡ false → (held ≡ Some core.hart) × IsNextAt (used c + (next_event image core.hart).now.done) c.next)
    × (costless ≡ true → total c.spent ≡ 1)

-- the sum over the clocks of the cores 0 to n - 1
unfoldable pub sum_over : (Clock → ℕ) → (ℕ → Clock) → ℕ → ℕ
sum_over f clocks zero = 0
sum_over f clocks (suc n) = sum_over f clocks n + f (clocks n)

-- their busy steps, and what their attempts spent that committed
abbrev pub busy_of : (ℕ → Clock) → ℕ → ℕ
busy_of = sum_over (λ c. c.account.busy)

abbrev pub spent_of : (ℕ → Clock) → ℕ → ℕ
spent_of = sum_over (λ c. total c.account.spent)

-- where turns cost nothing, or may cost something
pub record AreOnTime (costless : Bool) (image : LoadedImage) (cores : ℕ) (s : FlatState) (p : Pace) : Type 0 where
  -- the loop isn't over, or nothing has been done
  pub going : (s.end ≡ None) ⊎ (s.homefree ≡ 0)
  pub each : (k : ℕ) → k < cores → IsOnTime costless image (s.cores k) (p.held k) (p.clocks k)
  pub busy : busy_of p.clocks cores ≡ instructions_in_order image s.homefree
  pub spent : costless ≡ true → spent_of p.clocks cores ≡ s.homefree + s.homefree

-- where it has no epoch it is due at once
abbrev pub IsDueAt : ℕ → Next → Type 0
IsDueAt n (Due at) = at ≡ n
IsDueAt n (Waits since cause) = ⊥
IsDueAt n Gone = Unit {0}

-- it has never been idle
pub record IsNeverIdle (c : Clock) : Type 0 where
  pub idle : c.account.idle ≡ 0
  pub due : c.runs ≡ false → IsDueAt (told c) c.next
