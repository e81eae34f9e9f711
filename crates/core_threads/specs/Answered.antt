-- What a core does after its turn, and the cause for which a book is stopped where a turn fails or a gate is shut.
use Rattle.std.specs.Prelude.{◌≡◌, ◌⊎◌, ◌&&◌, ℕ, zero, suc, true, Option, Some, None, Result, Ok, Err, is_none, if◌then◌else◌}
use Rattle.rv32_image.specs.Image.{LoadedImage}
use Rattle.rv32_exec.specs.Arrival.{Arrival}
use Rattle.rv32_exec.specs.Hart.{HartState}
use Rattle.run_ledger.specs.declared.counts.Counts.{Counts}
use Rattle.spec_history.specs.FlatState.{FlatState}
use Rattle.spec_history.specs.Replay.{replay}
use Rattle.ticket_lock.specs.Past.{StartsWith}
use Rattle.violations.specs.View.{StoreView, Waits}
use Rattle.violations.specs.Calls.{Call}
use Rattle.homefree.specs.declared.answer.Answer.{Answer}
use Rattle.homefree.specs.declared.answer.Answer.TheVariants.{Go, Again, Left, Over, Stopped}
use Rattle.homefree.specs.declared.answer.StopCause.{StopCause}
use Rattle.homefree.specs.declared.answer.StopCause.TheVariants as stop
use Rattle.homefree.specs.declared.fault.TurnFault.{TurnFault}
use Rattle.homefree.specs.declared.fault.TurnFault.TheVariants.{HistoryFull, NoMemory}
use Rattle.homefree.specs.declared.book.Loop.{Loop}
use Rattle.homefree.specs.BookView.{BookView}
use Rattle.homefree.specs.Driven.{arrival_of}
use Rattle.homefree.specs.LockView.{loop_of, past_of}
use Rattle.homefree.specs.Fixed.{TurnsStore}
use Rattle.core_threads.specs.declared.turns.After.{After}
use Rattle.core_threads.specs.declared.turns.After.TheVariants as does
use Rattle.core_threads.specs.declared.turns.LoopEnd.{LoopEnd}
use Rattle.core_threads.specs.declared.turns.LoopEnd.TheVariants as loop
use Rattle.core_threads.specs.Passes.{Knows}

-- what it does after this answer
abbrev pub after_answer : Answer → After
after_answer (Go reached) = does.Goes
after_answer (Again cause) = does.Waits
after_answer Left = does.Leaves
after_answer (Over end) = does.Ends loop.Over
after_answer (Stopped cause) = does.Ends loop.Stopped

-- the hart that it has after this answer
abbrev pub hart_after : Answer → HartState → HartState
hart_after (Go reached) hart = reached
hart_after (Again cause) hart = hart
hart_after Left hart = hart
hart_after (Over end) hart = hart
hart_after (Stopped cause) hart = hart

abbrev pub cause_for : TurnFault → StopCause
cause_for HistoryFull = stop.HistoryFull
cause_for NoMemory = stop.NoMemory

-- what it does is what the answer says; where the turn failed, the book is stopped for that and the core ends
abbrev pub Follows : {S : Type 0} → Result Answer TurnFault → BookView S → BookView S → HartState → HartState → After → Type 0
Follows (Ok answer) turned new hart hart' after = (new ≡ turned) × (after ≡ after_answer answer) × (hart' ≡ hart_after answer hart)
Follows (Err fault) turned new hart hart' after = (new ≡ record turned { stopped = Some (cause_for fault) }) × (after ≡ does.Ends loop.Stopped) × (hart' ≡ hart)

-- the core has taken a turn from a book whose history leads to the state s, and done what follows
pub record Takes {S : Type 0} (makes : S → Call → S → Type 0) (view : S → StoreView) (waits : S → Waits) (old new : BookView S) (s : FlatState) (core : ℕ) (next : Option Arrival)
    (shares shares' : Counts) (hart hart' : HartState) (after : After) : Type 0 where
  pub turned : BookView S
  pub answer : Result Answer TurnFault
  pub turns : TurnsStore makes view waits old s shares core next answer turned shares'
  pub follows : Follows answer turned new hart hart' after

-- the gate was shut: from a book whose history leads to the state s, it is stopped, unless its loop is over or it was stopped before
pub record IsShut {S : Type 0} (old new : BookView S) (s : FlatState) (after : After) : Type 0 where
  pub book : new ≡ (if is_none s.end && is_none old.stopped then record old { stopped = Some stop.Shut } else old)
  pub end : LoopEnd
  pub ends : after ≡ does.Ends end

-- a core got the book of this loop and let it go: while it held it, it took a turn, or found the gate shut
pub record TakesTurn {S : Type 0} (makes : S → Call → S → Type 0) (view : S → StoreView) (waits : S → Waits) (l : Loop) (core : ℕ) (next : Option Arrival) (p q : Knows)
    (shares shares' : Counts) (hart hart' : HartState) (after : After) : Type 0 where
  pub old : BookView S
  pub new : BookView S
  pub loop : loop_of old ≡ l
  pub begins : StartsWith (past_of old.history) p.seen
  pub seen : q.seen ≡ past_of new.history
  pub does : (s : FlatState) → replay old.image old.cores old.history ≡ Some s
      → Takes makes view waits old new s core next shares shares' hart hart' after ⊎ IsShut old new s after

-- what the core has in hand then: where `advance` comes to from the hart that it has
abbrev pub hand_after : LoadedImage → After → HartState → Option Arrival → Option Arrival
hand_after image does.Goes hart next = Some (arrival_of image hart)
hand_after image does.Waits hart next = next
hand_after image does.Leaves hart next = None
hand_after image (does.Ends end) hart next = None

-- the core's turns end, or go on
abbrev pub EndsOrGoes : After → (LoopEnd → Type 0) → Type 0 → Type 0
EndsOrGoes does.Goes ends goes = goes
EndsOrGoes does.Waits ends goes = goes
EndsOrGoes does.Leaves ends goes = goes
EndsOrGoes (does.Ends end) ends goes = ends end

-- so many turns of a core, one after another, each with what it has in hand, up to one that ends them, or until no ticket is left
abbrev pub TakesTurns : {S : Type 0} → (S → Call → S → Type 0) → (S → StoreView) → (S → Waits) → Loop → ℕ → ℕ → Knows → Counts → Option Arrival → Knows → Counts → LoopEnd → Type 0
TakesTurns makes view waits l core zero p shares next q shares' end = (q ≡ record p { out = true }) × (shares' ≡ shares) × (end ≡ loop.Spent)
TakesTurns makes view waits l core (suc n) p shares next q shares' end =
    (mid : Knows) × (counted : Counts) × (hart : HartState) × (hart' : HartState) × (after : After) × TakesTurn makes view waits l core next p mid shares counted hart hart' after
    × EndsOrGoes after (λ e. (q ≡ mid) × (shares' ≡ counted) × (end ≡ e)) (TakesTurns makes view waits l core n mid counted (hand_after l.image after hart' next) q shares' end)
