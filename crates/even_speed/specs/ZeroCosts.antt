-- What it means that costs change nothing, as those do that are all 0: a run at these is the run without costs, turn for turn.
-- Source: this project.
use Rattle.std.specs.Prelude.{◌≡◌, ◌⊎◌, ℕ, ◌+◌, ◌≤◌, Bool, true, false, List, [], ◌∷◌, Option, Some, None, Result, Ok, Err}
use Rattle.violations.specs.View.{StoreView, Waits}
use Rattle.violations.specs.Calls.{Call}
use Rattle.homefree.specs.declared.answer.Answer.{Answer}
use Rattle.homefree.specs.declared.answer.Answer.TheVariants.{Go, Again, Left, Over, Stopped}
use Rattle.homefree.specs.declared.fault.TurnFault.{TurnFault}
use Rattle.homefree.specs.Driven.{Driver}
use Rattle.turn_costs.specs.declared.costs.Costs.{Costs}
use Rattle.turn_costs.specs.Prices.{Prices}
use Rattle.even_speed.specs.declared.account.Account.{Account}
use Rattle.even_speed.specs.declared.clocks.Turn.{Turn}
use Rattle.even_speed.specs.declared.run.Ran.{Ran}
use Rattle.even_speed.specs.Account.{useful_in}
use Rattle.even_speed.specs.Even.{EndsOrGoes, Evenly, Pace, Pacing, at_first, go_answer, pace_after, pacing}
use Rattle.even_speed.specs.Held.{Holding}

-- ---- what two runs come to, the first at these costs, the second without costs

-- an account without its steps in a queue, held, lost and dropped
abbrev pub but_for_late : Account → Account
but_for_late a = record a { spent = record a.spent { queue = 0 }; lost = 0; dropped = 0; held = 0 }

-- where the first tells who is late as in a queue, what the second tells as held is the attempt's there: useful, lost or dropped with it
pub record AreOneAccount (queues : Bool) (a b : Account) : Type 0 where
  pub none_held : queues ≡ true → a.held ≡ 0
  pub none_queues : b.spent.queue ≡ 0
  pub useful : useful_in a ≡ useful_in b + a.spent.queue
  pub lost : b.lost ≤ a.lost
  pub dropped : b.dropped ≤ a.dropped
  pub late : a.spent.queue + a.lost + a.dropped + a.held ≡ b.lost + b.dropped + b.held
  -- all else is the same
  pub rest : but_for_late a ≡ but_for_late b

-- no load waits
pub record WaitsNone (holds : Holding) : Type 0 where
  pub places : (pc : ℕ) → holds.places pc ≡ false
  pub stores : (epoch piece : ℕ) → holds.stores epoch piece ≡ false

-- where the first tells no queue, or no load waits, all is the same
pub record AreOneRun (queues : Bool) (holds : Holding) (r s : Ran) : Type 0 where
  pub end : r.end ≡ s.end
  pub steps : r.steps ≡ s.steps
  pub account : AreOneAccount queues r.account s.account
  pub same : (queues ≡ false) ⊎ WaitsNone holds → r ≡ s

abbrev pub ComeToOne : Bool → Holding → Result (Option Ran) TurnFault → Result (Option Ran) TurnFault → Type 0
ComeToOne queues holds (Ok (Some r)) (Ok (Some s)) = AreOneRun queues holds r s
ComeToOne queues holds (Ok (Some r)) (Ok None) = ⊥
ComeToOne queues holds (Ok (Some r)) (Err fault) = ⊥
ComeToOne queues holds (Ok None) other = other ≡ Ok None
ComeToOne queues holds (Err fault) other = other ≡ Err fault

-- ---- the times of turns

-- of those below a turn, where it doesn't end the run
abbrev pub times_below : {S : Type 0} (old mid : Driver S) (queues : Bool) (p : Pace) (t : Turn) (answer : Result Answer TurnFault) (rest : List ℕ) (result : Result (Option Ran) TurnFault) (new : Driver S)
    (more : Type 0) → (more → List ℕ) → EndsOrGoes old mid queues p t answer rest result new more → List ℕ
times_below old mid queues p t (Ok (Over end)) rest result new more times e = []
times_below old mid queues p t (Ok (Stopped cause)) rest result new more times e = []
times_below old mid queues p t (Err fault) rest result new more times e = []
times_below old mid queues p t (Ok (Go hart)) rest result new more times e = times e
times_below old mid queues p t (Ok (Again cause)) rest result new more times e = times e
times_below old mid queues p t (Ok Left) rest result new more times e = times e

-- when each turn of a run begins
abbrev pub times_of : {S : Type 0} (makes : S → Call → S → Type 0) (view : S → StoreView) (waits : S → Waits) (keeps : S → Type 0) (paced : Pacing S) (p : Pace) (old : Driver S) (schedule : List ℕ)
    (result : Result (Option Ran) TurnFault) (new : Driver S) → Evenly makes view waits keeps paced p old schedule result new → List ℕ
times_of makes view waits keeps paced p old [] result new e = []
times_of makes view waits keeps paced p old (core ∷ rest) result new (t, mid, answer, is, kept, first, turned, more) =
    t.at ∷ times_below old mid paced.queues p t answer rest result new (Evenly makes view waits keeps paced (pace_after old mid paced.queues p t (go_answer answer)) mid rest result new)
    (times_of makes view waits keeps paced (pace_after old mid paced.queues p t (go_answer answer)) mid rest result new) more

-- a run from its start on, whose turns begin at these times
abbrev pub EvenlyAt : {S : Type 0} → (S → Call → S → Type 0) → (S → StoreView) → (S → Waits) → (S → Type 0) → Pacing S → Driver S → List ℕ → List ℕ → Result (Option Ran) TurnFault → Driver S → Type 0
EvenlyAt makes view waits keeps paced old schedule times result new =
    (e : Evenly makes view waits keeps paced at_first old schedule result new) × (times_of makes view waits keeps paced at_first old schedule result new e ≡ times)

-- ---- the law

-- that these costs change nothing. Of each store on which prices stand this is asked
pub record ChangeNothing {S : Type 0} (costs : Costs) (makes : S → Call → S → Type 0) (view : S → StoreView) (waits : S → Waits) (prices : S → Prices) (asked : S → Type 0) : Type 0 where
  -- a run at these costs is one without costs: the same turns, at the same times, lead to the same book and come to the same
  pub without : (holds : Holding) (queues : Bool) (old new : Driver S) (schedule times : List ℕ) (result : Result (Option Ran) TurnFault)
      → EvenlyAt makes view waits asked (pacing prices holds queues (Some costs)) old schedule times result new
      → (other : Result (Option Ran) TurnFault) × EvenlyAt makes view waits asked (pacing prices holds queues None) old schedule times other new
      × ComeToOne queues holds result other
  -- and one without costs is one at these, where every store has what is asked
  pub at_costs : ((store : S) → asked store) → (holds : Holding) (queues : Bool) (old new : Driver S) (schedule times : List ℕ) (other : Result (Option Ran) TurnFault)
      → EvenlyAt makes view waits asked (pacing prices holds queues None) old schedule times other new
      → (result : Result (Option Ran) TurnFault) × EvenlyAt makes view waits asked (pacing prices holds queues (Some costs)) old schedule times result new
      × ComeToOne queues holds result other
