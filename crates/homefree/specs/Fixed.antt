-- That a turn is fixed by the book, what its store holds included.
use Rattle.std.specs.Prelude.{◌≡◌, ◌≢◌, ℕ, Option, Result, Ok, Err}
use Rattle.rv32_exec.specs.Arrival.{Arrival}
use Rattle.run_ledger.specs.declared.counts.Counts.{Counts}
use Rattle.spec_history.specs.FlatState.{FlatState}
use Rattle.violations.specs.View.{StoreView, Waits}
use Rattle.violations.specs.Calls.{Call}
use Rattle.homefree.specs.declared.answer.Answer.{Answer}
use Rattle.homefree.specs.declared.fault.TurnFault.{TurnFault}
use Rattle.homefree.specs.declared.fault.TurnFault.TheVariants.{NoMemory}
use Rattle.homefree.specs.BookView.{BookView, ReplaysTo}
use Rattle.homefree.specs.Moves.{StoreMoves, standing_of}
use Rattle.homefree.specs.Turned.{Turned, MayAct, turn_at}

-- two books of one loop have the same history, and their stores hold the same
pub record AreTwins {S : Type 0} (alike : S → S → Type 0) (b c : BookView S) : Type 0 where
  pub image : c.image ≡ b.image
  pub cores : c.cores ≡ b.cores
  pub room : c.room ≡ b.room
  pub history : c.history ≡ b.history
  pub totals : c.totals ≡ b.totals
  pub stopped : c.stopped ≡ b.stopped
  pub stores : alike b.store c.store

-- a turn of a core, from a book whose history leads to the state s, with the calls that it makes
pub record TurnsStore {S : Type 0} (makes : S → Call → S → Type 0) (view : S → StoreView) (waits : S → Waits) (old : BookView S) (s : FlatState) (shares : Counts) (core : ℕ) (next : Option Arrival)
    (answer : Result Answer TurnFault) (new : BookView S) (shares' : Counts) : Type 0 where
  pub turned : Turned view waits old s shares core next answer new shares'
  pub moves : (a : Answer) → MayAct old s → answer ≡ Ok a → StoreMoves makes view waits (standing_of (turn_at waits old s core next)) old.store new.store

-- what comes of a turn
pub record IsOneTurn {S : Type 0} (alike : S → S → Type 0) (answer answer' : Result Answer TurnFault) (new new' : BookView S) (shares shares' : Counts) : Type 0 where
  pub answer_is : answer' ≡ answer
  pub shares_are : shares' ≡ shares
  pub twins : AreTwins alike new new'

-- the same turn of two such books leads to two such books, unless memory runs out
abbrev pub TurnIsFixed : {S : Type 0} → (S → Call → S → Type 0) → (S → S → Type 0) → (S → StoreView) → (S → Waits) → Type 0
TurnIsFixed {S} makes alike view waits =
    (old new old' new' : BookView S) (s : FlatState) (shares after after' : Counts) (core : ℕ) (next : Option Arrival) (answer answer' : Result Answer TurnFault)
    → AreTwins alike old old' → ReplaysTo old s → TurnsStore makes view waits old s shares core next answer new after
    → TurnsStore makes view waits old' s shares core next answer' new' after' → answer ≢ Err NoMemory → answer' ≢ Err NoMemory
    → IsOneTurn alike answer answer' new new' after after'
