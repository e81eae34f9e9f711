-- That turns by a list of core numbers are fixed by the book that they begin with, what its store holds included.
use Rattle.std.specs.Prelude.{◌≡◌, ◌≢◌, ℕ, List, Option, Result, Err}
use Rattle.rv32_exec.specs.declared.sequential.End.{End}
use Rattle.rv32_exec.specs.Hart.{HartState}
use Rattle.violations.specs.View.{StoreView, Waits}
use Rattle.violations.specs.Calls.{Call}
use Rattle.homefree.specs.declared.fault.TurnFault.{TurnFault}
use Rattle.homefree.specs.declared.fault.TurnFault.TheVariants.{NoMemory}
use Rattle.homefree.specs.Driven.{Driver, Driven}
use Rattle.homefree.specs.Fixed.{AreTwins}

-- two books with the same history, whose stores hold the same, and the same shares of the counts
pub record AreTwinDrivers {S : Type 0} (alike : S → S → Type 0) (d e : Driver S) : Type 0 where
  pub books : AreTwins alike d.book e.book
  pub shares_are : e.shares ≡ d.shares

-- what comes of the turns
pub record IsOneDrive {S : Type 0} (alike : S → S → Type 0) (result result' : Result (Option End) TurnFault) (new new' : Driver S) : Type 0 where
  pub result_is : result' ≡ result
  pub twins : AreTwinDrivers alike new new'

-- the same turns of two such books come to the same and lead to two such books, unless memory runs out
abbrev pub DriveIsFixed : {S : Type 0} → (S → Call → S → Type 0) → (S → S → Type 0) → (S → StoreView) → (S → Waits) → Type 0
DriveIsFixed {S} makes alike view waits =
    (held : ℕ → Option HartState) (old new old' new' : Driver S) (schedule : List ℕ) (result result' : Result (Option End) TurnFault)
    → AreTwinDrivers alike old old' → Driven makes view waits held old schedule result new → Driven makes view waits held old' schedule result' new'
    → result ≢ Err NoMemory → result' ≢ Err NoMemory → IsOneDrive alike result result' new new'
