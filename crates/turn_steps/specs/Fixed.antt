-- That the text of turns is fixed by the book that they begin with, what its store holds included.
-- Source: this project.
use Rattle.std.specs.Prelude.{◌≡◌, ℕ, List, Option}
use Rattle.rv32_exec.specs.declared.sequential.End.{End}
use Rattle.rv32_exec.specs.Hart.{HartState}
use Rattle.violations.specs.View.{StoreView, Waits}
use Rattle.violations.specs.Calls.{Call}
use Rattle.homefree.specs.Driven.{Driver}
use Rattle.homefree.specs.DriveFixed.{AreTwinDrivers}
use Rattle.turn_steps.specs.Stepped.{Stepped}

-- where two stores hold the same before, and two hold the same after, what changed has one text
abbrev pub ChangesAreFixed : {S : Type 0} → (S → S → Type 0) → (ℕ → S → S → List ℕ) → Type 0
ChangesAreFixed {S} alike changes =
    (cores : ℕ) (old now old' now' : S) → alike old old' → alike now now' → changes cores old' now' ≡ changes cores old now

-- what comes of the turns, and their text
pub record IsOneText {S : Type 0} (alike : S → S → Type 0) (end end' : Option End) (new new' : Driver S) (text text' : List ℕ) : Type 0 where
  pub end_is : end' ≡ end
  pub twins : AreTwinDrivers alike new new'
  pub text_is : text' ≡ text

-- the same turns of two books with the same history, whose stores hold the same, have one text
abbrev pub StepsAreFixed : {S : Type 0} → (S → Call → S → Type 0) → (S → S → Type 0) → (S → StoreView) → (S → Waits) → (ℕ → S → S → List ℕ) → Type 0
StepsAreFixed {S} makes alike view waits changes =
    (number : ℕ) (held : ℕ → Option HartState) (old new old' new' : Driver S) (schedule : List ℕ) (end end' : Option End) (text text' : List ℕ)
    → AreTwinDrivers alike old old' → Stepped makes view waits changes number held old schedule end new text
    → Stepped makes view waits changes number held old' schedule end' new' text' → IsOneText alike end end' new new' text text'
