-- That what a turn does is fixed by the book, what its store holds included.
-- Source: this project.
use Rattle.std.specs.Prelude.{◌≡◌, ℕ, Option}
use Rattle.rv32_exec.specs.Arrival.{Arrival}
use Rattle.spec_history.specs.FlatState.{FlatState}
use Rattle.violations.specs.View.{Waits}
use Rattle.homefree.specs.BookView.{BookView}
use Rattle.homefree.specs.Fixed.{AreTwins}
use Rattle.homefree.specs.Turned.{turn_at}
use Rattle.turn_costs.specs.Prices.{Prices}
use Rattle.turn_costs.specs.Turns.{actions_of}

-- of two books with the same history, whose stores keep what each store does and hold the same, the same turn does the same
abbrev pub ActionsAreFixed : {S : Type 0} → (S → Type 0) → (S → S → Type 0) → (S → Prices) → (S → Waits) → Type 0
ActionsAreFixed {S} keeps alike prices waits =
    (b c : BookView S) (s : FlatState) (core : ℕ) (next : Option Arrival) → keeps b.store → keeps c.store → AreTwins alike b c
    → actions_of (prices b.store) (turn_at waits b s core next) ≡ actions_of (prices c.store) (turn_at waits c s core next)
