-- What the calls of a store do that costs, in the state before them.
-- Source: this project.
use Rattle.std.specs.Prelude.{◌≡◌, ℕ, Bool}
use Rattle.violations.specs.View.{Waits}
use Rattle.spec_bus.specs.Cached.{CachedView, bus, line_of, room}
use Rattle.turn_costs.specs.declared.actions.Actions.{Actions}
use Rattle.turn_costs.specs.Actions.{no_actions}
use Rattle.turn_costs.specs.Accesses as bus_spec

-- a load and a store, straight or speculative, by core and address; and how many lines the publish of a core asks for
pub record Prices : Type 0 where
  pub load : Bool → ℕ → ℕ → Actions
  pub store : Bool → ℕ → ℕ → Actions
  pub lines : ℕ → ℕ

-- nothing costs
abbrev pub no_prices : Prices
no_prices = record { load = λ straight core address. no_actions; store = λ straight core address. no_actions; lines = λ core. 0 }

-- on the bus, in the line of the address
abbrev pub bus_prices : CachedView → Prices
bus_prices v = record {
  load = λ straight core address. let line = line_of v address in bus_spec.load_of (bus v) straight core line (room v core line);
  store = λ straight core address. let line = line_of v address in bus_spec.store_of (bus v) straight core line (room v core line);
  lines = bus_spec.publish_lines (bus v);
}

-- the same prices
pub record AreSamePrices (p q : Prices) : Type 0 where
  pub load : (straight : Bool) (core address : ℕ) → p.load straight core address ≡ q.load straight core address
  pub store : (straight : Bool) (core address : ℕ) → p.store straight core address ≡ q.store straight core address
  pub lines : (core : ℕ) → p.lines core ≡ q.lines core

-- the same accesses wait, for the same causes
pub record AreSameWaits (v w : Waits) : Type 0 where
  pub load : (core address width : ℕ) → v.load core address width ≡ w.load core address width
  pub store : (core address width : ℕ) → v.store core address width ≡ w.store core address width

-- two stores that keep what each store does and hold the same have the same prices
abbrev pub PricesAreFixed : {S : Type 0} → (S → Type 0) → (S → S → Type 0) → (S → Prices) → Type 0
PricesAreFixed {S} keeps alike prices = (s t : S) → keeps s → keeps t → alike s t → AreSamePrices (prices s) (prices t)

-- and of both the same accesses wait, also those that aren't made
abbrev pub WaitsAreFixed : {S : Type 0} → (S → Type 0) → (S → S → Type 0) → (S → Waits) → Type 0
WaitsAreFixed {S} keeps alike waits = (s t : S) → keeps s → keeps t → alike s t → AreSameWaits (waits s) (waits t)
