-- Caches that hold the same have the same prices: what the room for a line is, but for the line that has to leave, and that one is M in both.
use Rattle.std.proofs.Common.{◌≡◌, ℕ, ◌+◌, Bool, true, false, cond, [], Option, Some, None, sym, ap, refl, ◌∙◌}
use Rattle.spec_states.specs.Copies.{LineCopy}
use Rattle.spec_states.specs.States.{is_valid, is_modified}
use Rattle.bus_states.specs.Bus.{Bus, line_of}
use Rattle.bus_states.specs.Messages.{Room}
use Rattle.bus_states.specs.Speculative.{holds_line}
use Rattle.spec_bus.specs.Cached.{CachedView, bus, place_of, room, waits}
use Rattle.spec_bus.specs.Laws.{IsPlacedCore, HoldTheSame, AreAlike}
use Rattle.spec_bus.proofs.SameRooms.{IsOneRoom, same_place, same_rooms, invalid_unmodified, calls_fixed}
use Rattle.turn_costs.specs.declared.actions.Actions.{Actions}
use Rattle.turn_costs.specs.Accesses.{count_of, leaves_modified, is_modified_elsewhere, miss_of, hit_of, load_of, store_tells, store_of, publish_lines}
use Rattle.turn_costs.specs.Actions.{no_actions}
use Rattle.turn_costs.specs.Prices.{bus_prices, PricesAreFixed, WaitsAreFixed}

same_leaves : (r s : Option Room) → IsOneRoom r s → leaves_modified r ≡ leaves_modified s
same_leaves None None one = refl
same_leaves None (Some s) one = absurd one
same_leaves (Some r) None one = absurd one
same_leaves (Some r) (Some s) one = by (is_valid r.line.state) refl
  where
    by : (b : Bool) → is_valid r.line.state ≡ b → is_modified r.line.state ≡ is_modified s.line.state
    by true e = ap (λ (x : LineCopy). is_modified x.state) (one.1.copy e)
    by false e = invalid_unmodified r.line.state e ∙ sym (invalid_unmodified s.line.state (sym one.1.valid ∙ e))

module _ (b : Bus) (core line : ℕ) (r s : Option Room) (one : IsOneRoom r s) where
  same_miss : miss_of b core line r ≡ miss_of b core line s
  same_miss =
      ap (λ modified. let a : Actions = record no_actions { misses = 1; write_backs = count_of modified + count_of (is_modified_elsewhere b core line) } in a)
      (same_leaves r s one)

  same_load : (straight : Bool) → load_of b straight core line r ≡ load_of b straight core line s
  same_load straight = ap (λ (miss : Actions). cond (holds_line b core line) (hit_of b straight false core line) miss) same_miss

  same_store : (straight : Bool) → store_of b straight core line r ≡ store_of b straight core line s
  same_store straight =
      ap (λ (miss : Actions). cond (holds_line b core line) (hit_of b straight (store_tells b straight core line) core line) miss) same_miss

pub prices_fixed : PricesAreFixed (λ (v : CachedView). (k : ℕ) → IsPlacedCore v.cores k) HoldTheSame bus_prices
prices_fixed v w p q same = record {
  load = λ straight core addr.
      let n = line_of (bus v).line_length (place_of v addr) in
      same_load (bus v) core n (room v core n) (room w core n) (same_rooms v w core (p core) (q core) (sym same.bus_is) n) straight
      ∙ (ap (λ (b : Bus). load_of b straight core (line_of b.line_length (place_of v addr)) (room w core (line_of b.line_length (place_of v addr)))) (sym same.bus_is)
      ∙ ap (λ a. load_of (bus w) straight core (line_of (bus w).line_length a) (room w core (line_of (bus w).line_length a))) (same_place v w addr same));
  store = λ straight core addr.
      let n = line_of (bus v).line_length (place_of v addr) in
      same_store (bus v) core n (room v core n) (room w core n) (same_rooms v w core (p core) (q core) (sym same.bus_is) n) straight
      ∙ (ap (λ (b : Bus). store_of b straight core (line_of b.line_length (place_of v addr)) (room w core (line_of b.line_length (place_of v addr)))) (sym same.bus_is)
      ∙ ap (λ a. store_of (bus w) straight core (line_of (bus w).line_length a) (room w core (line_of (bus w).line_length a))) (same_place v w addr same));
  lines = λ core. ap (λ (b : Bus). publish_lines b core) (sym same.bus_is);
}

pub waits_fixed : WaitsAreFixed (λ (v : CachedView). (k : ℕ) → IsPlacedCore v.cores k) HoldTheSame waits
waits_fixed v w p q same =
    let both : AreAlike v w = calls_fixed [] v w v w same (p, refl) (q, refl) in
    record { load = both.load; store = both.store }
