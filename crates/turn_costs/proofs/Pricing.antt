-- What accesses cost on the bus, by whether the core holds the line.
use Rattle.std.proofs.Common.{◌≡◌, ◌∙◌, ℕ, ◌≤◌, ◌&&◌, not, Bool, true, false, cond, Option, sym, ap, arith}
use Rattle.spec_states.specs.declared.line.LineState.{LineState}
use Rattle.spec_states.specs.States.{is_valid, is_modified}
use Rattle.bus_states.specs.Bus.{Bus}
use Rattle.bus_states.specs.Messages.{Room}
use Rattle.bus_states.specs.Speculative.{own, holds_line}
use Rattle.turn_costs.specs.Accesses.{count_of, leaves_modified, is_modified_elsewhere, hit_of, miss_of, load_of, store_of, store_tells}
use Rattle.turn_costs.specs.Actions.{AreFew}

-- ---- no more than a turn does

few_count : (b : Bool) → count_of b ≤ 1
few_count true = omega arith
few_count false = omega arith

pub few_miss : (b : Bus) (core line : ℕ) (room : Option Room) → AreFew (miss_of b core line room)
few_miss b core line room =
    let leaves = few_count (leaves_modified room) in
    let other = few_count (is_modified_elsewhere b core line) in record {
      misses = omega arith;
      upgrades = omega arith;
      lines = omega arith;
      write_backs = omega (arith, leaves, other);
      begins = omega arith;
      restarts = omega arith;
      commits = omega arith;
    }

pub few_hit : (b : Bus) (straight tells : Bool) (core line : ℕ) → AreFew (hit_of b straight tells core line)
few_hit b straight tells core line =
    let told = few_count tells in
    let written = few_count (not straight && is_modified (own b core line).state) in record {
      misses = omega arith;
      upgrades = told;
      lines = omega arith;
      write_backs = omega (arith, written);
      begins = omega arith;
      restarts = omega arith;
      commits = omega arith;
    }

-- ---- what was found of the copy's state

held_is : (b : Bus) (core line : ℕ) (state : LineState) (found held : Bool) → state ≡ (own b core line).state → found ≡ is_valid state → found ≡ held
    → holds_line b core line ≡ held
held_is b core line state found held is valid same = ap is_valid (sym is) ∙ (sym valid ∙ same)

module _ (b : Bus) (straight : Bool) (core line : ℕ) (room : Option Room) (state : LineState) (found : Bool) (is : state ≡ (own b core line).state)
    (valid : found ≡ is_valid state) where
  pub load_held : found ≡ true → hit_of b straight false core line ≡ load_of b straight core line room
  load_held same =
      sym (ap (λ held. cond held (hit_of b straight false core line) (miss_of b core line room)) (held_is b core line state found true is valid same))

  pub load_missed : found ≡ false → miss_of b core line room ≡ load_of b straight core line room
  load_missed same =
      sym (ap (λ held. cond held (hit_of b straight false core line) (miss_of b core line room)) (held_is b core line state found false is valid same))

  pub store_held : found ≡ true → hit_of b straight (store_tells b straight core line) core line ≡ store_of b straight core line room
  store_held same =
      sym (ap (λ held. cond held (hit_of b straight (store_tells b straight core line) core line) (miss_of b core line room))
      (held_is b core line state found true is valid same))

  pub store_missed : found ≡ false → miss_of b core line room ≡ store_of b straight core line room
  store_missed same =
      sym (ap (λ held. cond held (hit_of b straight (store_tells b straight core line) core line) (miss_of b core line room))
      (held_is b core line state found false is valid same))
