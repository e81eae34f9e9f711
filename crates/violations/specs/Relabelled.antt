-- A store that knows bytes by their places, as it is seen by addresses.
use Rattle.std.specs.Prelude.{◌≡◌, ◌⊎◌, ℕ, ◌+◌, ◌%◌, ◌<◌, ◌≤◌, false}
use Rattle.memory_bytes.specs.Bytes.{IsWidth}
use Rattle.violations.specs.View.{Shape, StoreView, line_of}

-- the view of a store of this shape, of the bytes at these places
abbrev pub relabelled : (ℕ → ℕ) → Shape → StoreView → StoreView
relabelled place shape v =
    record {
      shape = shape;
      cached = v.cached;
      committed = λ a. v.committed (place a);
      attempt = v.attempt;
      sees = λ k a. v.sees k (place a);
      own = λ k a. v.own k (place a);
      guarded = λ k a. v.guarded k (place a);
    }

-- each byte has a place of its own, words stay whole, what lies in the one memory lies in the other, and what lies in one line
pub record IsRelabelling (place : ℕ → ℕ) (shape places : Shape) : Type 0 where
  pub one : (a b : ℕ) → place a ≡ place b → a ≡ b
  pub word : (address width i : ℕ) → IsWidth width → address % width ≡ 0 → i < width → place (address + i) ≡ place address + i
  pub aligned : (address width : ℕ) → IsWidth width → address % width ≡ 0 → place address % width ≡ 0
  pub inside : (a : ℕ) → a < shape.size → place a < places.size
  pub past : (a : ℕ) → shape.size ≤ a → places.size ≤ place a
  pub line : (a : ℕ) → line_of places (place a) ≡ line_of shape a
  pub cores : places.cores ≡ shape.cores
  pub buffer_lines : places.machine.buffer_lines ≡ shape.machine.buffer_lines
  -- each place is that of a byte or of none
  pub found : (p : ℕ) → ((a : ℕ) × (place a ≡ p)) ⊎ ((a : ℕ) → place a ≡ p → ⊥)

-- cores own places of bytes alone
pub record OwnsBytes (place : ℕ → ℕ) (v : StoreView) : Type 0 where
  pub none : (k p : ℕ) → ((a : ℕ) → place a ≡ p → ⊥) → v.own k p ≡ false
