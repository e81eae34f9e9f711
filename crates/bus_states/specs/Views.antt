-- What a store of speculative epochs shows of a bus, byte by byte.
use Rattle.std.specs.Prelude.{◌≡◌, ◌≢◌, ◌<◌, ℕ, true, Some}
use Rattle.spec_states.specs.Mask.{has}
use Rattle.violations.specs.declared.attempt.Attempt.{Attempt}
use Rattle.violations.specs.View.{StoreView}
use Rattle.bus_states.specs.Bus.{Bus, committed, sees, line_of, offset_of}

-- committed is each byte of its committed line; a core sees its modified bytes and the committed ones beside them, owns the
-- bytes that it has modified, and guards each byte of a line that it has speculatively loaded
abbrev pub view_of : Bus → StoreView
view_of bus =
    record {
      shape = bus.shape;
      cached = true;
      committed = λ a. committed bus (line_of bus.line_length a) (offset_of bus.line_length a);
      attempt = λ k. (bus.core k).attempt;
      sees = λ k a. sees bus k (line_of bus.line_length a) (offset_of bus.line_length a);
      own = λ k a. has ((bus.core k).copy (line_of bus.line_length a)).marks.bytes (offset_of bus.line_length a);
      guarded = λ k a. ((bus.core k).copy (line_of bus.line_length a)).marks.loaded;
    }

-- the attempts of the cores: no two are of one epoch, and the epoch of a straight one is below all others
pub record AreOrdered (bus : Bus) : Type 0 where
  pub apart : (j k : ℕ) (x y : Attempt) → (bus.core j).attempt ≡ Some x → (bus.core k).attempt ≡ Some y → x.epoch ≡ y.epoch → j ≡ k
  pub straight_first : (j k : ℕ) (x y : Attempt) → (bus.core j).attempt ≡ Some x → x.straight ≡ true
      → (bus.core k).attempt ≡ Some y → k ≢ j → x.epoch < y.epoch
