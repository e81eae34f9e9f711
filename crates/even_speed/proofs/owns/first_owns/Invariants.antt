use Rattle.std.proofs.Common.{◌≡◌, ℕ, length}
use Rattle.even_speed.specs.Owns.{none_own, own_at}
use Rattle.even_speed.proofs.owns.first_owns.Given as goal

abbrev pub invariant-loop : goal.invariant-loop
invariant-loop l = record {
  count : length l.owns.items ≡ l.counter;
  none : (k : ℕ) → own_at l.owns.items k ≡ none_own k;
}
