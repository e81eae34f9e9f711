use Rattle.std.proofs.Common.{◌≡◌, ℕ, length}
use Rattle.even_speed.specs.Clocks.{clock_at, first_clock}
use Rattle.even_speed.proofs.clocks.first_clocks.Given as goal

abbrev pub invariant-loop : goal.invariant-loop
invariant-loop l = record {
  count : length l.clocks.items ≡ l.counter;
  first : (k : ℕ) → clock_at l.clocks.items k ≡ first_clock;
}
