use Rattle.std.proofs.Common.{◌≡◌, ℕ, ◌<◌, ◌≤◌, length}
use Rattle.even_speed.specs.Clocks.{clock_at, woken}
use Rattle.even_speed.proofs.clocks.wake_all.Given as goal

abbrev pub invariant-loop-core : goal.invariant-loop-core
invariant-loop-core l = record {
  count : length l.clocks.items ≡ length l.initial.clocks.items;
  woken : (k : ℕ) → k < l.core → clock_at l.clocks.items k ≡ woken l.at (clock_at l.initial.clocks.items k);
  same : (k : ℕ) → l.core ≤ k → clock_at l.clocks.items k ≡ clock_at l.initial.clocks.items k;
}
