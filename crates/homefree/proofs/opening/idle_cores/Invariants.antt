use Rattle.std.proofs.Common.{◌≡◌, ℕ, length, None}
use Rattle.homefree.specs.Kept.{running_at}
use Rattle.homefree.proofs.opening.idle_cores.Given as goal

abbrev pub invariant-loop : goal.invariant-loop
invariant-loop l = record {
  len : length l.running.items ≡ l.counter;
  idle : (k : ℕ) → running_at l.running.items k ≡ None;
}
