use Rattle.std.proofs.Common.{◌≡◌, ◌≢◌, ◌<◌, ℕ, true, Some}
use Rattle.violations.specs.declared.attempt.Attempt.{Attempt}
use Rattle.spec_bus.specs.Cached.{store_view}
use Rattle.machine_tests.proofs.buses.check_begin.Given as goal

abbrev pub invariant-loop-k : goal.invariant-loop-k
invariant-loop-k g l = record {
  apart : (j : ℕ) (x : Attempt) → j < l.k → (store_view l.bus).attempt j ≡ Some x → x.epoch ≢ l.epoch;
  straight : (j : ℕ) (x : Attempt) → j < l.k → (store_view l.bus).attempt j ≡ Some x → x.straight ≡ true → x.epoch < l.epoch;
}
