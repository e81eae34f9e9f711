use Rattle.std.proofs.Common.{ℕ, ◌<◌}
use Rattle.spec_bus.specs.Cached.{store_view}
use Rattle.machine_tests.specs.Checked.{IsNotBefore}
use Rattle.machine_tests.proofs.caches.checks.may_publish.Given as goal

abbrev pub invariant-loop-k : goal.invariant-loop-k
invariant-loop-k l = (j : ℕ) → j < l.k → IsNotBefore (store_view l.bus) l.attempt.epoch j
