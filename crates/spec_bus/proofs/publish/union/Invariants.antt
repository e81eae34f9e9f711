use Rattle.std.proofs.Common.{◌≡◌, ℕ, ◌||◌, ◌&&◌, nat_lt}
use Rattle.violations.specs.CoreSet.{is_in}
use Rattle.spec_bus.proofs.publish.union.Given as goal

abbrev pub invariant-loop-k : goal.invariant-loop-k
invariant-loop-k l = (j : ℕ) → is_in l.both j ≡ (is_in l.fn.first j || (nat_lt j l.k && is_in l.second j))
