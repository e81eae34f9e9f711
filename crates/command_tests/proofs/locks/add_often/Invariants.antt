use Rattle.std.proofs.Common.{◌≡◌}
use Rattle.command_tests.proofs.locks.add_often.Given as goal

-- the pass stays one of its lock, and covers what it did
abbrev pub invariant-loop : goal.invariant-loop
invariant-loop g l = (l.pass.lock ≡ l.initial.pass.lock) × (l.pass.lo ≡ l.initial.pass.lo) × (l.pass.hi ≡ l.initial.pass.hi)
