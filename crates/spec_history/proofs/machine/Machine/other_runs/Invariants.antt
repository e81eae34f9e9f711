use Rattle.std.proofs.Common.{◌≡◌, ◌<◌, ℕ, false, not, is_some, ◌&&◌, ◌==◌}
use Rattle.spec_history.specs.Machine.{cores_of}
use Rattle.spec_history.proofs.machine.Machine.other_runs.Given as goal

-- no other one so far runs
abbrev pub invariant-loop-k : goal.invariant-loop-k
invariant-loop-k l = (j : ℕ) → j < l.k → (not (j == l.by) && is_some (cores_of l.self.cores.items j)) ≡ false
