use Rattle.std.proofs.Common.{◌≡◌, ◌<◌, ℕ, false}
use Rattle.spec_history.specs.Refusal.{is_at}
use Rattle.spec_history.specs.Machine.{cores_of}
use Rattle.spec_history.proofs.machine.Machine.is_run.Given as goal

-- none so far runs it
abbrev pub invariant-loop-core : goal.invariant-loop-core
invariant-loop-core l = (k : ℕ) → k < l.core-index → is_at l.epoch (cores_of l.core-items k) ≡ false
