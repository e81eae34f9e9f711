use Rattle.std.proofs.Common.{◌≡◌, ◌<◌, ℕ, false}
use Rattle.spec_history.specs.Refusal.{can_be_hurt}
use Rattle.spec_history.specs.Machine.{cores_of}
use Rattle.spec_history.proofs.machine.Machine.can_hurt.Given as goal

-- none so far can be hurt
abbrev pub invariant-loop-core : goal.invariant-loop-core
invariant-loop-core l = (k : ℕ) → k < l.core-index → can_be_hurt l.epoch (cores_of l.core-items k) ≡ false
