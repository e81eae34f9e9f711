use Rattle.std.proofs.Common.{◌≡◌, ◌<◌, ℕ, false}
use Rattle.spec_history.specs.Refusal.{is_at}
use Rattle.spec_history.specs.View as view
use Rattle.conflicts.proofs.causes.core_at.Given as goal

-- none so far runs it
abbrev pub invariant-loop-core : goal.invariant-loop-core
invariant-loop-core l = (k : ℕ) → k < l.core → is_at l.epoch ((view.state_in l.flat).cores k) ≡ false
