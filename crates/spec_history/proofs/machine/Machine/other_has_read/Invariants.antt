use Rattle.std.proofs.Common.{◌≡◌, ◌<◌, ℕ, false, not, ◌&&◌, ◌==◌}
use Rattle.spec_history.specs.Refusal.{has_read}
use Rattle.spec_history.specs.Machine.{cores_of}
use Rattle.spec_history.proofs.machine.Machine.other_has_read.Given as goal

-- no other one so far has read it
abbrev pub invariant-loop-k : goal.invariant-loop-k
invariant-loop-k l = (j : ℕ) → j < l.k → (not (j == l.by) && has_read (cores_of l.self.cores.items j) l.addr) ≡ false
