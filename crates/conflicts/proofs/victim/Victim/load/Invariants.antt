use Rattle.std.proofs.Common.{◌≡◌, ◌<◌, ℕ, false, is_some}
use Rattle.conflicts.specs.Blame.{blamed_byte}
use Rattle.conflicts.specs.Violated.{violation_in}
use Rattle.conflicts.proofs.victim.Victim.load.Given as goal

-- none so far is to be blamed
abbrev pub invariant-loop-load : goal.invariant-loop-load
invariant-loop-load l = (k : ℕ) → k < l.load → is_some (blamed_byte l.self.scene.flat.now.image l.self.scene.entries.now (violation_in l.self.scene.flat.now l.self.violated) k) ≡ false
