use Rattle.std.proofs.Common.{◌≡◌, ◌<◌, ℕ, false}
use Rattle.conflicts.specs.Blame.{is_read_at}
use Rattle.conflicts.specs.Violated.{violation_in}
use Rattle.conflicts.proofs.victim.Victim.byte_at.Given as goal

-- none so far is read
abbrev pub invariant-loop-addr : goal.invariant-loop-addr
invariant-loop-addr l = (a : ℕ) → a < l.addr → a < l.self.scene.flat.now.image.size → is_read_at l.self.scene.flat.now.image l.self.scene.entries.now (violation_in l.self.scene.flat.now l.self.violated) l.load a ≡ false
