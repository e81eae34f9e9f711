use Rattle.std.proofs.Common.{not}
use Rattle.conflicts.specs.Blame.{is_alike}
use Rattle.conflicts.specs.Violated.{violation_in}
use Rattle.conflicts.proofs.Backwards.{Passed}
use Rattle.conflicts.proofs.alike.BlamedByte.range_first.Given as goal

-- all so far met alike
abbrev pub invariant-loop-i : goal.invariant-loop-i
invariant-loop-i l = Passed (λ k. not (is_alike l.self.scene.flat.now.image l.self.scene.entries.now (violation_in l.self.scene.flat.now l.self.violated) l.self.load l.self.store l.self.byte k)) l.self.byte l.i
