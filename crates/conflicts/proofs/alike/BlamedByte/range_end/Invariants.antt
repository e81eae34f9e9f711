use Rattle.std.proofs.Common.{◌≡◌, ◌<◌, ◌&&◌, not, nat_lt, ℕ, false}
use Rattle.conflicts.specs.Blame.{is_alike}
use Rattle.conflicts.specs.Violated.{violation_in}
use Rattle.conflicts.proofs.alike.BlamedByte.range_end.Given as goal

-- all so far met alike
abbrev pub invariant-loop-addr : goal.invariant-loop-addr
invariant-loop-addr l =
    (k : ℕ) → k < l.addr → (nat_lt l.self.byte k && not (is_alike l.self.scene.flat.now.image l.self.scene.entries.now (violation_in l.self.scene.flat.now l.self.violated) l.self.load l.self.store l.self.byte k)) ≡ false
