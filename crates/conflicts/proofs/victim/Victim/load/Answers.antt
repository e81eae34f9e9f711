use Rattle.std.proofs.Common.{◌≤◌, ℕ, Bool, is_some, sym, ap, ◌∙◌, arith}
use Rattle.conflicts.specs.Blame.{blamed_byte}
use Rattle.conflicts.specs.Violated.{violation_in}
use Rattle.spec_history.proofs.Searches.Tests.{first_at, first_none}
use Rattle.conflicts.proofs.Blaming.{unread_until}
use Rattle.conflicts.proofs.victim.Victim.load.Goals as goal

pub loop-load-init : goal.loop-load-init
loop-load-init c k before = unread_until c.args.self.now.scene.flat.now.image c.args.self.now.scene.entries.now (violation_in c.args.self.now.scene.flat.now c.args.self.now.violated) c.args.self.now.start k c.args.self.now.began before

pub returns-then-is_some : goal.returns-then-is_some
returns-then-is_some c =
    let test : ℕ → Bool = λ j. is_some (blamed_byte c.args.self.now.scene.flat.now.image c.args.self.now.scene.entries.now (violation_in c.args.self.now.scene.flat.now c.args.self.now.violated) j) in
    sym (first_at c.args.self.now.violated.place test c.loop-load.load c.loop-load-test.true (ap is_some (sym c.byte_at.ensures.byte) ∙ (sym c.is_some.ensures ∙ c.if-is_some.true)) c.loop-load.invariant)

pub returns : goal.returns
returns c =
    let test : ℕ → Bool = λ j. is_some (blamed_byte c.args.self.now.scene.flat.now.image c.args.self.now.scene.entries.now (violation_in c.args.self.now.scene.flat.now c.args.self.now.violated) j) in
    let all : c.args.self.now.violated.place ≤ c.loop-load.load = c.loop-load-test.false in
    sym (first_none c.args.self.now.violated.place test (λ k below. c.loop-load.invariant k (omega (arith, below, all))))
