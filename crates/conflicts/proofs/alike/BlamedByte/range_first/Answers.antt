use Rattle.std.proofs.Common.{◌-◌, ◌<◌, not, ℕ, Bool, sym, ap, ◌∙◌, arith}
use Rattle.conflicts.specs.Blame.{after, is_alike}
use Rattle.conflicts.specs.Violated.{violation_in}
use Rattle.conflicts.proofs.Backwards.{last_at, last_none, passed_more}
use Rattle.conflicts.proofs.alike.BlamedByte.range_first.Goals as goal

pub loop-i-init : goal.loop-i-init
loop-i-init c k from below = absurd (omega (arith, from, below))

pub returns-then-not-is_alike-clause-first : goal.returns-then-not-is_alike-clause-first
returns-then-not-is_alike-clause-first c =
    let fails : ℕ → Bool = λ k. not (is_alike c.args.self.now.scene.flat.now.image c.args.self.now.scene.entries.now (violation_in c.args.self.now.scene.flat.now c.args.self.now.violated) c.args.self.now.load c.args.self.now.store c.args.self.now.byte k) in
    let place = c.args.self.now.byte - 1 - c.loop-i.i in
    let within : c.loop-i.i < c.args.self.now.byte = omega (arith, c.loop-i-test.true) in
    sym (ap after (last_at c.args.self.now.byte fails place (omega (arith, within)) (ap not (sym c.is_alike.ensures ∙ c.if-not-is_alike.true)) (λ k after below. c.loop-i.invariant k (omega (arith, after, within)) below)))

pub loop-i-preserved : goal.loop-i-preserved
loop-i-preserved c =
    let fails : ℕ → Bool = λ k. not (is_alike c.args.self.now.scene.flat.now.image c.args.self.now.scene.entries.now (violation_in c.args.self.now.scene.flat.now c.args.self.now.violated) c.args.self.now.load c.args.self.now.store c.args.self.now.byte k) in
    let within : c.loop-i.i < c.args.self.now.byte = omega (arith, c.loop-i-test.true) in
    passed_more fails c.args.self.now.byte c.loop-i.i (c.args.self.now.byte - 1 - c.loop-i.i) within (omega (arith, within)) c.loop-i.invariant (ap not (sym c.is_alike.ensures ∙ c.if-not-is_alike.false))

pub returns-clause-first : goal.returns-clause-first
returns-clause-first c =
    let fails : ℕ → Bool = λ k. not (is_alike c.args.self.now.scene.flat.now.image c.args.self.now.scene.entries.now (violation_in c.args.self.now.scene.flat.now c.args.self.now.violated) c.args.self.now.load c.args.self.now.store c.args.self.now.byte k) in
    sym (ap after (last_none c.args.self.now.byte fails (λ k below. c.loop-i.invariant k (omega (arith, c.loop-i-test.false)) below)))
