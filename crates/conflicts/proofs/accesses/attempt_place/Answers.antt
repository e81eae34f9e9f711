use Rattle.std.proofs.Common.{◌-◌, ◌<◌, ℕ, Bool, sym, ◌∙◌, arith}
use Rattle.conflicts.specs.Attempts.{core_does, is_begin}
use Rattle.conflicts.proofs.Backwards.{last_at, last_none, passed_more}
use Rattle.conflicts.proofs.accesses.attempt_place.Goals as goal

pub loop-i-init : goal.loop-i-init
loop-i-init c k from below = absurd (omega (arith, from, below))

pub returns-then-begins : goal.returns-then-begins
returns-then-begins c =
    let does : ℕ → Bool = λ k. core_does c.args.entries.now c.args.core k is_begin in
    let place = c.args.before - 1 - c.loop-i.i in
    let within : c.loop-i.i < c.args.before = omega (arith, c.loop-i-test.true) in
    sym (last_at c.args.before does place (omega (arith, within)) (sym c.begins.ensures ∙ c.if-begins.true) (λ k after below. c.loop-i.invariant k (omega (arith, after, within)) below))

pub loop-i-preserved : goal.loop-i-preserved
loop-i-preserved c =
    let within : c.loop-i.i < c.args.before = omega (arith, c.loop-i-test.true) in
    passed_more (λ k. core_does c.args.entries.now c.args.core k is_begin) c.args.before c.loop-i.i (c.args.before - 1 - c.loop-i.i) within (omega (arith, within))
    c.loop-i.invariant (sym c.begins.ensures ∙ c.if-begins.false)

pub returns : goal.returns
returns c =
    sym (last_none c.args.before (λ k. core_does c.args.entries.now c.args.core k is_begin) (λ k below. c.loop-i.invariant k (omega (arith, c.loop-i-test.false)) below))
