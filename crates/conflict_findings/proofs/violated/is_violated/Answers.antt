use Rattle.std.proofs.Common.{◌≡◌, ◌+◌, ◌-◌, suc, zero, sym, ap, ◌∙◌, arith}
use Rattle.conflict_findings.specs.Violated.{is_violated}
use Rattle.conflict_findings.proofs.Seeking.{begun_there, not_there, nothing_before, violated_there}
use Rattle.conflict_findings.proofs.violated.is_violated.Goals as goal

pub returns-then-begins : goal.returns-then-begins
returns-then-begins c =
    let entries = c.args.entries.now in
    let r = c.args.runner in
    let place = c.args.before - 1 - c.loop-i.i in
    let here : c.args.before - c.loop-i.i ≡ suc place = omega (arith, c.loop-i-test.true) in
    sym (c.loop-i.invariant ∙ (ap (is_violated entries r.core r.epoch) here ∙ begun_there entries r.core r.epoch place (sym c.begins.ensures ∙ c.if-begins.true)))

pub returns-then-violates : goal.returns-then-violates
returns-then-violates c =
    let entries = c.args.entries.now in
    let r = c.args.runner in
    let place = c.args.before - 1 - c.loop-i.i in
    let here : c.args.before - c.loop-i.i ≡ suc place = omega (arith, c.loop-i-test.true) in
    sym (c.loop-i.invariant ∙ (ap (is_violated entries r.core r.epoch) here
    ∙ violated_there entries r.core r.epoch place (sym c.begins.ensures ∙ c.if-begins.false) (sym c.violates.ensures ∙ c.if-violates.true)))

pub loop-i-preserved : goal.loop-i-preserved
loop-i-preserved c =
    let entries = c.args.entries.now in
    let r = c.args.runner in
    let place = c.args.before - 1 - c.loop-i.i in
    let here : c.args.before - c.loop-i.i ≡ suc place = omega (arith, c.loop-i-test.true) in
    let next : place ≡ c.args.before - (c.loop-i.i + 1) = omega arith in
    c.loop-i.invariant ∙ (ap (is_violated entries r.core r.epoch) here
    ∙ (not_there entries r.core r.epoch place (sym c.begins.ensures ∙ c.if-begins.false) (sym c.violates.ensures ∙ c.if-violates.false)
    ∙ ap (is_violated entries r.core r.epoch) next))

pub returns : goal.returns
returns c =
    let entries = c.args.entries.now in
    let r = c.args.runner in
    let none : c.args.before - c.loop-i.i ≡ zero = omega (arith, c.loop-i-test.false) in
    sym (c.loop-i.invariant ∙ (ap (is_violated entries r.core r.epoch) none ∙ nothing_before entries r.core r.epoch))
