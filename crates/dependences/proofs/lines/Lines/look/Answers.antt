use Rattle.std.proofs.Common.{◌≡◌, ◌≤◌, sym, subst, arith}
use Rattle.dependences.specs.KeptLines.{other_before}
use Rattle.dependences.proofs.Words.{meets_word, written_word}
use Rattle.dependences.proofs.lines.Lines.look.Goals as goal

pub returns-then-other_before-first-clause-none : goal.returns-then-other_before-first-clause-none
returns-then-other_before-first-clause-none c none =
    rw (← c.self.view_is)
    (λ m. let written = written_word c.args._image.now c.requires.limits c.args.addr c.args.width c.args.line c.requires.access.wide c.requires.access.aligned c.requires.line
    _ c.args.epoch c.args.first m in omega (arith, written, c.other_before.ensures, c.if-other_before-first.true))

pub returns-then-not-has-clause-found : goal.returns-then-not-has-clause-found
returns-then-not-has-clause-found c found =
    rw (← c.self.view_is)
    (meets_word c.args._image.now c.requires.limits c.args.addr c.args.width c.args.line c.requires.access.wide c.requires.access.aligned c.requires.line
    _ c.args.epoch c.args.first c.loop-i.i c.loop-i-test.true
    (c.has.ensures.not c.if-not-has.true)
    (omega (arith, c.other_before.ensures, c.if-other_before-first.false)))

pub returns-then-other_before-first-clause-quiet : goal.returns-then-other_before-first-clause-quiet
returns-then-other_before-first-clause-quiet c l is =
    let same : l ≡ c.args.line = omega (arith, is) in
    rw (← c.self.view_is) (same, subst (λ n. other_before c.self.inside.two c.args.epoch n ≤ c.args.first) (sym same) (omega (arith, c.other_before.ensures, c.if-other_before-first.true)))
