use Rattle.std.proofs.Common.{◌≡◌, subst, ◌∙◌, arith}
use Rattle.never_or_shown.specs.Windows.{IsAhead}
use Rattle.never_or_shown.proofs.Staging.{ahead_next, all_passed, none_meet}
use Rattle.never_or_shown.proofs.ahead.commit_window.Goals as goal

pub returns-in_default : goal.returns-in_default
returns-in_default c =
    let image = c.args.drive.now.book.image in
    let was = c.loop-core.invariant in
    let one = c.in_ok-run.ensures.same in
    let low = c.loop-core-test.true in record {
      committed = λ first ahead within.
          none_meet image c.loop-core.drive c.run.new.drive first c.args.last c.loop-core.core (was.ahead first ahead) low was.same.image c.in_ok-run.field-0 c.in_ok-run.ensures.ran
          c.in_default.not-Left within;
      same = record { image = one.image ∙ was.same.image; cores = one.cores ∙ was.same.cores; room = one.room ∙ was.same.room };
    }

pub loop-core-preserved : goal.loop-core-preserved
loop-core-preserved c =
    let image = c.args.drive.now.book.image in
    let was = c.loop-core.invariant in
    let one = c.in_ok-run.ensures.same in
    let low = c.loop-core-test.true in record {
      drive = c.in_ok-run.ensures.ran.drive;
      same = record { image = one.image ∙ was.same.image; cores = one.cores ∙ was.same.cores; room = one.room ∙ was.same.room };
      ahead = λ first ahead.
          ahead_next image c.loop-core.drive c.run.new.drive first c.args.last c.loop-core.core (was.ahead first ahead) low was.same.image c.in_ok-run.field-0 c.in_ok-run.ensures.ran
          c.in-Left.is;
    }

pub returns-clause-committed : goal.returns-clause-committed
returns-clause-committed c = λ first ahead within.
    let image = c.args.drive.now.book.image in
    let all : c.loop-core.core ≡ c.args.last = omega (arith, c.loop-core-test.false, c.loop-core.auto.core-end) in
    all_passed image c.loop-core.drive.book first c.args.last (subst (λ n. IsAhead image c.loop-core.drive.book first c.args.last n) all (c.loop-core.invariant.ahead first ahead))
