use Rattle.std.proofs.Common.{◌<◌, sym, subst, ◌∙◌, arith}
use Rattle.rv32_image.specs.Image.{LoadedImage}
use Rattle.never_or_shown.proofs.Staging.{ends_before, ready_next}
use Rattle.never_or_shown.proofs.ahead.commit_before.Goals as goal

pub returns-in_default : goal.returns-in_default
returns-in_default c =
    let image = c.args.drive.now.book.image in
    let was = c.loop-epoch.invariant in
    let one = c.in_ok-turn.ensures.same in
    let two = c.in_ok-run.ensures.same in
    let low = c.loop-epoch-test.true in
    let within = c.requires.within in
    let left = subst (λ (i : LoadedImage). c.loop-epoch._epoch < i.epochs) (sym was.same.image) (omega (arith, low, within)) in record {
      committed = ends_before image c.loop-epoch.drive c.turn.new.drive c.run.new.drive c.loop-epoch._epoch was.ready left c.in_ok-turn.field-0 c.in_ok-run.field-0 c.in_ok-turn.ensures.turned
          (one.image ∙ was.same.image) c.in_ok-run.ensures.ran c.args.first low within c.in_default.not-Left;
      same = record { image = two.image ∙ (one.image ∙ was.same.image); cores = two.cores ∙ (one.cores ∙ was.same.cores); room = two.room ∙ (one.room ∙ was.same.room) };
    }

pub loop-epoch-preserved : goal.loop-epoch-preserved
loop-epoch-preserved c =
    let image = c.args.drive.now.book.image in
    let was = c.loop-epoch.invariant in
    let one = c.in_ok-turn.ensures.same in
    let two = c.in_ok-run.ensures.same in
    let low = c.loop-epoch-test.true in
    let within = c.requires.within in
    let left = subst (λ (i : LoadedImage). c.loop-epoch._epoch < i.epochs) (sym was.same.image) (omega (arith, low, within)) in record {
      drive = c.in_ok-run.ensures.ran.drive;
      same = record { image = two.image ∙ (one.image ∙ was.same.image); cores = two.cores ∙ (one.cores ∙ was.same.cores); room = two.room ∙ (one.room ∙ was.same.room) };
      ready = ready_next image c.loop-epoch.drive c.turn.new.drive c.run.new.drive c.loop-epoch._epoch was.ready left c.in_ok-turn.field-0 c.in_ok-run.field-0 c.in_ok-turn.ensures.turned
          (one.image ∙ was.same.image) c.in_ok-run.ensures.ran c.in-Left.is;
    }
