use Rattle.std.proofs.Common.{◌<◌, ◌+◌, sym, subst, ◌∙◌, arith}
use Rattle.rv32_image.specs.Image.{LoadedImage}
use Rattle.never_or_shown.proofs.Staging.{starting_more}
use Rattle.never_or_shown.proofs.ahead.start_window.Goals as goal

pub loop-core-preserved : goal.loop-core-preserved
loop-core-preserved c =
    let was = c.loop-core.invariant in
    let one = c.in_ok-turn.ensures.same in
    let low = c.loop-core-test.true in record {
      drive = c.in_ok-turn.ensures.turned.drive;
      same = record { image = one.image ∙ was.same.image; cores = one.cores ∙ was.same.cores; room = one.room ∙ was.same.room };
      started = λ first ready left.
          starting_more c.loop-core.drive c.turn.new.drive first c.loop-core.core c.in_ok-turn.field-0 (was.started first ready left)
          (subst (λ (i : LoadedImage). first + c.loop-core.core < i.epochs) (sym was.same.image) (omega (arith, low, left))) c.in_ok-turn.ensures.turned;
    }
