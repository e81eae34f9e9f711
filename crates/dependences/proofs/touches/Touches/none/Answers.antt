use Rattle.std.proofs.Common.{refl, ap, ◌∙◌}
use Rattle.spec_history.specs.Conflict.{line_number}
use Rattle.dependences.proofs.Buffering.{kept_first}
use Rattle.dependences.proofs.touches.Touches.none.Goals as goal

pub returns : goal.returns
returns c = λ cores.
    let stored = c.in_ok-stored.ensures in
    let counts = c.in_ok-counts.ensures in
    kept_first c.args.image.now cores _ c.in_ok-two.ensures.lines (stored.long ∙ (c.line_of-count.ensures.line ∙ ap (line_number c.args.image.now) c.size.ensures.size))
    (counts.long ∙ c.epochs-epochs.ensures.epochs) c.in_ok-two.ensures.last stored.none counts.none refl
