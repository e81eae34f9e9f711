use Rattle.std.proofs.Common.{◌<◌, refl, sym, subst, ◌∙◌}
use Rattle.never_or_shown.proofs.Running.{comes, on_by}
use Rattle.never_or_shown.proofs.drive.run.Goals as goal

pub turns-preserved : goal.turns-preserved
turns-preserved c =
    let was = c.turns.invariant in
    let same = c.in_ok-answer.ensures.same in
    let turn = c.in_ok-answer.ensures.turned in record {
      drive = turn.drive;
      same = record { image = same.image ∙ was.same.image; cores = same.cores ∙ was.same.cores; room = same.room ∙ was.same.room };
      core = subst (λ n. c.args.core < n) (sym same.cores) was.core;
      on = λ s epoch replays quiet runs.
          on_by c.turns.drive.book.image c.turns.drive c.turn.new.drive c.args.core c.in_ok-answer.answer refl turn s epoch (was.on s epoch replays quiet runs) c.in-Go.field-0 c.in-Go.is;
    }

pub returns-in_default : goal.returns-in_default
returns-in_default c =
    let was = c.turns.invariant in
    let same = c.in_ok-answer.ensures.same in
    let turn = c.in_ok-answer.ensures.turned in record {
      ran = record {
        drive = turn.drive;
        stands = c.in_default.not-Go;
        after = λ s epoch replays quiet runs.
            comes c.args.drive.now.book.image c.turns.drive c.turn.new.drive c.args.core c.in_ok-answer.answer was.same.image turn s epoch (was.on s epoch replays quiet runs);
      };
      same = record { image = same.image ∙ was.same.image; cores = same.cores ∙ was.same.cores; room = same.room ∙ was.same.room };
    }
