use Rattle.std.proofs.Common.{◌∙◌}
use Rattle.homefree.proofs.Books.Drives.{turned_at}
use Rattle.homefree.specs.Held.{harts_of}
use Rattle.even_speed.proofs.Coming.{leads}
use Rattle.even_speed.proofs.Alone.{alone_in, never_waits, no_restarts_in, the_first}
use Rattle.even_speed.proofs.run.step.Goals as goal

pub returns-clause-alone : goal.returns-clause-alone
returns-clause-alone g c one =
    let view = g.S.EpochStore.view in (
      no_restarts_in view c.step-answer.new.book c.look-2.ensures (c.step-answer.ensures.grows.cores ∙ one),
      never_waits _ c.step-answer.result (the_first c.args.core c.args.book.now.cores c.requires.core one) (alone_in view c.args.book.now c.look.ensures one)
          (c.step-answer.ensures.again c.look.ensures.state c.look.ensures.replays),
    )

pub returns-clause-leads : goal.returns-clause-leads
returns-clause-leads g c =
    leads g.S.EpochStore.view g.S.EpochStore.waits c.args.book.now c.step-answer.new.book c.args.shares.now c.step-answer.new.shares c.args.core
    (harts_of c.args.held.now c.args.core) c.step-answer.result c.look.ensures c.look-2.ensures (turned_at c.step-answer.ensures.turned c.look.ensures.state c.look.ensures.replays)
