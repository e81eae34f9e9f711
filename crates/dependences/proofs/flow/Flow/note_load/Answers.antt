use Rattle.dependences.proofs.WholeWords.{kept_from}
use Rattle.dependences.proofs.flow.Flow.note_load.Goals as goal

pub returns-clause-kept : goal.returns-clause-kept
returns-clause-kept g c room =
    kept_from g.F.Found.keeps c.args.self.now c.is_done.new.self c.note_others.new.self c.args.pc c.args.done c.args.addr c.args.width (c.is_done.ensures.same c.if-is_done.false)
    (c.note_others.ensures.kept room)
