use Rattle.turn_steps.proofs.Written.{none_kept}
use Rattle.turn_steps.proofs.writing.write_long.Goals as goal

pub returns-clause-written : goal.returns-clause-written
returns-clause-written g c = λ first told so.
    none_kept c.args.text.now.items c.as_slice.result.now c.clear.new.self.items told c.args.whole.now c.write_more.new.whole first (g.W.Write.contents c.args.writer.now)
    (g.W.Write.contents c.write_more.new.writer) c.as_slice.ensures.value c.clear.ensures.items (c.write_more.ensures first) so
