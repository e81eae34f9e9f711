use Rattle.turn_steps.proofs.Written.{more_written, no_more_written}
use Rattle.turn_steps.proofs.writing.write_more.Goals as goal

pub returns-then-not-whole : goal.returns-then-not-whole
returns-then-not-whole g c = λ first text so.
    no_more_written first first (g.W.Write.contents c.args.writer.now) text c.args.bytes.now c.args.whole.now c.if-not-whole.true so

pub returns : goal.returns
returns g c = λ first text so.
    more_written first (g.W.Write.contents c.args.writer.now) (g.W.Write.contents c.write_bytes.new.writer) text c.args.bytes.now c.args.whole.now c.write_bytes.result
    c.if-not-whole.false c.write_bytes.ensures.whole c.write_bytes.ensures.prefix so
