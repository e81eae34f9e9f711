use Rattle.conflict_text.proofs.Answering.{of_first, of_rest}
use Rattle.conflict_text.proofs.command.tell.Goals as goal

pub returns-then-not-write_bytes : goal.returns-then-not-write_bytes
returns-then-not-write_bytes g c =
    of_first (g.W.Write.contents c.args.writer.now) (g.W.Write.contents c.write_bytes.new.writer) c.args.told.now c.args.rest.now c.write_bytes.ensures.prefix

pub returns-then-not-write_whole : goal.returns-then-not-write_whole
returns-then-not-write_whole g c =
    of_rest (g.W.Write.contents c.args.writer.now) (g.W.Write.contents c.write_bytes.new.writer) (g.W.Write.contents c.write_whole.new.writer) c.args.told.now c.args.rest.now
    c.if-not-write_bytes.ensures.whole c.write_whole.ensures.prefix
