use Rattle.std.proofs.Common.{map, sym}
use Rattle.trace_commands.specs.Stores.{or_both}
use Rattle.replay_command.proofs.Asking.{few_asked}
use Rattle.depends.proofs.Answering.{depends_answers, refused_answers}
use Rattle.depends.proofs.work.work.Goals as goal

pub returns-in-Some : goal.returns-in-Some
returns-in-Some g c =
    depends_answers (map g.S.AsStr.text c.args.words.now) (record { cores = c.in-Some.cores; stores = or_both (map g.S.AsStr.text c.in-Some.stores.now) }) c.args.room
    (record { old = g.R.Read.remaining c.args.reader.now; new = g.R.Read.remaining c.do_asked.new.reader })
    (record { old = g.W.Write.contents c.args.writer.now; new = g.W.Write.contents c.do_asked.new.writer })
    (record { old = g.E.Write.contents c.args.errors.now; new = g.E.Write.contents c.do_asked.new.errors })
    c.do_asked.result (sym c.in-Some.ensures.asked) c.do_asked.ensures.taken c.do_asked.ensures.outcome

pub returns-in-None : goal.returns-in-None
returns-in-None g c =
    refused_answers (map g.S.AsStr.text c.args.words.now) c.args.room (g.R.Read.remaining c.args.reader.now) (g.W.Write.contents c.args.writer.now)
    (record { old = g.E.Write.contents c.args.errors.now; new = g.E.Write.contents c.conclude.new.errors })
    c.conclude.result (sym c.in-None.ensures.none) c.conclude.ensures.status c.conclude.ensures.line

pub do_asked-requires : goal.do_asked-requires
do_asked-requires g c = record { cores = few_asked (map g.S.AsStr.text c.args.words.now) _ c.in-Some.ensures.asked }
