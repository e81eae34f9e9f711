use Rattle.std.proofs.Common.{map, sym}
use Rattle.trace_commands.specs.Stores.{or_both}
use Rattle.replay_command.specs.Addresses.{addresses_of}
use Rattle.gain.proofs.Answering.{gain_answers, refused_answers}
use Rattle.gain.proofs.work.work.Goals as goal

pub returns-in-Some : goal.returns-in-Some
returns-in-Some g c =
    gain_answers (map g.S.AsStr.text c.args.words.now) c.in-Some.study (addresses_of (map g.S.AsStr.text c.in-Some.waits.now)) (or_both (map g.S.AsStr.text c.in-Some.stores.now)) c.args.room
    (record { old = g.R.Read.remaining c.args.reader.now; new = g.R.Read.remaining c.gain_over.new.reader })
    (record { old = g.W.Write.contents c.args.writer.now; new = g.W.Write.contents c.gain_over.new.writer })
    (record { old = g.E.Write.contents c.args.errors.now; new = g.E.Write.contents c.gain_over.new.errors })
    c.gain_over.result c.in-Some.ensures.asked c.in-Some.ensures.room c.gain_over.ensures.taken c.gain_over.ensures.outcome

pub returns-in-None : goal.returns-in-None
returns-in-None g c =
    refused_answers (map g.S.AsStr.text c.args.words.now) c.args.room (g.R.Read.remaining c.args.reader.now) (g.W.Write.contents c.args.writer.now)
    (record { old = g.E.Write.contents c.args.errors.now; new = g.E.Write.contents c.conclude.new.errors })
    c.conclude.result (sym c.in-None.ensures.none) c.conclude.ensures.status c.conclude.ensures.line
