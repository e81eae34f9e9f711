use Rattle.std.proofs.Common.{map, sym, ◌∙◌}
use Rattle.conflict_text.proofs.Works.{why_answers, refused_answers}
use Rattle.conflict_text.proofs.program.work.Goals as goal

pub returns-in-Some : goal.returns-in-Some
returns-in-Some g c =
    why_answers (map g.S.AsStr.text c.args.words.now) c.in-Some.asked
    (record { old = g.R.Read.remaining c.args.reader.now; new = g.R.Read.remaining c.do_why.new.reader })
    (record { old = g.W.Write.contents c.args.writer.now; new = g.W.Write.contents c.do_why.new.writer })
    (record { old = g.E.Write.contents c.args.errors.now; new = g.E.Write.contents c.do_why.new.errors })
    c.do_why.result (sym c.asked_in.ensures ∙ c.in-Some.is) c.do_why.ensures.taken c.do_why.ensures.outcome

pub returns-in-None : goal.returns-in-None
returns-in-None g c =
    refused_answers (map g.S.AsStr.text c.args.words.now) (g.R.Read.remaining c.args.reader.now) (g.W.Write.contents c.args.writer.now)
    (record { old = g.E.Write.contents c.args.errors.now; new = g.E.Write.contents c.conclude.new.errors })
    c.conclude.result (sym c.asked_in.ensures ∙ c.in-None.is) c.conclude.ensures.status c.conclude.ensures.line
