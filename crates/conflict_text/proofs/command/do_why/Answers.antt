use Rattle.trace_commands.proofs.Audits.{for_each}
use Rattle.conflict_text.specs.Why.{IsWhyOutcome, WhyAnswers}
use Rattle.conflict_text.proofs.command.do_why.Goals as goal

pub returns-clause-outcome : goal.returns-clause-outcome
returns-clause-outcome g c =
    let old = g.W.Write.contents c.args.writer.now in
    let new = g.W.Write.contents c.run_why.new.writer in
    for_each (λ text. IsWhyOutcome c.args.asked text old new c.run_why.result)
    (λ text. WhyAnswers c.args.asked text old new (g.E.Write.contents c.args.errors.now) (g.E.Write.contents c.conclude.new.errors) c.conclude.result)
    (g.R.Read.remaining c.args.reader.now)
    (λ text so. record { outcome = c.run_why.result; output = so; status = c.conclude.ensures.status; line = c.conclude.ensures.line }) c.run_why.ensures.outcome
