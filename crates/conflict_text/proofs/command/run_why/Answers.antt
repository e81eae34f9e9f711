use Rattle.trace_commands.specs.Audit.{IsNoVerdict, IsTracedBy}
use Rattle.trace_commands.proofs.Audits.{for_each}
use Rattle.conflict_text.specs.Why.{IsWhyOutcome}
use Rattle.conflict_text.proofs.Answering.{traced_outcome, without_verdict}
use Rattle.conflict_text.proofs.command.run_why.Goals as goal

pub returns-in-Ok-clause-outcome : goal.returns-in-Ok-clause-outcome
returns-in-Ok-clause-outcome g c =
    let old = g.W.Write.contents c.args.writer.now in
    let new = g.W.Write.contents c.explain_on.new.writer in
    let t = c.in-Ok.traced in
    for_each (λ text. IsTracedBy text t.image t.cores t.entries.items) (λ text. IsWhyOutcome c.args.asked text old new c.explain_on.result) (g.R.Read.remaining c.args.reader.now)
    (λ text by. traced_outcome c.args.asked text t.image t.cores t.entries.items old new c.explain_on.result by c.explain_on.ensures) c.in-Ok.ensures.said

pub returns-in-Err-clause-outcome : goal.returns-in-Err-clause-outcome
returns-in-Err-clause-outcome g c =
    let output = g.W.Write.contents c.args.writer.now in
    for_each (λ text. IsNoVerdict text c.in-Err.outcome) (λ text. IsWhyOutcome c.args.asked text output output c.in-Err.outcome) (g.R.Read.remaining c.args.reader.now)
    (λ text is. without_verdict c.args.asked text output c.in-Err.outcome is) c.in-Err.ensures.said
