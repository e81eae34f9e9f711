use Rattle.std.proofs.Common.{ap, Err, MatchResult}
use Rattle.trace_commands.specs.Audit.{IsNoVerdict, IsTracedBy}
use Rattle.trace_commands.specs.declared.traced.Traced.{Traced}
use Rattle.trace_commands.proofs.Audits.{for_input, refused_input}
use Rattle.trace_commands.proofs.traced.read_traced.Goals as goal

pub returns-in-Ok-clause-said : goal.returns-in-Ok-clause-said
returns-in-Ok-clause-said g c =
    for_input (λ text. MatchResult c.traced_in.result (λ (t : Traced). IsTracedBy text t.image t.cores t.entries.items) (IsNoVerdict text))
    (g.R.Read.remaining c.args.reader.now) c.as_slice.result.now (rw c.as_slice.ensures.value c.in-Ok.ensures.whole) c.traced_in.ensures

pub returns-in-Err-clause-said : goal.returns-in-Err-clause-said
returns-in-Err-clause-said g c =
    rw (c.of_trace_fault.ensures, c.from.ensures) (refused_input (g.R.Read.remaining c.args.reader.now) c.in-Err.fault (λ e. c.in-Err.ensures.long (ap Err e)))
