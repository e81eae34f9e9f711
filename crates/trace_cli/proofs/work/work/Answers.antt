use Rattle.std.proofs.Common.{rules}
use Rattle.trace_commands.specs.declared.outcome.Outcome.TheVariants.{Usage, Stopped}
use Rattle.trace_commands.specs.declared.outcome.CommandStop.TheVariants.{NoMemory}
use Rattle.trace_commands.specs.Audit.{IsAuditOutcome}
use Rattle.trace_commands.specs.Outcome.{IsSeqOutcome}
use Rattle.run_command.specs.declared.options.RunOptions.{RunOptions}
use Rattle.run_command.specs.Run.{IsRunOutcome}
use Rattle.trace_cli.specs.declared.words.Request.TheVariants.{Seq, Run, Audit}
use Rattle.trace_cli.specs.Request.{IsRequest}
use Rattle.trace_cli.proofs.Works.{command_answers, no_command_answers}
use Rattle.trace_cli.proofs.work.work.Goals as goal

pub returns-in-Ok-Seq : goal.returns-in-Ok-Seq
returns-in-Ok-Seq g c =
    let old = g.W.Write.contents c.args.writer.now in
    let new = g.W.Write.contents c.do_seq.new.writer in
    command_answers (λ text outcome. IsSeqOutcome text old new outcome) c.args.called.room Seq (g.R.Read.remaining c.args.reader.now) (g.R.Read.remaining c.do_seq.new.reader)
    (record { old = old; new = new })
    (record { old = g.E.Write.contents c.args.errors.now; new = g.E.Write.contents c.do_seq.new.errors })
    c.do_seq.result tt (λ text outcome is. (is, c.do_seq.ensures.taken)) c.do_seq.ensures.outcome

pub returns-in-Ok-Run : goal.returns-in-Ok-Run
returns-in-Ok-Run g c =
    let old = g.W.Write.contents c.args.writer.now in
    let new = g.W.Write.contents c.do_run.new.writer in
    let options : RunOptions = record { cores = c.in-Ok-Run.cores; room = c.args.called.room; trace = c.in-Ok-Run.trace } in
    let is : IsRequest (Run c.in-Ok-Run.cores c.in-Ok-Run.trace) = search rules in
    command_answers (λ text outcome. IsRunOutcome options text old new outcome) c.args.called.room (Run c.in-Ok-Run.cores c.in-Ok-Run.trace)
    (g.R.Read.remaining c.args.reader.now) (g.R.Read.remaining c.do_run.new.reader)
    (record { old = old; new = new })
    (record { old = g.E.Write.contents c.args.errors.now; new = g.E.Write.contents c.do_run.new.errors })
    c.do_run.result is (λ text outcome right. (right, c.do_run.ensures.taken)) c.do_run.ensures.outcome

pub returns-in-Ok-Audit : goal.returns-in-Ok-Audit
returns-in-Ok-Audit g c =
    let old = g.W.Write.contents c.args.writer.now in
    let new = g.W.Write.contents c.do_audit.new.writer in
    command_answers (λ text outcome. IsAuditOutcome text old new outcome) c.args.called.room Audit (g.R.Read.remaining c.args.reader.now) (g.R.Read.remaining c.do_audit.new.reader)
    (record { old = old; new = new })
    (record { old = g.E.Write.contents c.args.errors.now; new = g.E.Write.contents c.do_audit.new.errors })
    c.do_audit.result tt (λ text outcome is. (is, c.do_audit.ensures.taken)) c.do_audit.ensures.outcome

pub returns-in-Err-Usage : goal.returns-in-Err-Usage
returns-in-Err-Usage g c =
    no_command_answers c.args.called.room (g.R.Read.remaining c.args.reader.now) (g.W.Write.contents c.args.writer.now)
    (record { old = g.E.Write.contents c.args.errors.now; new = g.E.Write.contents c.conclude.new.errors })
    Usage c.conclude.result tt c.conclude.ensures.status c.conclude.ensures.line

pub returns-in-Err-NoMemory : goal.returns-in-Err-NoMemory
returns-in-Err-NoMemory g c =
    no_command_answers c.args.called.room (g.R.Read.remaining c.args.reader.now) (g.W.Write.contents c.args.writer.now)
    (record { old = g.E.Write.contents c.args.errors.now; new = g.E.Write.contents c.conclude-in-Err-NoMemory.new.errors })
    (Stopped NoMemory) c.conclude-in-Err-NoMemory.result tt c.conclude-in-Err-NoMemory.ensures.status c.conclude-in-Err-NoMemory.ensures.line
