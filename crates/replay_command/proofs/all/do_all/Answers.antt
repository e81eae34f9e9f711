use Rattle.run_command.proofs.Outcomes.{for_text}
use Rattle.replay_command.specs.AllSchedules.{AllAnswers, IsUnwritten}
use Rattle.trace_commands.specs.Program.{Stream}
use Rattle.replay_command.proofs.Alls.{unwritten_answers}
use Rattle.replay_command.proofs.all.do_all.Goals as goal

pub returns-in-Err-clause-outcome : goal.returns-in-Err-clause-outcome
returns-in-Err-clause-outcome g c =
    let starts = g.S.EpochStore.starts in
    let makes = g.S.EpochStore.makes in
    let view = g.S.EpochStore.view in
    let waits = g.S.EpochStore.waits in
    let output : Stream = record { old = g.W.Write.contents c.args.writer.now; new = g.W.Write.contents c.all_of_input.new.writer } in
    let errors : Stream = record { old = g.E.Write.contents c.args.errors.now; new = g.E.Write.contents c.conclude.new.errors } in
    for_text (g.R.Read.remaining c.args.reader.now)
    (λ text. IsUnwritten starts makes view waits c.args.cores c.args.settings c.args.turns text output.old output.new c.in-Err.outcome)
    (λ text. AllAnswers starts makes view waits c.args.cores c.args.settings c.args.turns text output errors c.conclude.result)
    (λ text so. unwritten_answers starts makes view waits c.args.cores c.args.settings c.args.turns output errors text c.in-Err.outcome c.conclude.result c.conclude.ensures.status
    c.conclude.ensures.line so) c.in-Err.ensures.outcome
