use Rattle.std.proofs.Common.{map}
use Rattle.trace_commands.proofs.Audits.{for_each}
use Rattle.trace_commands.specs.Program.{Stream}
use Rattle.depends.specs.Answers.{DependsAnswers, IsUnwritten}
use Rattle.depends.proofs.Answering.{unwritten_answers}
use Rattle.depends.proofs.answer.do_depends.Goals as goal

pub returns-in-Err-clause-outcome : goal.returns-in-Err-clause-outcome
returns-in-Err-clause-outcome g c =
    let output : Stream = record { old = g.W.Write.contents c.args.writer.now; new = g.W.Write.contents c.answer_input.new.writer } in
    let errors : Stream = record { old = g.E.Write.contents c.args.errors.now; new = g.E.Write.contents c.conclude.new.errors } in
    for_each (λ text. IsUnwritten c.args.cores (map g.S.AsStr.text c.args.stores.now.words.now) c.args.room text output.old output.new c.in-Err.outcome)
    (λ text. DependsAnswers c.args.cores (map g.S.AsStr.text c.args.stores.now.words.now) c.args.room text output errors c.conclude.result) (g.R.Read.remaining c.args.reader.now)
    (λ text so. unwritten_answers c.args.cores (map g.S.AsStr.text c.args.stores.now.words.now) c.args.room output errors text c.in-Err.outcome c.conclude.result c.conclude.ensures.status
    c.conclude.ensures.line so) c.in-Err.ensures.outcome
