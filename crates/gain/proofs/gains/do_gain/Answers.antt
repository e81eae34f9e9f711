use Rattle.std.proofs.Common.{map}
use Rattle.trace_commands.proofs.Audits.{for_each}
use Rattle.trace_commands.specs.Program.{Stream}
use Rattle.gain.specs.Gains.{GainAnswers, IsUnwritten}
use Rattle.gain.proofs.Answering.{unwritten_answers}
use Rattle.gain.proofs.gains.do_gain.Goals as goal

pub returns-in-Err-clause-outcome : goal.returns-in-Err-clause-outcome
returns-in-Err-clause-outcome g c =
    let output : Stream = record { old = g.W.Write.contents c.args.writer.now; new = g.W.Write.contents c.gains_of_input.new.writer } in
    let errors : Stream = record { old = g.E.Write.contents c.args.errors.now; new = g.E.Write.contents c.conclude.new.errors } in
    for_each (λ text. IsUnwritten c.args.study.now c.args.addresses.now (map g.S.AsStr.text c.args.stores.now.words.now) text output.old output.new c.in-Err.outcome)
    (λ text. GainAnswers c.args.study.now c.args.addresses.now (map g.S.AsStr.text c.args.stores.now.words.now) text output errors c.conclude.result) (g.R.Read.remaining c.args.reader.now)
    (λ text so. unwritten_answers c.args.study.now c.args.addresses.now (map g.S.AsStr.text c.args.stores.now.words.now) output errors text c.in-Err.outcome c.conclude.result c.conclude.ensures.status
    c.conclude.ensures.line so) c.in-Err.ensures.outcome
