use Rattle.std.proofs.Common.{ℕ, List, map, subst, ◌∙◌}
use Rattle.rv32_image.specs.Reading.{ForText}
use Rattle.trace_commands.specs.Stores.{or_both}
use Rattle.trace_commands.specs.Program.{Stream}
use Rattle.replay_command.proofs.Paces.{none_taken}
use Rattle.gain.specs.Gains.{GainAnswers}
use Rattle.gain.proofs.Answering.{no_memory}
use Rattle.gain.proofs.work.gain_over.Goals as goal

pub returns-in-Ok-clause-outcome : goal.returns-in-Ok-clause-outcome
returns-in-Ok-clause-outcome g c =
    let output : Stream = record { old = g.W.Write.contents c.args.writer.now; new = g.W.Write.contents c.gain_waiting.new.writer } in
    let errors : Stream = record { old = g.E.Write.contents c.args.errors.now; new = g.E.Write.contents c.gain_waiting.new.errors } in
    subst (λ (addresses : List ℕ). ForText (g.R.Read.remaining c.args.reader.now) (λ text. GainAnswers c.args.study.now addresses (or_both (map g.S.AsStr.text c.args.stores.now.words.now)) text output errors c.gain_waiting.result))
    (c.as_slice.ensures.value ∙ c.in-Ok.ensures) c.gain_waiting.ensures.outcome

pub returns-in-Err-clause-outcome : goal.returns-in-Err-clause-outcome
returns-in-Err-clause-outcome g c =
    no_memory c.args.study.now _ (or_both (map g.S.AsStr.text c.args.stores.now.words.now)) (g.R.Read.remaining c.args.reader.now) (g.W.Write.contents c.args.writer.now)
    (record { old = g.E.Write.contents c.args.errors.now; new = g.E.Write.contents c.conclude.new.errors }) c.conclude.result c.conclude.ensures.status c.conclude.ensures.line

pub returns-in-Err-clause-taken : goal.returns-in-Err-clause-taken
returns-in-Err-clause-taken g c = none_taken (g.R.Read.remaining c.args.reader.now)
