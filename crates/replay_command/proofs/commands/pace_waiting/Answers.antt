use Rattle.std.proofs.Common.{List, ℕ, map, subst, ◌∙◌}
use Rattle.rv32_image.specs.Reading.{ForText}
use Rattle.trace_commands.specs.Outcome.{Conclusion}
use Rattle.trace_commands.specs.Program.{Stream}
use Rattle.replay_command.specs.Addresses.{addresses_of}
use Rattle.replay_command.specs.Paced.{IsPacedOutcome}
use Rattle.replay_command.proofs.Paces.{no_memory, none_taken}
use Rattle.replay_command.proofs.commands.pace_waiting.Goals as goal

pub returns-in-Ok-clause-outcome : goal.returns-in-Ok-clause-outcome
returns-in-Ok-clause-outcome g c =
    let output : Stream = record { old = g.W.Write.contents c.args.writer.now; new = g.W.Write.contents c.do_paced.new.writer } in
    let errors : Stream = record { old = g.E.Write.contents c.args.errors.now; new = g.E.Write.contents c.do_paced.new.errors } in
    subst (λ (addresses : List ℕ). ForText (g.R.Read.remaining c.args.reader.now) (λ text.
    Conclusion (IsPacedOutcome g.S.EpochStore.starts g.S.EpochStore.makes g.S.EpochStore.view g.S.EpochStore.waits g.S.PricedStore.prices g.S.PricedStore.keeps addresses c.args.asked.pace c.args.asked.cores c.args.asked.settings text output.old output.new) errors.old errors.new c.do_paced.result))
    (c.as_slice.ensures.value ∙ c.in-Ok.ensures) c.do_paced.ensures.outcome

pub returns-in-Err-clause-outcome : goal.returns-in-Err-clause-outcome
returns-in-Err-clause-outcome g c =
    no_memory g.S.EpochStore.starts g.S.EpochStore.makes g.S.EpochStore.view g.S.EpochStore.waits g.S.PricedStore.prices g.S.PricedStore.keeps (addresses_of (map g.A.AsStr.text c.args.waits.now)) c.args.asked.pace c.args.asked.cores c.args.asked.settings
    (g.R.Read.remaining c.args.reader.now) (g.W.Write.contents c.args.writer.now) (record { old = g.E.Write.contents c.args.errors.now; new = g.E.Write.contents c.conclude.new.errors })
    c.conclude.result c.conclude.ensures.status c.conclude.ensures.line

pub returns-in-Err-clause-taken : goal.returns-in-Err-clause-taken
returns-in-Err-clause-taken g c = none_taken (g.R.Read.remaining c.args.reader.now)
