use Rattle.std.proofs.Common.{ap, Err}
use Rattle.trace_commands.proofs.Audits.{for_input}
use Rattle.replay_command.specs.Replay.{IsReplayOutcome}
use Rattle.replay_command.specs.Told.{IsHead}
use Rattle.replay_command.proofs.Outcomes.{refused_input}
use Rattle.replay_command.proofs.replay.replay_input.Goals as goal

pub returns-in-Ok-clause-outcome : goal.returns-in-Ok-clause-outcome
returns-in-Ok-clause-outcome g c =
    for_input (λ text. IsReplayOutcome g.S.EpochStore.starts g.S.EpochStore.makes g.S.EpochStore.view g.S.EpochStore.waits (IsHead g.S.EpochStore.starts g.S.EpochStore.makes g.S.EpochStore.view g.S.EpochStore.waits g.S.ShownStore.changes c.args.detail) c.args.cores c.args.settings text (g.W.Write.contents c.args.writer.now) _ c.replay_text.result)
    (g.R.Read.remaining c.args.reader.now) c.as_slice.result.now (rw c.as_slice.ensures.value c.in-Ok.ensures.whole) c.replay_text.ensures

pub returns-in-Err-clause-outcome : goal.returns-in-Err-clause-outcome
returns-in-Err-clause-outcome g c =
    rw (c.of_turns_fault.ensures, c.from.ensures)
    (refused_input g.S.EpochStore.starts g.S.EpochStore.makes g.S.EpochStore.view g.S.EpochStore.waits (IsHead g.S.EpochStore.starts g.S.EpochStore.makes g.S.EpochStore.view g.S.EpochStore.waits g.S.ShownStore.changes c.args.detail) c.args.cores c.args.settings (g.R.Read.remaining c.args.reader.now) c.in-Err.fault (g.W.Write.contents c.args.writer.now)
    (λ e. c.in-Err.ensures.long (ap Err e)))
