use Rattle.trace_commands.specs.Outcome.{Conclusion}
use Rattle.run_command.proofs.Outcomes.{for_text}
use Rattle.replay_command.specs.Replay.{IsReplayOutcome}
use Rattle.replay_command.specs.Told.{IsHead}
use Rattle.replay_command.proofs.replay.do_replay.Goals as goal

pub returns-clause-outcome : goal.returns-clause-outcome
returns-clause-outcome g c =
    for_text (g.R.Read.remaining c.args.reader.now)
    (λ text. IsReplayOutcome g.S.EpochStore.starts g.S.EpochStore.makes g.S.EpochStore.view g.S.EpochStore.waits (IsHead g.S.EpochStore.starts g.S.EpochStore.makes g.S.EpochStore.view g.S.EpochStore.waits g.S.ShownStore.changes c.args.detail) c.args.cores c.args.settings text
    (g.W.Write.contents c.args.writer.now) (g.W.Write.contents c.replay_input.new.writer) c.replay_input.result)
    (λ text. Conclusion (IsReplayOutcome g.S.EpochStore.starts g.S.EpochStore.makes g.S.EpochStore.view g.S.EpochStore.waits (IsHead g.S.EpochStore.starts g.S.EpochStore.makes g.S.EpochStore.view g.S.EpochStore.waits g.S.ShownStore.changes c.args.detail) c.args.cores c.args.settings text
    (g.W.Write.contents c.args.writer.now) (g.W.Write.contents c.replay_input.new.writer)) (g.E.Write.contents c.args.errors.now) (g.E.Write.contents c.conclude.new.errors) c.conclude.result)
    (λ text so. record { outcome = c.replay_input.result; output = so; status = c.conclude.ensures.status; line = c.conclude.ensures.line })
    c.replay_input.ensures.outcome
