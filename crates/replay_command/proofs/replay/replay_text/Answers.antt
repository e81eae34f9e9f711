use Rattle.std.proofs.Common.{ℕ, Option, sym, subst, ◌∙◌}
use Rattle.trace_commands.specs.declared.outcome.Outcome.TheVariants.{Usage}
use Rattle.replay_command.specs.Replay.{IsReplayOutcome}
use Rattle.replay_command.specs.Told.{IsHead}
use Rattle.replay_command.specs.Traced.{has_trace}
use Rattle.replay_command.proofs.Replays.{from_lines, from_none, from_trace}
use Rattle.replay_command.proofs.replay.replay_text.Goals as goal

pub returns-then-begins_trace : goal.returns-then-begins_trace
returns-then-begins_trace g c =
    from_trace g.S.EpochStore.starts g.S.EpochStore.makes g.S.EpochStore.view g.S.EpochStore.waits (IsHead g.S.EpochStore.starts g.S.EpochStore.makes g.S.EpochStore.view g.S.EpochStore.waits g.S.ShownStore.changes c.args.detail) c.args.cores c.args.settings c.args.text.now (g.W.Write.contents c.args.writer.now) (g.W.Write.contents c.retrace.new.writer) c.retrace.result (has_trace c.args.text.now)
    (sym c.begins_trace.ensures ∙ c.if-begins_trace.true) c.retrace.ensures

pub returns-in-Some : goal.returns-in-Some
returns-in-Some g c =
    subst (λ (k : Option ℕ). IsReplayOutcome g.S.EpochStore.starts g.S.EpochStore.makes g.S.EpochStore.view g.S.EpochStore.waits (IsHead g.S.EpochStore.starts g.S.EpochStore.makes g.S.EpochStore.view g.S.EpochStore.waits g.S.ShownStore.changes c.args.detail) k c.args.settings c.args.text.now (g.W.Write.contents c.args.writer.now) (g.W.Write.contents c.replay_of.new.writer) c.replay_of.result) (sym c.in-Some.is)
    (from_lines g.S.EpochStore.starts g.S.EpochStore.makes g.S.EpochStore.view g.S.EpochStore.waits (IsHead g.S.EpochStore.starts g.S.EpochStore.makes g.S.EpochStore.view g.S.EpochStore.waits g.S.ShownStore.changes c.args.detail) c.in-Some.cores c.args.settings c.args.text.now (g.W.Write.contents c.args.writer.now) (g.W.Write.contents c.replay_of.new.writer) c.replay_of.result (has_trace c.args.text.now)
    (sym c.begins_trace.ensures ∙ c.if-begins_trace.false) c.replay_of.ensures)

pub returns-in-None : goal.returns-in-None
returns-in-None g c =
    subst (λ (k : Option ℕ). IsReplayOutcome g.S.EpochStore.starts g.S.EpochStore.makes g.S.EpochStore.view g.S.EpochStore.waits (IsHead g.S.EpochStore.starts g.S.EpochStore.makes g.S.EpochStore.view g.S.EpochStore.waits g.S.ShownStore.changes c.args.detail) k c.args.settings c.args.text.now (g.W.Write.contents c.args.writer.now) (g.W.Write.contents c.args.writer.now) Usage) (sym c.in-None.is)
    (from_none g.S.EpochStore.starts g.S.EpochStore.makes g.S.EpochStore.view g.S.EpochStore.waits (IsHead g.S.EpochStore.starts g.S.EpochStore.makes g.S.EpochStore.view g.S.EpochStore.waits g.S.ShownStore.changes c.args.detail) c.args.settings c.args.text.now (g.W.Write.contents c.args.writer.now) (has_trace c.args.text.now) (sym c.begins_trace.ensures ∙ c.if-begins_trace.false))
