use Rattle.std.proofs.Common.{subst, sym, ◌∙◌}
use Rattle.run_command.specs.Runnable.{IsRunnable}
use Rattle.replay_command.specs.Settings.{loop_with}
use Rattle.all_schedules.specs.Made.{loop_on}
use Rattle.replay_command.specs.Told.{IsHead}
use Rattle.replay_command.specs.Traced.{IsTraceOutcome}
use Rattle.replay_command.proofs.Replays.{no_machine, trace_comes, verdict_comes}
use Rattle.replay_command.proofs.Retraces.{traced_cores}
use Rattle.replay_command.proofs.traced.retrace.Goals as goal

pub returns-in-Err : goal.returns-in-Err
returns-in-Err g c = verdict_comes g.S.EpochStore.starts g.S.EpochStore.makes g.S.EpochStore.view g.S.EpochStore.waits (IsHead g.S.EpochStore.starts g.S.EpochStore.makes g.S.EpochStore.view g.S.EpochStore.waits g.S.ShownStore.changes c.args.detail) c.args.cores c.args.settings c.args.text.now (g.W.Write.contents c.args.writer.now) c.in-Err.outcome c.in-Err.ensures

pub runnable-requires : goal.runnable-requires
runnable-requires g c =
    let traced = c.in-Ok.traced in (traced_cores c.args.text.now traced.image traced.cores traced.entries.items c.in-Ok.ensures).least

pub returns-in-None : goal.returns-in-None
returns-in-None g c =
    let traced = c.in-Ok.traced in
    no_machine g.S.EpochStore.starts g.S.EpochStore.makes g.S.EpochStore.view g.S.EpochStore.waits (IsHead g.S.EpochStore.starts g.S.EpochStore.makes g.S.EpochStore.view g.S.EpochStore.waits g.S.ShownStore.changes c.args.detail) c.args.cores c.args.settings c.args.text.now traced.image traced.cores traced.entries.items (g.W.Write.contents c.args.writer.now)
    c.in-Ok.ensures c.in-None.ensures.cannot

pub returns : goal.returns
returns g c =
    let traced = c.in-Ok.traced in
    let new = g.W.Write.contents c.drive_trace.new.writer in
    let image = c.in-Some.image in
    trace_comes g.S.EpochStore.starts g.S.EpochStore.makes g.S.EpochStore.view g.S.EpochStore.waits (IsHead g.S.EpochStore.starts g.S.EpochStore.makes g.S.EpochStore.view g.S.EpochStore.waits g.S.ShownStore.changes c.args.detail) c.args.cores c.args.settings c.args.text.now traced.image traced.cores traced.entries.items (g.W.Write.contents c.args.writer.now) new c.drive_trace.result c.in-Ok.ensures
    (sym c.is_other.ensures ∙ c.if-is_other.false) (subst (λ i. IsRunnable i traced.cores) c.in-Some.ensures.is c.in-Some.ensures.can)
    (subst (λ es. IsTraceOutcome g.S.EpochStore.starts g.S.EpochStore.makes g.S.EpochStore.view g.S.EpochStore.waits (IsHead g.S.EpochStore.starts g.S.EpochStore.makes g.S.EpochStore.view g.S.EpochStore.waits g.S.ShownStore.changes c.args.detail) (loop_with traced.image traced.cores c.args.settings) es (g.W.Write.contents c.args.writer.now) new c.drive_trace.result) c.as_slice-entries.ensures.value
    (subst (λ i. IsTraceOutcome g.S.EpochStore.starts g.S.EpochStore.makes g.S.EpochStore.view g.S.EpochStore.waits (IsHead g.S.EpochStore.starts g.S.EpochStore.makes g.S.EpochStore.view g.S.EpochStore.waits g.S.ShownStore.changes c.args.detail) (loop_on i traced.cores c.args.settings.room) c.as_slice-entries.result.now (g.W.Write.contents c.args.writer.now) new c.drive_trace.result) c.in-Some.ensures.is c.drive_trace.ensures))
