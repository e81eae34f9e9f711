use Rattle.std.proofs.Common.{◌<◌, All, ap, sym, subst, ◌∙◌}
use Rattle.rv32_image.specs.ImageText.{image_text}
use Rattle.trace_text.specs.Reading.{IsFaultOf}
use Rattle.all_schedules.specs.Made.{loop_on}
use Rattle.run_command.specs.Runnable.{IsRunnable}
use Rattle.replay_command.specs.Settings.{RunsWith, loop_with}
use Rattle.replay_command.specs.Replay.{IsTurnsOutcome}
use Rattle.replay_command.specs.Told.{IsHead}
use Rattle.replay_command.proofs.Cores.{are_cores}
use Rattle.replay_command.proofs.Lines.{schedule_text-is}
use Rattle.replay_command.proofs.Replays.{lines_come, lines_cannot, turns_refused}
use Rattle.replay_command.proofs.replay.replay_of.Goals as goal

pub returns-in-None : goal.returns-in-None
returns-in-None g c =
    let image_is = ap image_text (sym c.parts_of-parts.ensures.image) ∙ c.in-Ok.ensures in
    rw (← c.count-count.ensures.value) (lines_cannot g.S.EpochStore.starts g.S.EpochStore.makes g.S.EpochStore.view g.S.EpochStore.waits (IsHead g.S.EpochStore.starts g.S.EpochStore.makes g.S.EpochStore.view g.S.EpochStore.waits g.S.ShownStore.changes c.args.detail) c.count-count.result c.args.settings c.args.text.now (g.W.Write.contents c.args.writer.now)
    c.in-Ok.image image_is c.in-None.ensures.cannot)

pub returns-in-Err-read_turns : goal.returns-in-Err-read_turns
returns-in-Err-read_turns g c =
    let fault = c.in-Err-read_turns.fault in
    let cores = c.count-count.result in
    let image = c.in-Ok.image in
    let image_is = ap image_text (sym c.parts_of-parts.ensures.image) ∙ c.in-Ok.ensures in
    let runs : RunsWith image cores c.args.settings = subst (λ i. IsRunnable i cores) c.in-Some.ensures.is c.in-Some.ensures.can in
    let said = subst (λ r. IsFaultOf fault.kind fault r) (sym (schedule_text-is cores c.args.text.now _ _ c.parts_of-parts.ensures.number c.parts_of-parts.ensures.below)) c.in-Err-read_turns.ensures in
    rw (c.of_turns_fault.ensures, ← c.count-count.ensures.value) (turns_refused g.S.EpochStore.starts g.S.EpochStore.makes g.S.EpochStore.view g.S.EpochStore.waits (IsHead g.S.EpochStore.starts g.S.EpochStore.makes g.S.EpochStore.view g.S.EpochStore.waits g.S.ShownStore.changes c.args.detail) cores c.args.settings c.args.text.now (g.W.Write.contents c.args.writer.now) fault.line fault.kind image image_is runs said)

pub replay_turns-requires-clause-schedule : goal.replay_turns-requires-clause-schedule
replay_turns-requires-clause-schedule g c κs within =
    let cores = c.count-count.result in
    let turns = schedule_text-is cores c.args.text.now _ _ c.parts_of-parts.ensures.number c.parts_of-parts.ensures.below ∙ c.in-Ok-read_turns.ensures in
    subst (λ s. All (λ k. k < cores) s) (sym c.as_slice.ensures.value) (are_cores cores c.args.text.now c.in-Ok-read_turns.schedule.items turns)

pub returns : goal.returns
returns g c =
    let cores = c.count-count.result in
    let image = c.in-Ok.image in
    let schedule = c.in-Ok-read_turns.schedule.items in
    let new = g.W.Write.contents c.replay_turns.new.writer in
    let image_is = ap image_text (sym c.parts_of-parts.ensures.image) ∙ c.in-Ok.ensures in
    let runs : RunsWith image cores c.args.settings = subst (λ i. IsRunnable i cores) c.in-Some.ensures.is c.in-Some.ensures.can in
    let turns = schedule_text-is cores c.args.text.now _ _ c.parts_of-parts.ensures.number c.parts_of-parts.ensures.below ∙ c.in-Ok-read_turns.ensures in
    rw (← c.count-count.ensures.value) (lines_come g.S.EpochStore.starts g.S.EpochStore.makes g.S.EpochStore.view g.S.EpochStore.waits (IsHead g.S.EpochStore.starts g.S.EpochStore.makes g.S.EpochStore.view g.S.EpochStore.waits g.S.ShownStore.changes c.args.detail) cores c.args.settings c.args.text.now image schedule (g.W.Write.contents c.args.writer.now) new c.replay_turns.result image_is runs turns
    (subst (λ s. IsTurnsOutcome g.S.EpochStore.starts g.S.EpochStore.makes g.S.EpochStore.view g.S.EpochStore.waits (IsHead g.S.EpochStore.starts g.S.EpochStore.makes g.S.EpochStore.view g.S.EpochStore.waits g.S.ShownStore.changes c.args.detail) (loop_with image cores c.args.settings) s (g.W.Write.contents c.args.writer.now) new c.replay_turns.result) c.as_slice.ensures.value
    (subst (λ i. IsTurnsOutcome g.S.EpochStore.starts g.S.EpochStore.makes g.S.EpochStore.view g.S.EpochStore.waits (IsHead g.S.EpochStore.starts g.S.EpochStore.makes g.S.EpochStore.view g.S.EpochStore.waits g.S.ShownStore.changes c.args.detail) (loop_on i cores c.args.settings.room) c.as_slice.result.now (g.W.Write.contents c.args.writer.now) new c.replay_turns.result) c.in-Some.ensures.is c.replay_turns.ensures)))
