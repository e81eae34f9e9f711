use Rattle.replay_command.specs.declared.detail.Detail.TheVariants.{Steps}
use Rattle.all_schedules.specs.Made.{the_loop}
use Rattle.replay_command.specs.Told.{IsHead}
use Rattle.replay_command.proofs.Replays.{fault_again, told_again}
use Rattle.replay_command.proofs.told.tell_turns.Goals as goal

pub show_told-requires-clause-same : goal.show_told-requires-clause-same
show_told-requires-clause-same g c κs within = c.in-Ok.ensures.made.loop

pub returns-in-Ok : goal.returns-in-Ok
returns-in-Ok g c = λ end history makes.
    let made = c.in-Ok.ensures.made in
    let head = c.in-Ok.ensures.head in
    told_again g.S.EpochStore.starts g.S.EpochStore.makes g.S.EpochStore.alike g.S.EpochStore.view g.S.EpochStore.waits c.history_is_fixed.ensures (IsHead g.S.EpochStore.starts g.S.EpochStore.makes g.S.EpochStore.view g.S.EpochStore.waits g.S.ShownStore.changes Steps) (the_loop c.args.on.now) c.args.schedule.now end history makes
    (g.W.Write.contents c.args.writer.now) (g.W.Write.contents c.show_told.new.writer) made.result c.in-Ok.book.history head.0 c.show_told.result made.makes head.1
    (c.show_told.ensures (g.W.Write.contents c.args.writer.now) head.0 head.2)

pub returns-in-Err : goal.returns-in-Err
returns-in-Err g c = λ end history makes.
    fault_again g.S.EpochStore.starts g.S.EpochStore.makes g.S.EpochStore.alike g.S.EpochStore.view g.S.EpochStore.waits c.history_is_fixed.ensures (IsHead g.S.EpochStore.starts g.S.EpochStore.makes g.S.EpochStore.view g.S.EpochStore.waits g.S.ShownStore.changes Steps) (the_loop c.args.on.now) c.args.schedule.now end history makes
    (g.W.Write.contents c.args.writer.now) (g.W.Write.contents c.step_schedule.new.writer) c.in-Err.fault c.cause_of.result c.cause_of.ensures c.in-Err.ensures.fault c.in-Err.ensures.begun
