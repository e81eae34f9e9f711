use Rattle.std.proofs.Common.{◌≡◌, ◌∙◌, Ok, Err}
use Rattle.homefree.specs.LockView.{loop_of}
use Rattle.all_schedules.specs.Made.{the_loop}
use Rattle.all_schedules.proofs.Drives.{faults, made_history}
use Rattle.all_schedules.proofs.driving.drive_schedule.Goals as goal

pub returns-in-Ok-driven-clause-made : goal.returns-in-Ok-driven-clause-made
returns-in-Ok-driven-clause-made g c =
    let new = c.in-Ok.ensures in
    let room = new.room ∙ c.entries-room.ensures.value in
    let same = c.in-Ok-driven.ensures.same in
    let loop : loop_of c.drive-driven.new.book ≡ the_loop c.args.on.now =
    (λ k. record { image = (same.image ∙ new.image) k; cores = (same.cores ∙ new.cores) k; room = (same.room ∙ room) k }) in record {
      loop = loop;
      result = c.in-Ok-driven.field-0;
      makes = made_history g.S.EpochStore.starts g.S.EpochStore.makes g.S.EpochStore.view g.S.EpochStore.waits c.args.on.now.image.now c.args.on.now.cores c.args.on.now.room c.args.schedule.now c.in-Ok.book c.drive-driven.new.book c.in-Ok.shares
          c.drive-driven.new.shares (Ok c.in-Ok-driven.field-0) new.image new.cores room new.history new.totals new.store new.starts new.stopped new.shares loop c.look.ensures
          c.in-Ok-driven.ensures.driven;
    }

pub returns-in-Err-clause-fault : goal.returns-in-Err-clause-fault
returns-in-Err-clause-fault g c =
    let new = c.in-Ok.ensures in
    let room = new.room ∙ c.entries-room.ensures.value in
    let same = c.in-Err.ensures.same in
    let loop : loop_of c.drive-driven.new.book ≡ the_loop c.args.on.now =
    (λ k. record { image = (same.image ∙ new.image) k; cores = (same.cores ∙ new.cores) k; room = (same.room ∙ room) k }) in
    faults g.S.EpochStore.starts g.S.EpochStore.makes g.S.EpochStore.view g.S.EpochStore.waits c.args.on.now.image.now c.args.on.now.cores c.args.on.now.room c.args.schedule.now c.drive-driven.new.book c.in-Err.fault
    (made_history g.S.EpochStore.starts g.S.EpochStore.makes g.S.EpochStore.view g.S.EpochStore.waits c.args.on.now.image.now c.args.on.now.cores c.args.on.now.room c.args.schedule.now c.in-Ok.book c.drive-driven.new.book c.in-Ok.shares
    c.drive-driven.new.shares (Err c.in-Err.fault) new.image new.cores room new.history new.totals new.store new.starts new.stopped new.shares loop c.look.ensures
    c.in-Err.ensures.driven)
