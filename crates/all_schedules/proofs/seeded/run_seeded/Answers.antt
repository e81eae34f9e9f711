use Rattle.std.proofs.Common.{◌≡◌, ◌∙◌, Ok}
use Rattle.homefree.specs.LockView.{loop_of}
use Rattle.all_schedules.specs.Made.{the_loop}
use Rattle.all_schedules.proofs.Seeds.{faults_drawn, makes_drawn}
use Rattle.all_schedules.proofs.seeded.run_seeded.Goals as goal

pub returns-in-Ok-driven-clause-made : goal.returns-in-Ok-driven-clause-made
returns-in-Ok-driven-clause-made g c =
    let new = c.in-Ok.ensures in
    let room = new.room ∙ c.entries-room.ensures.value in
    let run = c.in-Ok-driven.ensures in
    let same = run.same in
    let loop : loop_of c.drive_drawn-driven.new.book ≡ the_loop c.args.on.now =
    (λ k. record { image = (same.image ∙ new.image) k; cores = (same.cores ∙ new.cores) k; room = (same.room ∙ room) k }) in record {
      loop = loop;
      result = c.in-Ok-driven.field-0;
      makes = makes_drawn g.S.EpochStore.starts g.S.EpochStore.makes g.S.EpochStore.view g.S.EpochStore.waits c.args.on.now.image.now c.args.on.now.cores c.args.on.now.room c.args.seed c.drive_drawn-driven.new.schedule.items
          c.in-Ok.book c.drive_drawn-driven.new.book c.in-Ok.shares c.drive_drawn-driven.new.shares new.image new.cores room new.history new.totals new.store new.starts new.stopped
          new.shares loop c.look.ensures (Ok c.in-Ok-driven.field-0) (run.drives (λ is. absurd cc));
    }

pub returns-in-Err-clause-fault : goal.returns-in-Err-clause-fault
returns-in-Err-clause-fault g c =
    let new = c.in-Ok.ensures in
    let room = new.room ∙ c.entries-room.ensures.value in
    let run = c.in-Err.ensures in
    let same = run.same in
    let loop : loop_of c.drive_drawn-driven.new.book ≡ the_loop c.args.on.now =
    (λ k. record { image = (same.image ∙ new.image) k; cores = (same.cores ∙ new.cores) k; room = (same.room ∙ room) k }) in
    faults_drawn g.S.EpochStore.starts g.S.EpochStore.makes g.S.EpochStore.view g.S.EpochStore.waits c.args.on.now.image.now c.args.on.now.cores c.args.on.now.room c.args.seed c.drive_drawn-driven.new.schedule.items
    c.in-Ok.book c.drive_drawn-driven.new.book c.in-Ok.shares c.drive_drawn-driven.new.shares new.image new.cores room new.history new.totals new.store new.starts new.stopped
    new.shares loop c.look.ensures c.in-Err.fault run.drives
