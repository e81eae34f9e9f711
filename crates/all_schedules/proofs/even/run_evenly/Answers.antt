use Rattle.std.proofs.Common.{◌≡◌, ◌∙◌, Some, Ok, rules}
use Rattle.homefree.specs.LockView.{loop_of}
use Rattle.even_speed.specs.Even.{pacing_of}
use Rattle.all_schedules.specs.Made.{the_loop}
use Rattle.all_schedules.proofs.Evens.{faults_evenly, ran_evenly}
use Rattle.all_schedules.proofs.even.run_evenly.Goals as goal

pub returns-in-Ok-Some-clause-made : goal.returns-in-Ok-Some-clause-made
returns-in-Ok-Some-clause-made g c =
    let new = c.in-Ok.ensures in
    let room = new.room ∙ c.entries-room.ensures.value in
    let run = c.drive_evenly-driven.ensures in
    let is : c.drive_evenly-driven.result ≡ Ok (Some c.in-Ok-Some.ran) = search rules in
    let same = run.same in
    let loop : loop_of c.drive_evenly-driven.new.book ≡ the_loop c.args.on.now =
    (λ k. record { image = (same.image ∙ new.image) k; cores = (same.cores ∙ new.cores) k; room = (same.room ∙ room) k }) in record {
      loop = loop;
      makes = ran_evenly g.S.EpochStore.starts g.S.EpochStore.makes g.S.EpochStore.view g.S.EpochStore.waits g.S.PricedStore.keeps (pacing_of g.S.PricedStore.prices c.args.terms.now) c.args.on.now.image.now c.args.on.now.cores c.args.on.now.room c.drive_evenly-driven.new.schedule.items
          c.in-Ok.book c.drive_evenly-driven.new.book c.in-Ok.shares c.drive_evenly-driven.new.shares new.image new.cores room new.history new.totals new.store new.starts new.stopped
          new.shares loop c.look.ensures
          c.drive_evenly-driven.result c.in-Ok-Some.ran is run.driven run.evenly run.whole run.short run.accounts run.end;
    }

pub returns-in-Err-clause-fault : goal.returns-in-Err-clause-fault
returns-in-Err-clause-fault g c =
    let new = c.in-Ok.ensures in
    let room = new.room ∙ c.entries-room.ensures.value in
    let run = c.in-Err.ensures in
    let same = run.same in
    let loop : loop_of c.drive_evenly-driven.new.book ≡ the_loop c.args.on.now =
    (λ k. record { image = (same.image ∙ new.image) k; cores = (same.cores ∙ new.cores) k; room = (same.room ∙ room) k }) in
    faults_evenly g.S.EpochStore.starts g.S.EpochStore.makes g.S.EpochStore.view g.S.EpochStore.waits g.S.PricedStore.keeps (pacing_of g.S.PricedStore.prices c.args.terms.now) c.args.on.now.image.now c.args.on.now.cores c.args.on.now.room c.drive_evenly-driven.new.schedule.items
    c.in-Ok.book c.drive_evenly-driven.new.book c.in-Ok.shares c.drive_evenly-driven.new.shares new.image new.cores room new.history new.totals new.store new.starts new.stopped
    new.shares loop c.look.ensures
    c.in-Err.fault run.evenly run.driven
