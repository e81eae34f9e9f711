use Rattle.std.proofs.Common.{◌≡◌, ◌∙◌, ◌++◌, codes, None, Ok, Err, inr, ap, refl, subst}
use Rattle.run_ledger.specs.declared.counts.Counts.{Counts}
use Rattle.homefree.specs.declared.fault.TurnFault.TheVariants.{HistoryFull}
use Rattle.homefree.specs.Driven.{driver}
use Rattle.homefree.specs.LockView.{loop_of}
use Rattle.turn_steps.specs.Stepped.{Stepped}
use Rattle.turn_steps.proofs.Written.{first_but, grows_by}
use Rattle.all_schedules.specs.Made.{the_loop}
use Rattle.all_schedules.proofs.Drives.{made_history}
use Rattle.replay_command.proofs.Telling.{driven_by, has_begun, has_told, told_fault}
use Rattle.replay_command.proofs.told.step_schedule.Goals as goal

pub returns-clause-made : goal.returns-clause-made
returns-clause-made g c =
    let new = c.in-Ok.ensures in
    let room = new.room ∙ c.entries-room.ensures.value in
    let run = c.in-Ok-stepped.ensures in
    let same = run.same in
    let loop : loop_of c.drive_steps-stepped.new.book ≡ the_loop c.args.on.now =
    (λ k. record { image = (same.image ∙ new.image) k; cores = (same.cores ∙ new.cores) k; room = (same.room ∙ room) k }) in record {
      loop = loop;
      result = run.stepped.0;
      makes = made_history g.S.EpochStore.starts g.S.EpochStore.makes g.S.EpochStore.view g.S.EpochStore.waits c.args.on.now.image.now c.args.on.now.cores c.args.on.now.room c.args.schedule.now c.in-Ok.book c.drive_steps-stepped.new.book c.in-Ok.shares
          c.drive_steps-stepped.new.shares (Ok run.stepped.0) new.image new.cores room new.history new.totals new.store new.starts new.stopped new.shares loop c.look.ensures
          (driven_by g.S.EpochStore.makes g.S.EpochStore.view g.S.EpochStore.waits g.S.ShownStore.changes (driver c.in-Ok.book c.in-Ok.shares) c.args.schedule.now run.stepped.0
          (driver c.drive_steps-stepped.new.book c.drive_steps-stepped.new.shares) run.stepped.1 run.stepped.2);
    }

pub returns-clause-head : goal.returns-clause-head
returns-clause-head g c =
    let new = c.in-Ok.ensures in
    let room = new.room ∙ c.entries-room.ensures.value in
    let run = c.in-Ok-stepped.ensures in
    let text = run.stepped.1 in (
      text ++ codes "end\n",
      (
        text,
        record {
          first = c.in-Ok.book;
          last = driver c.drive_steps-stepped.new.book c.drive_steps-stepped.new.shares;
          end = run.stepped.0;
          is_new = record {
            loop = (λ k. record { image = new.image k; cores = new.cores k; room = room k });
            history = new.history;
            totals = new.totals;
            store = new.store;
            started = new.starts;
            stopped = new.stopped;
          };
          stepped = subst (λ (counts : Counts). Stepped g.S.EpochStore.makes g.S.EpochStore.view g.S.EpochStore.waits g.S.ShownStore.changes 0 (λ _. None) (driver c.in-Ok.book counts) c.args.schedule.now run.stepped.0
              (driver c.drive_steps-stepped.new.book c.drive_steps-stepped.new.shares) text) new.shares run.stepped.2;
          history_is = refl;
        },
        refl,
      ),
      grows_by c.in-Ok-stepped.told.0.items text c.in-Ok-stepped.told.1 (g.W.Write.contents c.args.writer.now) (g.W.Write.contents c.drive_steps-stepped.new.writer) run.stepped.3 (codes "end\n") c.extend_from_slice.new.self.items
          c.in-Ok-extend_from_slice.ensures.items,
    )

pub returns-in-Err-clause-begun : goal.returns-in-Err-clause-begun
returns-in-Err-clause-begun g c =
    let new = c.in-Ok.ensures in
    let room = new.room ∙ c.entries-room.ensures.value in
    inr (has_begun g.S.EpochStore.starts g.S.EpochStore.makes g.S.EpochStore.view g.S.EpochStore.waits g.S.ShownStore.changes (the_loop c.args.on.now) c.args.schedule.now c.in-Ok.book c.in-Ok.shares
    (g.W.Write.contents c.args.writer.now) (g.W.Write.contents c.drive_steps-stepped.new.writer) (record {
      loop = (λ k. record { image = new.image k; cores = new.cores k; room = room k });
      history = new.history;
      totals = new.totals;
      store = new.store;
      started = new.starts;
      stopped = new.stopped;
    }) new.shares c.in-Err.ensures.begun)

pub returns-in_default-extend_from_slice-clause-begun : goal.returns-in_default-extend_from_slice-clause-begun
returns-in_default-extend_from_slice-clause-begun g c =
    let new = c.in-Ok.ensures in
    let room = new.room ∙ c.entries-room.ensures.value in
    let run = c.in-Ok-stepped.ensures in
    inr (has_told g.S.EpochStore.starts g.S.EpochStore.makes g.S.EpochStore.view g.S.EpochStore.waits g.S.ShownStore.changes (the_loop c.args.on.now) c.args.schedule.now c.in-Ok.book c.in-Ok.shares
    run.stepped.0 (driver c.drive_steps-stepped.new.book c.drive_steps-stepped.new.shares) run.stepped.1 (g.W.Write.contents c.args.writer.now) (g.W.Write.contents c.drive_steps-stepped.new.writer)
    (record {
      loop = (λ k. record { image = new.image k; cores = new.cores k; room = room k });
      history = new.history;
      totals = new.totals;
      store = new.store;
      started = new.starts;
      stopped = new.stopped;
    }) new.shares run.stepped.2
    (first_but c.in-Ok-stepped.told.0.items run.stepped.1 c.in-Ok-stepped.told.1 (g.W.Write.contents c.args.writer.now) (g.W.Write.contents c.drive_steps-stepped.new.writer) run.stepped.3))

pub returns-in-Err-clause-fault : goal.returns-in-Err-clause-fault
returns-in-Err-clause-fault g c =
    let new = c.in-Ok.ensures in
    let room = new.room ∙ c.entries-room.ensures.value in
    let run = c.in-Err.ensures in
    let same = run.same in
    let loop : loop_of c.drive_steps-stepped.new.book ≡ the_loop c.args.on.now =
    (λ k. record { image = (same.image ∙ new.image) k; cores = (same.cores ∙ new.cores) k; room = (same.room ∙ room) k }) in
    told_fault g.S.EpochStore.starts g.S.EpochStore.makes g.S.EpochStore.view g.S.EpochStore.waits (the_loop c.args.on.now) c.args.schedule.now c.drive_steps-stepped.new.book.history c.in-Err.fault
    (λ full. made_history g.S.EpochStore.starts g.S.EpochStore.makes g.S.EpochStore.view g.S.EpochStore.waits c.args.on.now.image.now c.args.on.now.cores c.args.on.now.room c.args.schedule.now c.in-Ok.book c.drive_steps-stepped.new.book c.in-Ok.shares
    c.drive_steps-stepped.new.shares (Err HistoryFull) new.image new.cores room new.history new.totals new.store new.starts new.stopped new.shares loop c.look.ensures
    (run.full (ap Err full)))
