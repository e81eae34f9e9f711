use Rattle.std.proofs.Common.{◌<◌, ℕ, All, Vec, refl, ap, ◌∙◌}
use Rattle.std.specs.declared.alloc.Global.{Global}
use Rattle.std.proofs.lemmas.Result.{err_from_is_err_and}
use Rattle.all_schedules.specs.Made.{the_loop}
use Rattle.replay_command.proofs.Runs.{at_place, faults_of_one, surveys_more, surveys_none}
use Rattle.replay_command.proofs.survey.survey_schedules.Goals as goal

pub loop-place-init : goal.loop-place-init
loop-place-init g c =
    surveys_none g.S.EpochStore.starts g.S.EpochStore.makes g.S.EpochStore.view g.S.EpochStore.waits (the_loop c.args.on.now) c.args.schedules.now _ refl c.new.ensures.empty refl refl

pub drive_schedule-requires-clause-schedule : goal.drive_schedule-requires-clause-schedule
drive_schedule-requires-clause-schedule g c κs within =
    at_place c.args.schedules.now c.loop-place.place c.index-schedules-place.result c.as_slice.result.now c.loop-place-test.true c.index-schedules-place.is
    c.as_slice.ensures.value (All (λ (core : ℕ). core < c.args.on.now.cores)) c.requires.schedules

pub returns-in_err-book-clause-fault : goal.returns-in_err-book-clause-fault
returns-in_err-book-clause-fault g c =
    let p = err_from_is_err_and c.from_residual.result c.from_residual.ensures.1 in
    faults_of_one c.args.schedules.now c.loop-place.place c.index-schedules-place.result c.as_slice.result.now c.loop-place-test.true c.index-schedules-place.is
    c.as_slice.ensures.value g.S.EpochStore.starts g.S.EpochStore.makes g.S.EpochStore.view g.S.EpochStore.waits (the_loop c.args.on.now) c.in_err-book.field-0.0 p.0 c.from_residual.result p.1 p.2
    c.in_err-book.ensures.fault

pub loop-place-preserved : goal.loop-place-preserved
loop-place-preserved g c =
    surveys_more g.S.EpochStore.starts g.S.EpochStore.makes g.S.EpochStore.view g.S.EpochStore.waits (the_loop c.args.on.now) c.args.schedules.now c.loop-place.place c.loop-place.survey
    c.loop-place.invariant c.loop-place-test.true c.index-schedules-place.result c.as_slice.result.now c.in_ok-book.book c.add_run.new.survey
    (c.as_slice.ensures.value ∙ ap (λ (v : Vec ℕ Global). v.items) c.index-schedules-place.is) c.in_ok-book.ensures.made c.in_ok-add_run.ensures.added
