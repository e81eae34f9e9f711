use Rattle.std.proofs.lemmas.Result.{MatchResult-weaker}
use Rattle.even_speed.specs.Holds.{holding_of}
use Rattle.all_schedules.specs.Made.{the_loop}
use Rattle.replay_command.proofs.Paces.{held_stop, held_text}
use Rattle.replay_command.proofs.paced.show_held.Goals as goal

pub returns : goal.returns
returns g c addresses =
    let starts = g.S.EpochStore.starts in
    let makes = g.S.EpochStore.makes in
    let view = g.S.EpochStore.view in
    let waits = g.S.EpochStore.waits in
    let prices = g.S.PricedStore.prices in
    let keeps = g.S.PricedStore.keeps in
    let l = the_loop c.args.on.now in
    MatchResult-weaker c.show_run.result c.show_run.ensures
    (λ shown is. held_text starts makes view waits prices keeps addresses l c.args.pieces c.args.costs (holding_of c.in-Ok.holds) shown.0 shown.1.items c.in-Ok.ensures is)
    (λ cause is. held_stop starts makes view waits prices keeps addresses l c.args.pieces c.args.costs (holding_of c.in-Ok.holds) cause c.in-Ok.ensures is)
