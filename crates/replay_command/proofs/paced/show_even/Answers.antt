use Rattle.std.proofs.Common.{Bool, MatchResult, subst}
use Rattle.std.proofs.lemmas.Result.{MatchResult-weaker}
use Rattle.even_speed.specs.Even.{pacing}
use Rattle.even_speed.specs.Holds.{holding_of}
use Rattle.all_schedules.specs.Made.{the_loop}
use Rattle.replay_command.specs.Paced.{IsEvenStop, IsEvenText}
use Rattle.replay_command.proofs.Paces.{even_stop, even_text}
use Rattle.replay_command.proofs.paced.show_even.Goals as goal

pub returns : goal.returns
returns g c =
    let starts = g.S.EpochStore.starts in
    let makes = g.S.EpochStore.makes in
    let view = g.S.EpochStore.view in
    let waits = g.S.EpochStore.waits in
    let prices = g.S.PricedStore.prices in
    let keeps = g.S.PricedStore.keeps in
    let l = the_loop c.args.on.now in
    let paced = λ (none : Bool). pacing prices (holding_of c.in-Ok.holds) none c.args.costs in
    MatchResult-weaker c.show_run.result
    (subst (λ (none : Bool). MatchResult c.show_run.result (λ shown. IsEvenText starts makes view waits keeps (paced none) l shown.0 shown.1.items) (IsEvenStop starts makes view waits keeps (paced none) l))
    c.is_empty.ensures c.show_run.ensures)
    (λ shown is. even_text starts makes view waits prices keeps c.args.addresses.now l c.args.costs (holding_of c.in-Ok.holds) shown.0 shown.1.items c.in-Ok.ensures is)
    (λ cause is. even_stop starts makes view waits prices keeps c.args.addresses.now l c.args.costs (holding_of c.in-Ok.holds) cause c.in-Ok.ensures is)
