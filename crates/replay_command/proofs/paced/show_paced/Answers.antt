use Rattle.std.proofs.Common.{MatchResult, sym, subst}
use Rattle.all_schedules.specs.Made.{the_loop}
use Rattle.replay_command.specs.declared.paced.Pace.{Pace}
use Rattle.replay_command.specs.Paced.{IsPacedStop, IsPacedText}
use Rattle.replay_command.proofs.paced.show_paced.Goals as goal

pub returns-in-Even : goal.returns-in-Even
returns-in-Even g c =
    let starts = g.S.EpochStore.starts in
    let makes = g.S.EpochStore.makes in
    let view = g.S.EpochStore.view in
    let waits = g.S.EpochStore.waits in
    let prices = g.S.PricedStore.prices in
    let keeps = g.S.PricedStore.keeps in
    let l = the_loop c.args.on.now in
    subst (λ (pace : Pace). MatchResult c.show_even.result (λ shown. IsPacedText starts makes view waits prices keeps c.args.addresses.now pace l shown.0 shown.1.items) (IsPacedStop starts makes view waits prices keeps c.args.addresses.now pace l))
    (sym c.in-Even.is) c.show_even.ensures

pub returns-in-Held : goal.returns-in-Held
returns-in-Held g c =
    let starts = g.S.EpochStore.starts in
    let makes = g.S.EpochStore.makes in
    let view = g.S.EpochStore.view in
    let waits = g.S.EpochStore.waits in
    let prices = g.S.PricedStore.prices in
    let keeps = g.S.PricedStore.keeps in
    let l = the_loop c.args.on.now in
    subst (λ (pace : Pace). MatchResult c.show_held.result (λ shown. IsPacedText starts makes view waits prices keeps c.args.addresses.now pace l shown.0 shown.1.items) (IsPacedStop starts makes view waits prices keeps c.args.addresses.now pace l))
    (sym c.in-Held.is) (c.show_held.ensures c.args.addresses.now)

pub returns-in-Seeded : goal.returns-in-Seeded
returns-in-Seeded g c =
    let starts = g.S.EpochStore.starts in
    let makes = g.S.EpochStore.makes in
    let view = g.S.EpochStore.view in
    let waits = g.S.EpochStore.waits in
    let prices = g.S.PricedStore.prices in
    let keeps = g.S.PricedStore.keeps in
    let l = the_loop c.args.on.now in
    subst (λ (pace : Pace). MatchResult c.show_seeded.result (λ shown. IsPacedText starts makes view waits prices keeps c.args.addresses.now pace l shown.0 shown.1.items) (IsPacedStop starts makes view waits prices keeps c.args.addresses.now pace l))
    (sym c.in-Seeded.is) (c.show_seeded.ensures c.args.addresses.now)
