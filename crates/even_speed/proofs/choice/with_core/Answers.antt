use Rattle.std.proofs.Common.{◌+◌, sym, subst, ap, ◌∙◌}
use Rattle.homefree.specs.Held.{harts_of}
use Rattle.even_speed.specs.Even.{price_by}
use Rattle.even_speed.specs.Kept.{IsNext}
use Rattle.even_speed.specs.Pricing.{IsLow, begins}
use Rattle.even_speed.proofs.Choosing.{more, none_due, skipped}
use Rattle.even_speed.proofs.choice.with_core.Goals as goal

pub returns-in_default : goal.returns-in_default
returns-in_default g c = λ dues is at.
    none_due c.args.free.now (price_by g.S.PricedStore.prices g.S.EpochStore.waits c.args.costs c.args.book.now (harts_of c.args.hands.now)) dues c.args.core (at ∙ c.in_default.is) c.args.found is

pub returns-then-not-may_begin_sooner : goal.returns-then-not-may_begin_sooner
returns-then-not-may_begin_sooner g c = λ dues is at.
    skipped c.args.free.now (price_by g.S.PricedStore.prices g.S.EpochStore.waits c.args.costs c.args.book.now (harts_of c.args.hands.now)) dues c.args.core c.in-Some.due (at ∙ c.in-Some.is)
    c.args.found (sym c.may_begin_sooner.ensures ∙ c.if-not-may_begin_sooner.true) is

pub returns : goal.returns
returns g c = λ dues is at.
    let prices = price_by g.S.PricedStore.prices g.S.EpochStore.waits c.args.costs c.args.book.now (harts_of c.args.hands.now) in
    let core = ap (λ t. t.core) c.turn_of.ensures in
    let due = ap (λ t. t.due) c.turn_of.ensures in
    let price = ap (λ t. t.price) c.turn_of.ensures in
    subst (IsNext c.args.free.now prices dues (c.args.core + 1)) (sym c.sooner.ensures)
    (more c.args.free.now prices dues c.args.core c.in-Some.due (at ∙ c.in-Some.is) c.turn_of.result core due (price ∙ c.price_at-price.ensures.price)
    (ap (λ t. t.at) c.turn_of.ensures ∙ (ap (λ p. begins c.args.free.now p c.in-Some.due) (sym price) ∙ ap (begins c.args.free.now c.turn_of.result.price) (sym due)))
    (subst IsLow (sym price) c.price_at-price.ensures.low) c.args.found is)
