use Rattle.std.proofs.Common.{◌∙◌, sym, ap, is_some, option_copied, None}
use Rattle.homefree.specs.Turned.{turn_at}
use Rattle.turn_costs.proofs.Turning.{by_core}
use Rattle.turn_costs.proofs.turn.actions_of.Goals as goal

pub returns-in_default-clause-value : goal.returns-in_default-clause-value
returns-in_default-clause-value g c = λ s replays.
    let t = turn_at g.S.EpochStore.waits c.args.book.now s c.args.core (option_copied c.args.next) in
    let on = ap is_some (sym (c.ended.ensures.end s replays)) ∙ (sym c.is_some.ensures ∙ c.if-is_some.false) in
    by_core (g.S.PricedStore.prices c.args.book.now.store) t None c.begin_of.result.actions on (ap option_copied (sym c.in_default.is) ∙ c.running.ensures s replays)
    (c.begin_of.ensures s c.args.core (option_copied c.args.next) replays)
