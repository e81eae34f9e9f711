use Rattle.turn_costs.proofs.Fixing.{actions_fixed}
use Rattle.turn_costs.proofs.laws.actions_are_fixed.Goals as goal

pub returns : goal.returns
returns g c =
    actions_fixed g.S.PricedStore.keeps g.S.EpochStore.alike g.S.PricedStore.prices g.S.EpochStore.waits c.prices_are_fixed.ensures.prices c.prices_are_fixed.ensures.waits
