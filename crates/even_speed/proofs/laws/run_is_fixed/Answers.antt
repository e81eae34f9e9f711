use Rattle.even_speed.proofs.Fixed.{run_fixed}
use Rattle.even_speed.proofs.laws.run_is_fixed.Goals as goal

pub returns : goal.returns
returns g c = run_fixed g.S.EpochStore.makes g.S.EpochStore.alike g.S.EpochStore.view g.S.EpochStore.waits g.S.PricedStore.prices g.S.PricedStore.keeps c.turn_is_fixed.ensures c.actions_are_fixed.ensures
