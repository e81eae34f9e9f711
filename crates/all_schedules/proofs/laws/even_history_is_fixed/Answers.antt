use Rattle.all_schedules.proofs.Fixed.{even_history_fixed}
use Rattle.all_schedules.proofs.laws.even_history_is_fixed.Goals as goal

pub returns : goal.returns
returns g c =
    even_history_fixed g.S.EpochStore.starts g.S.EpochStore.makes g.S.EpochStore.alike g.S.EpochStore.view g.S.EpochStore.waits c.calls_are_fixed.ensures.starts g.S.PricedStore.prices g.S.PricedStore.keeps
    c.run_is_fixed.ensures
