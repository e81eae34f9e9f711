use Rattle.even_speed.proofs.ZeroRuns.{zero_changes_nothing}
use Rattle.even_speed.proofs.laws.zero_costs_change_nothing.Goals as goal

pub returns : goal.returns
returns g c = record {
  asked = zero_changes_nothing g.S.EpochStore.makes g.S.EpochStore.view g.S.EpochStore.waits g.S.PricedStore.prices g.S.PricedStore.keeps;
  unasked = zero_changes_nothing g.S.EpochStore.makes g.S.EpochStore.view g.S.EpochStore.waits g.S.PricedStore.prices (λ store. Unit {0});
}
