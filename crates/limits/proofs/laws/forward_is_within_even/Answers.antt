use Rattle.limits.specs.declared.limit.Waits.TheVariants.{Store}
use Rattle.limits.proofs.Bounding.{below_runs, for_stores}
use Rattle.limits.proofs.laws.forward_is_within_even.Goals as goal

pub returns : goal.returns
returns g c = below_runs g.S.EpochStore.makes g.S.EpochStore.view g.S.EpochStore.waits g.S.PricedStore.keeps Store (λ store. for_stores (g.S.EpochStore.waits store))
