use Rattle.limits.proofs.Limited.{takes_limit}
use Rattle.limits.proofs.laws.held_run_takes_commit.Goals as goal

pub returns : goal.returns
returns g c never uncached = takes_limit g.S.EpochStore.makes g.S.EpochStore.view g.S.EpochStore.waits g.S.PricedStore.keeps never uncached
