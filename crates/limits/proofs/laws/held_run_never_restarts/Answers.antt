use Rattle.limits.proofs.HeldRuns.{restarts_never}
use Rattle.limits.proofs.laws.held_run_never_restarts.Goals as goal

pub returns : goal.returns
returns g c never uncached = restarts_never g.S.EpochStore.makes g.S.EpochStore.view g.S.EpochStore.waits g.S.PricedStore.keeps never uncached
