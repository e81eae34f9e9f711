use Rattle.limits.specs.declared.limit.Waits.TheVariants.{Commit}
use Rattle.limits.proofs.Bounding.{below_runs, for_commits}
use Rattle.limits.proofs.laws.commit_is_within_even.Goals as goal

pub returns : goal.returns
returns g c never = below_runs g.S.EpochStore.makes g.S.EpochStore.view g.S.EpochStore.waits g.S.PricedStore.keeps Commit (λ store. for_commits Commit (g.S.EpochStore.waits store) (never store))
