use Rattle.core_threads.proofs.Results.{explains}
use Rattle.core_threads.proofs.run.history_is_explained.Goals as goal

pub returns : goal.returns
returns g c = explains g.S.EpochStore.view c.args.book.now c.look.ensures
