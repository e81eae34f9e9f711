use Rattle.conflicts.proofs.Between.{missed_among}
use Rattle.conflicts.proofs.laws.only_true_sharing_is_missed_among_others.Goals as goal

pub returns : goal.returns
returns c image cores entries others s by victim violated cause is replays at notices goes commits_it =
    missed_among image cores entries others s by victim violated cause is replays at notices goes commits_it
