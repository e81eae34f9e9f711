use Rattle.conflicts.proofs.Needed.{missed}
use Rattle.conflicts.proofs.laws.only_true_sharing_is_missed.Goals as goal

pub returns : goal.returns
returns c image cores entries s by victim violated cause is replays at hurts goes commits_it =
    missed image cores entries s by victim violated cause is replays at hurts goes commits_it
