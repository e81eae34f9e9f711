use Rattle.spec_history.proofs.Replay.Counting.{commits_are}
use Rattle.spec_history.proofs.laws.commits_are_the_epochs_before_the_homefree_one.Goals as goal

pub returns : goal.returns
returns c image cores entries s replays = commits_are image cores entries s replays
