use Rattle.spec_history.proofs.Replay.Joining as joining
use Rattle.spec_history.proofs.laws.a_replay_splits.Goals as goal

pub returns-clause-splits : goal.returns-clause-splits
returns-clause-splits c image cores first later last replays = joining.splits image cores first later last replays

pub returns-clause-joins : goal.returns-clause-joins
returns-clause-joins c image cores first later s last one two = joining.history_goes_on image cores first later s last one two
