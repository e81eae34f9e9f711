use Rattle.spec_history.proofs.Replay.Replays.{replayed}
use Rattle.spec_history.proofs.laws.every_replay_keeps.Goals as goal

pub returns : goal.returns
returns c image cores entries s is replays going = ((replayed image cores entries s is replays).going going).kept
