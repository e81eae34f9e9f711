use Rattle.spec_history.proofs.Replay.Replays.{replayed}
use Rattle.spec_history.proofs.laws.committed_memory_is_published.Goals as goal

pub returns : goal.returns
returns c image cores entries s is replays = (replayed image cores entries s is replays).published
