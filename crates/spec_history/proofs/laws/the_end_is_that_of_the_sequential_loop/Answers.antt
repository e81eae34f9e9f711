use Rattle.spec_history.proofs.Replay.Replays.{replayed}
use Rattle.spec_history.proofs.laws.the_end_is_that_of_the_sequential_loop.Goals as goal

pub returns : goal.returns
returns c image cores entries s end is replays ended = (replayed image cores entries s is replays).ends end ended
