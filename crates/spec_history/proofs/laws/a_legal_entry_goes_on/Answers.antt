use Rattle.spec_history.proofs.Replay.Reaching.{one_more_entry}
use Rattle.spec_history.proofs.laws.a_legal_entry_goes_on.Goals as goal

pub returns : goal.returns
returns c image cores entries s entry replays legal = one_more_entry image cores entries s entry replays legal
