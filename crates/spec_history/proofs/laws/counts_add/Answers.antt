use Rattle.spec_history.proofs.Replay.Counting as counting
use Rattle.spec_history.proofs.laws.counts_add.Goals as goal

pub returns : goal.returns
returns c first later = counting.counts_add first later
