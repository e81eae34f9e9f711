use Rattle.spec_history.proofs.Replay.Staying.{stays}
use Rattle.conflicts.proofs.laws.a_cause_stays.Goals as goal

pub returns : goal.returns
returns c entries more place core cause is = stays entries more place core cause is
