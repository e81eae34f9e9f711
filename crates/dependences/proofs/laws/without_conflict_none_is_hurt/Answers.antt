use Rattle.dependences.proofs.Violations.{over_bytes}
use Rattle.dependences.proofs.laws.without_conflict_none_is_hurt.Goals as goal

pub returns : goal.returns
returns c image cores history s is replays starts meets free = over_bytes image cores history s is replays starts meets free
