use Rattle.dependences.proofs.Violations.{over_lines}
use Rattle.dependences.proofs.laws.without_line_conflict_and_overflow_none_is_hurt.Goals as goal

pub returns : goal.returns
returns c image cores history s is replays starts known free room = over_lines image cores history s is replays starts known free room
