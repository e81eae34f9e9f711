use Rattle.never_or_shown.proofs.Nevers.{never_shared}
use Rattle.never_or_shown.proofs.laws.without_line_conflict_and_shared_overflow_never_over_bus.Goals as goal

pub returns : goal.returns
returns c image cores free room = never_shared image cores free room
