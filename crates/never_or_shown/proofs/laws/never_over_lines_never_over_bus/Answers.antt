use Rattle.never_or_shown.proofs.Nevers.{never_known}
use Rattle.never_or_shown.proofs.laws.never_over_lines_never_over_bus.Goals as goal

pub returns : goal.returns
returns c image cores never = never_known image cores never
