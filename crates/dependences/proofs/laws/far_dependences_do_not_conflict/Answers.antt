use Rattle.dependences.proofs.Showing.{far_apart}
use Rattle.dependences.proofs.laws.far_dependences_do_not_conflict.Goals as goal

pub returns : goal.returns
returns c image cores nearest is order nearest_is far conflict = far_apart image cores nearest is order nearest_is far conflict
