use Rattle.dependences.proofs.InOrder.{path_in_order}
use Rattle.dependences.proofs.laws.without_conflict_paths_are_in_order.Goals as goal

pub returns : goal.returns
returns c image cores epoch is free within order = path_in_order image cores epoch is free within order
