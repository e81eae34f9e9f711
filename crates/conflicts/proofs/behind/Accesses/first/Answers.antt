use Rattle.conflicts.proofs.Walking.{known_first}
use Rattle.conflicts.proofs.behind.Accesses.first.Goals as goal

pub returns : goal.returns
returns c size entries core = known_first size entries core c.new.result c.new-2.result c.new.ensures.empty c.new-2.ensures.empty
