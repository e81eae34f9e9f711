use Rattle.conflicts.proofs.Walking.{known_here}
use Rattle.conflicts.proofs.behind.Accesses.begun_at.Goals as goal

pub returns-clause-known : goal.returns-clause-known
returns-clause-known c size entries core begins = known_here size entries core c.args.place c.new.result c.new-2.result begins c.new.ensures.empty c.new-2.ensures.empty
