use Rattle.std.proofs.Common.{sym}
use Rattle.conflicts.proofs.Walking.{left}
use Rattle.conflicts.proofs.behind.Behind.take.Goals as goal

pub returns-then-accesses-place-clause-taken : goal.returns-then-accesses-place-clause-taken
returns-then-accesses-place-clause-taken c size entries known = known c.args.core c.in-Some.accesses (sym c.in-Some.ensures.value)

pub returns-then-accesses-place-clause-known : goal.returns-then-accesses-place-clause-known
returns-then-accesses-place-clause-known c size entries known = left size entries c.args.core c.args.self.now.found c.remove.new.self known c.remove.ensures.updates

pub returns-clause-taken : goal.returns-clause-taken
returns-clause-taken c size entries known = c.first.ensures size entries c.args.core

pub returns-clause-known : goal.returns-clause-known
returns-clause-known c size entries known = left size entries c.args.core c.args.self.now.found c.remove.new.self known c.remove.ensures.updates
