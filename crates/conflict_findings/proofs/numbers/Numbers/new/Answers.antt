use Rattle.conflict_findings.proofs.Noting.{no_runs}
use Rattle.conflict_findings.proofs.numbers.Numbers.new.Goals as goal

pub returns-clause-known : goal.returns-clause-known
returns-clause-known c entries = no_runs entries c.new.result c.new.ensures.empty
