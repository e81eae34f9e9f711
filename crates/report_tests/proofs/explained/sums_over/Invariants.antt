use Rattle.std.proofs.Common.{List}
use Rattle.conflict_findings.specs.declared.rollback.Rollback.{Rollback}
use Rattle.conflict_findings.specs.AllSums.{AreAllSums}
use Rattle.report_tests.proofs.explained.sums_over.Given as goal

-- they are the sums of some violations
abbrev pub invariant-loop-finding : goal.invariant-loop-finding
invariant-loop-finding l = (rollbacks : List Rollback) × AreAllSums rollbacks l.sums
