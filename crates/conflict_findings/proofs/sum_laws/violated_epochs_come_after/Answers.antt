use Rattle.std.proofs.Common.{arith}
use Rattle.conflict_findings.proofs.Apart.{comes_after}
use Rattle.conflict_findings.proofs.sum_laws.violated_epochs_come_after.Goals as goal

pub returns-clause-apart : goal.returns-clause-apart
returns-clause-apart c image cores s entries e is legal = omega (arith, comes_after image cores s entries e is legal)

pub returns-clause-sum : goal.returns-clause-sum
returns-clause-sum c image cores s entries e is legal = omega (arith, comes_after image cores s entries e is legal)
