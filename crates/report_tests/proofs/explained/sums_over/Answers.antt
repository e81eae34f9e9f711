use Rattle.std.proofs.Common.{[]}
use Rattle.report_tests.proofs.explained.sums_over.Goals as goal

pub loop-finding-init : goal.loop-finding-init
loop-finding-init c = ([], c.new-sums.ensures)

pub add-requires : goal.add-requires
add-requires c = c.loop-finding.invariant

pub loop-finding-preserved : goal.loop-finding-preserved
loop-finding-preserved c = (_, c.in_ok-add.ensures c.loop-finding.invariant.0 c.loop-finding.invariant.1)
