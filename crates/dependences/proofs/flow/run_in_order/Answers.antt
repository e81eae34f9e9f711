use Rattle.std.proofs.Common.{◌∙◌}
use Rattle.dependences.proofs.Ending.{left_first}
use Rattle.dependences.proofs.Running.{run_begun}
use Rattle.dependences.proofs.flow.run_in_order.Goals as goal

pub run_all-requires-clause-left : goal.run_all-requires-clause-left
run_all-requires-clause-left g c = left_first c.args.image.now _ (c.as_mut_slice.ensures.value ∙ (c.in_ok-memory.ensures.items ∙ c.bytes.ensures.bytes))

pub run_all-requires-clause-kept : goal.run_all-requires-clause-kept
run_all-requires-clause-kept g c = run_begun g.F.Found.keeps c.args.image.now _ _ c.in_ok-flow.ensures c.in_ok-lengths.ensures.items
