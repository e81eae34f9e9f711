use Rattle.std.proofs.Common.{◌+◌, arith}
use Rattle.epoch_paths.proofs.InOrder.{all_in_order}
use Rattle.dependences.proofs.alone.run_between.Goals as goal

pub run_one-requires-clause-order : goal.run_one-requires-clause-order
run_one-requires-clause-order c = all_in_order c.args.image.now c.args.to (c.loop-epoch.epoch + 1) c.requires.order (omega (arith, c.loop-epoch-test.true))
