use Rattle.std.proofs.Common.{sym, arith}
use Rattle.spec_bus.specs.Cached.{store_view}
use Rattle.machine_tests.proofs.Checking.{begins_is}
use Rattle.machine_tests.proofs.caches.checks.may_begin.Goals as goal

pub returns : goal.returns
returns c =
    begins_is (store_view c.args.bus.now) c.args.core c.args.epoch c.look.ensures.settled
    (omega (arith, c.if-core-cores.false, c.cores.ensures)) (sym c.in-None.ensures)
    (λ k below. c.loop-k.invariant k (omega (arith, below, c.loop-k-test.false, c.cores-k-end.ensures)))
