use Rattle.std.proofs.Common.{sym, arith}
use Rattle.spec_bus.specs.Cached.{store_view}
use Rattle.machine_tests.proofs.Checking.{publishes_is}
use Rattle.machine_tests.proofs.caches.checks.may_publish.Goals as goal

pub returns : goal.returns
returns c =
    publishes_is (store_view c.args.bus.now) c.args.core c.in-Some.attempt c.look.ensures.settled (sym c.in-Some.ensures) c.if-attempt.false
    (λ k below. c.loop-k.invariant k (omega (arith, below, c.loop-k-test.false, c.cores-k-end.ensures)))
