use Rattle.std.proofs.Common.{sym}
use Rattle.spec_bus.specs.Cached.{store_view}
use Rattle.machine_tests.proofs.Checking.{runs_is, same_bool}
use Rattle.machine_tests.proofs.caches.checks.runs.Goals as goal

pub returns : goal.returns
returns c = runs_is (store_view c.args.bus.now) c.args.core c.in-Some.attempt c.args.straight (sym c.in-Some.ensures) (same_bool c.in-Some.attempt.straight c.args.straight c.if-attempt-straight.false)
