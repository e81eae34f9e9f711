use Rattle.std.proofs.Common.{rules, sym, ◌∙◌}
use Rattle.spec_bus.specs.Cached as spec
use Rattle.machine_tests.proofs.Running.{runs_of}
use Rattle.machine_tests.proofs.buses.check_runs.Goals as goal

pub returns-in-Some : goal.returns-in-Some
returns-in-Some g c =
    runs_of (spec.store_view c.args.bus.now) c.args.core c.args.straight c.in-Some.attempt (sym c.attempt.ensures ∙ c.in-Some.is) (search rules)
