use Rattle.std.proofs.Common.{◌-◌}
use Rattle.core_threads.proofs.cores.+start.Given as goal

abbrev pub decreases-start : goal.decreases-start
decreases-start g l = l.run.now.cores - l.core
