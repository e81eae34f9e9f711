use Rattle.std.proofs.Common.{◌-◌, ◌+◌, ◌≤◌}
use Rattle.limits.proofs.Running.{Running}
use Rattle.limits.proofs.limit.follow.Given as goal

-- it runs over memory, each step as early as it can be
abbrev pub invariant-accesses : goal.invariant-accesses
invariant-accesses l = record {
  running : Running l.image l.cores l.epoch l.fn.times.waits l.fn.times.commits l.memory l.times l.hart l.base;
  within : l.hart.done ≤ l.image.limit;
}

abbrev pub decreases-accesses : goal.decreases-accesses
decreases-accesses l = l.image.limit + 1 - l.hart.done
