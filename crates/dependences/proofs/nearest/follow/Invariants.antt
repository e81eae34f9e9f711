use Rattle.std.proofs.Common.{◌-◌, ◌+◌, ◌≤◌}
use Rattle.dependences.specs.KeptRun.{Following}
use Rattle.dependences.proofs.nearest.follow.Given as goal

-- it is kept what the epoch has done so far
abbrev pub invariant-accesses : goal.invariant-accesses
invariant-accesses l = record {
  following : Following l.image l.epoch l.memory l.writers l.hart l.nearest;
  within : l.hart.done ≤ l.image.limit;
}

abbrev pub decreases-accesses : goal.decreases-accesses
decreases-accesses l = l.image.limit + 1 - l.hart.done
