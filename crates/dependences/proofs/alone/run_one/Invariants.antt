use Rattle.std.proofs.Common.{◌-◌, ◌+◌, ◌≤◌}
use Rattle.epoch_paths.proofs.Outside.{OnPath}
use Rattle.dependences.proofs.alone.run_one.Given as goal

-- it runs over memory
abbrev pub invariant-accesses : goal.invariant-accesses
invariant-accesses l = record {
  path : OnPath l.image l.epoch l.fn.memory l.memory l.hart;
  within : l.hart.done ≤ l.image.limit;
}

abbrev pub decreases-accesses : goal.decreases-accesses
decreases-accesses l = l.image.limit + 1 - l.hart.done
