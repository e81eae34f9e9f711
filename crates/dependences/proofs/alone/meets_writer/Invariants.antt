use Rattle.std.proofs.Common.{◌-◌, ◌+◌, ◌≤◌}
use Rattle.dependences.proofs.Outside.{Alone}
use Rattle.dependences.proofs.alone.meets_writer.Given as goal

-- it has met no such writer so far
abbrev pub invariant-accesses : goal.invariant-accesses
invariant-accesses l = record {
  alone : Alone l.image l.epoch l.fn.memory l.fn.writers l.first l.memory l.writers l.hart;
  within : l.hart.done ≤ l.image.limit;
}

abbrev pub decreases-accesses : goal.decreases-accesses
decreases-accesses l = l.image.limit + 1 - l.hart.done
