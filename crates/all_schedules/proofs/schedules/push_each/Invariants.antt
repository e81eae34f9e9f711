use Rattle.std.proofs.Common.{◌≡◌, ◌++◌}
use Rattle.all_schedules.specs.Schedules.{lists_of}
use Rattle.all_schedules.specs.Longer.{going_on}
use Rattle.all_schedules.proofs.schedules.push_each.Given as goal

-- it went on with the cores so far
abbrev pub invariant-loop-core : goal.invariant-loop-core
invariant-loop-core l = lists_of l.made.items ≡ lists_of l.initial.made.items ++ going_on l.schedule l.core
