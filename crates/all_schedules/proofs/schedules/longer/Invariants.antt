use Rattle.std.proofs.Common.{◌≡◌, take}
use Rattle.all_schedules.specs.Schedules.{lists_of}
use Rattle.all_schedules.specs.Longer.{longer}
use Rattle.all_schedules.proofs.schedules.longer.Given as goal

-- those so far went on
abbrev pub invariant-loop-schedule : goal.invariant-loop-schedule
invariant-loop-schedule l = lists_of l.made.items ≡ longer l.cores (lists_of (take l.schedule-index l.schedules))
