use Rattle.all_schedules.specs.Schedules.{AreAllSchedules, lists_of}
use Rattle.all_schedules.proofs.schedules.every_schedule.Given as goal

-- all of so many turns
abbrev pub invariant-loop-turn : goal.invariant-loop-turn
invariant-loop-turn l = AreAllSchedules l.cores l._turn (lists_of l.all.items)
