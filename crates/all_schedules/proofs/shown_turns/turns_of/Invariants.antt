use Rattle.std.proofs.Common.{◌≡◌, take}
use Rattle.homefree.specs.Retraced.{turns_of}
use Rattle.all_schedules.proofs.shown_turns.turns_of.Given as goal

-- the turns so far
abbrev pub invariant-loop-entry : goal.invariant-loop-entry
invariant-loop-entry l = l.schedule.items ≡ turns_of l.cores (take l.entry-index l.entries)
