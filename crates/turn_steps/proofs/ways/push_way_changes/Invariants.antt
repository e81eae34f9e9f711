use Rattle.std.proofs.Common.{◌≡◌, ◌++◌}
use Rattle.turn_steps.specs.Caches.{standing_at}
use Rattle.turn_steps.specs.Places.{way_changes}
use Rattle.turn_steps.proofs.ways.push_way_changes.Given as goal

-- the places so far are written
abbrev pub invariant-loop-place : goal.invariant-loop-place
invariant-loop-place l = l.text.items ≡ l.initial.text.items ++ way_changes l.machine l.core (standing_at l.old) (standing_at l.now) l.place
