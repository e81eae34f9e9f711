use Rattle.std.proofs.Common.{◌≡◌}
use Rattle.turn_steps.specs.Caches.{lines_below}
use Rattle.turn_steps.proofs.caches.ways_of.Given as goal

-- those of the places so far
abbrev pub invariant-loop-place : goal.invariant-loop-place
invariant-loop-place l = l.lines.items ≡ lines_below l.placed.machine l.placed.caches.now l.core l.place
