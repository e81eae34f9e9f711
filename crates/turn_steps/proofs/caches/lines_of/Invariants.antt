use Rattle.std.proofs.Common.{◌≡◌, take}
use Rattle.turn_steps.proofs.caches.lines_of.Given as goal

-- the lines so far
abbrev pub invariant-loop-place : goal.invariant-loop-place
invariant-loop-place l = l.lines.items ≡ take l.place l.orb.lines
