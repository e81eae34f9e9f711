use Rattle.turn_steps.specs.Caches.{AreHeld}
use Rattle.turn_steps.proofs.bus.shown_cores.Given as goal

-- the cores so far
abbrev pub invariant-loop-core : goal.invariant-loop-core
invariant-loop-core l = AreHeld l.placed.machine l.placed.caches.now l.core l.shown.items
