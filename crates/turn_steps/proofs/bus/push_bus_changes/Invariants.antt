use Rattle.std.proofs.Common.{◌≡◌, ◌++◌}
use Rattle.spec_bus.specs.Cached.{CachedView}
use Rattle.turn_steps.specs.Caches.{AreHeld, held_changes}
use Rattle.turn_steps.proofs.bus.push_bus_changes.Given as goal

-- the cores so far
abbrev pub invariant-loop-core : goal.invariant-loop-core
invariant-loop-core l = record {
  held : AreHeld l.placed.machine l.placed.caches.now l.core l.now.items;
  text : (old : CachedView) → AreHeld l.placed.machine old l.cores l.shown → l.text.items ≡ l.initial.text.items ++ held_changes l.placed.machine old l.placed.caches.now l.core;
}
