use Rattle.turn_steps.specs.Caches.{bus_changes}
use Rattle.turn_steps.proofs.bus.CachedBusShownStore.changes_are_fixed.Goals as goal

pub returns : goal.returns
returns c = λ cores old now old' now' same_old same_now i. bus_changes (same_old.bus_is i) (same_now.bus_is i) cores
