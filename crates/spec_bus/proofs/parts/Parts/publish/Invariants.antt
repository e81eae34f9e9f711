use Rattle.std.proofs.Common.{length}
use Rattle.violations.specs.CoreSet.{is_in}
use Rattle.spec_bus.specs.Parts.{bus_in}
use Rattle.spec_bus.proofs.PublishLoop.{IsPublishing}
use Rattle.spec_bus.proofs.parts.Parts.publish.Given as goal

abbrev pub invariant-loop-addr : goal.invariant-loop-addr
invariant-loop-addr l = IsPublishing (bus_in l.initial.self) (bus_in l.self) l.core (is_in l.hurt)

abbrev pub decreases-loop-addr : goal.decreases-loop-addr
decreases-loop-addr l = length ((bus_in l.self).core l.core).buffer.lines
