use Rattle.spec_bus.specs.Parts.{message_in}
use Rattle.spec_bus.proofs.Tellings.{AreTelling}
use Rattle.spec_bus.proofs.parts.Parts.tell.Given as goal

abbrev pub invariant-loop-k : goal.invariant-loop-k
invariant-loop-k l = AreTelling l.initial.self l.self (message_in l.sent) l.k
