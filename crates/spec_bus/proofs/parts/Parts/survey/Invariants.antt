use Rattle.violations.specs.CoreSet.{is_in}
use Rattle.bus_states.specs.Messages.{message_of}
use Rattle.spec_bus.specs.Parts.{bus_in}
use Rattle.spec_bus.proofs.Surveys.{IsSurveyed}
use Rattle.spec_bus.proofs.parts.Parts.survey.Given as goal

abbrev pub invariant-loop-k : goal.invariant-loop-k
invariant-loop-k l = IsSurveyed (bus_in l.self) (message_of (bus_in l.self) l.notice l.core l.addr) l.k (is_in l.hurt) l.busy l.shared
