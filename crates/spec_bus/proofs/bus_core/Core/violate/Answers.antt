use Rattle.spec_bus.proofs.Bytes.{zeros}
use Rattle.spec_bus.proofs.bus_core.Core.violate.Goals as goal

pub change-requires-clause-past : goal.change-requires-clause-past
change-requires-clause-past c x le = zeros x
