use Rattle.spec_bus.proofs.SameRooms.{calls_fixed}
use Rattle.spec_bus.proofs.laws.calls_are_fixed.Goals as goal

pub returns : goal.returns
returns c = calls_fixed
