use Rattle.spec_history.proofs.Replay.Faults.{fault_in_order}
use Rattle.spec_history.proofs.laws.a_fault_is_that_of_the_sequential_loop.Goals as goal

pub returns : goal.returns
returns c image cores before later by cause pc s is replays = fault_in_order image cores before later s by cause pc is replays
