use Rattle.std.proofs.Common.{slice_index}
use Rattle.spec_bus.proofs.CommittedMemory.{AreWritten}
use Rattle.spec_bus.proofs.bus_core.Core.write_lines.Given as goal

abbrev pub invariant-loop-place : goal.invariant-loop-place
invariant-loop-place l = AreWritten l.self.cache l.place (slice_index l.initial.memory) (slice_index l.memory)
