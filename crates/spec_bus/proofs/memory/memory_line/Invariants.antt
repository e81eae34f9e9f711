use Rattle.std.proofs.Common.{slice_index}
use Rattle.bus_states.specs.Bus.{memory_line}
use Rattle.spec_bus.proofs.Bytes.{AreBytes}
use Rattle.spec_bus.proofs.memory.memory_line.Given as goal

abbrev pub invariant-loop-x : goal.invariant-loop-x
invariant-loop-x l = AreBytes l.line (memory_line l.x (slice_index l.memory) l.addr)
