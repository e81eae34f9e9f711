use Rattle.std.proofs.Common.{◌≡◌, length, slice_index}
use Rattle.spec_bus.specs.Parts.{bus_in}
use Rattle.spec_bus.proofs.CommittedMemory.{CommittedBelow}
use Rattle.spec_bus.proofs.parts.Parts.committed_memory.Given as goal

abbrev pub invariant-loop-k : goal.invariant-loop-k
invariant-loop-k l =
    (length l.memory.items ≡ length l.self.memory.items)
    × CommittedBelow l.k (λ a j. ((bus_in l.self).core j).copy a) (bus_in l.self).line_length (bus_in l.self).memory (slice_index l.memory.items)
