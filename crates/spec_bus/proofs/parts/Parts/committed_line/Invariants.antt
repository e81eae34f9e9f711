use Rattle.std.proofs.Common.{◌≡◌, ℕ, slice_index}
use Rattle.bus_states.specs.Bus.{committed_among, memory_line}
use Rattle.spec_bus.specs.Parts.{bus_in}
use Rattle.spec_bus.proofs.parts.Parts.committed_line.Given as goal

abbrev pub invariant-loop-k : goal.invariant-loop-k
invariant-loop-k l =
    (x : ℕ) → slice_index l.line x
    ≡ committed_among l.k (λ k. ((bus_in l.self).core k).copy l.addr) (memory_line (bus_in l.self).line_length (bus_in l.self).memory l.addr) x
