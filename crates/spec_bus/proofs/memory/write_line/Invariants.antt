use Rattle.std.proofs.Common.{◌≡◌, ℕ, slice_index}
use Rattle.bus_states.specs.Messages.{with_line}
use Rattle.spec_bus.proofs.memory.write_line.Given as goal

abbrev pub invariant-loop-x : goal.invariant-loop-x
invariant-loop-x l =
    (p : ℕ) → slice_index l.memory p ≡ with_line l.x l.addr (slice_index l.line) (slice_index l.initial.memory) p
