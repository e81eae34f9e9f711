use Rattle.std.proofs.Common.{◌≡◌, ◌<◌, ℕ, false}
use Rattle.spec_bus.specs.Cached.{bus, line_of}
use Rattle.turn_costs.specs.Accesses.{is_modified_at}
use Rattle.turn_costs.proofs.bus.is_modified_elsewhere.Given as goal

-- no core below k has it
abbrev pub invariant-loop-k : goal.invariant-loop-k
invariant-loop-k l = (j : ℕ) → j < l.k → is_modified_at (bus l.bus) l.core (line_of l.bus l.addr) j ≡ false
