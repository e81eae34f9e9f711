use Rattle.std.proofs.Common.{◌≡◌, ℕ, ◌+◌, ◌<◌, None}
use Rattle.memory_bytes.specs.Shadow.{byte_in}
use Rattle.violations.proofs.core_state.CoreState.guards_from.Given as goal

-- none of the bytes so far is guarded
abbrev pub invariant-loop-i : goal.invariant-loop-i
invariant-loop-i l = record {
  so_far : (k : ℕ) → k < l.i → byte_in l.self.guarded.cells (l.addr + k) ≡ None;
}
