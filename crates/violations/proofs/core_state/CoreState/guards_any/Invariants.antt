use Rattle.std.proofs.Common.{◌≡◌, ℕ, ◌<◌, Some, None, slice_index}
use Rattle.memory_bytes.specs.Shadow.{byte_in, Covers}
use Rattle.violations.proofs.core_state.CoreState.guards_any.Given as goal

-- none of the bytes so far is guarded
abbrev pub invariant-loop-addr : goal.invariant-loop-addr
invariant-loop-addr l = record {
  covers : Covers l.own.cells l.addr-items;
  so_far : (place : ℕ) → place < l.addr-index → (byte : ℕ) → byte_in l.own.cells (slice_index l.addr-items place) ≡ Some byte
      → byte_in l.self.guarded.cells (slice_index l.addr-items place) ≡ None;
}
