use Rattle.std.proofs.Common.{◌≡◌, length, vec_capacity}
use Rattle.memory_bytes.proofs.Shadows.{Left}
use Rattle.memory_bytes.proofs.shadow.empty.Given as goal

-- the bytes that are left stand further on in the list
abbrev pub invariant-loop-addr : goal.invariant-loop-addr
invariant-loop-addr l = record {
  long : length l.cells.items ≡ length l.fn.cells.items;
  capacity : vec_capacity l.cells ≡ vec_capacity l.fn.cells;
  left : Left l.cells.items l.addr-items l.addr-index;
}
