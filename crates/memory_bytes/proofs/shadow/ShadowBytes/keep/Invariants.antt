use Rattle.std.proofs.Common.{◌≡◌, ◌+◌, ◌≤◌, length}
use Rattle.memory_bytes.specs.Shadow.{byte_in}
use Rattle.memory_bytes.proofs.Stores.{Storing, Keeping}
use Rattle.memory_bytes.proofs.shadow.ShadowBytes.keep.Given as goal

-- the bytes so far are kept, and the rest of the value is to come
abbrev pub invariant-loop-i : goal.invariant-loop-i
invariant-loop-i l = record {
  long : length l.self.cells ≡ length l.fn.self.cells;
  room : l.fn.self.room ≤ l.i + l.self.room;
  storing : Storing l.addr l.width l.value l.i l.rest;
  keeping : Keeping (byte_in l.fn.self.cells) l.addr l.width l.value l.i l.self.cells;
}
