use Rattle.std.proofs.Common.{◌≡◌, ◌+◌, ◌≤◌, length, slice_index}
use Rattle.memory_bytes.specs.Shadow.{byte_in}
use Rattle.memory_bytes.proofs.Stores.{Noting}
use Rattle.memory_bytes.proofs.shadow.ShadowBytes.note.Given as goal

-- the bytes so far are noted
abbrev pub invariant-loop-i : goal.invariant-loop-i
invariant-loop-i l = record {
  long : length l.self.cells ≡ length l.fn.self.cells;
  room : l.fn.self.room ≤ l.i + l.self.room;
  noting : Noting (byte_in l.own.cells) (λ a. slice_index l.memory a) (byte_in l.fn.self.cells) l.addr l.i l.self.cells;
}
