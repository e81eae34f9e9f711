use Rattle.std.proofs.Common.{◌≡◌, length, slice_index}
use Rattle.memory_bytes.specs.Shadow.{byte_in, Covers}
use Rattle.memory_bytes.proofs.Stores.{Committing}
use Rattle.memory_bytes.proofs.shadow.ShadowBytes.commit.Given as goal

-- the bytes at the addresses so far are committed
abbrev pub invariant-loop-addr : goal.invariant-loop-addr
invariant-loop-addr l = record {
  long : length l.memory.items ≡ length l.fn.memory.items;
  covers : Covers l.self.cells l.addr-items;
  committing : Committing (byte_in l.self.cells) (λ a. slice_index l.fn.memory.items a) l.addr-items l.addr-index l.memory.items;
}
