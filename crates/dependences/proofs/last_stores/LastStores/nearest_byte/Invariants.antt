use Rattle.dependences.proofs.Flowing.{IsFoundSo}
use Rattle.dependences.proofs.last_stores.LastStores.nearest_byte.Given as goal

-- the nearest of the bytes so far
abbrev pub invariant-loop-byte : goal.invariant-loop-byte
invariant-loop-byte l = IsFoundSo l.self.writers l.epoch l.addr l.byte l.latest l.nearest
