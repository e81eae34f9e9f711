use Rattle.std.proofs.Common.{◌*◌}
use Rattle.dependences.specs.KeptStores.{AreMarked}
use Rattle.dependences.proofs.last_stores.spread_one.Given as goal

-- the store is beside the bytes so far
abbrev pub invariant-loop-i : goal.invariant-loop-i
invariant-loop-i l = AreMarked l.fn.bytes l.bytes (4 * l.word) l.i l.by.writer l.by.step l.by.pc
