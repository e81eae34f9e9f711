use Rattle.dependences.specs.KeptStores.{AreMarked}
use Rattle.dependences.proofs.last_stores.LastStores.mark_bytes.Given as goal

-- the bytes so far are marked
abbrev pub invariant-loop-i : goal.invariant-loop-i
invariant-loop-i l = AreMarked l.fn.self l.self l.addr l.i l.by.writer l.by.step l.by.pc
