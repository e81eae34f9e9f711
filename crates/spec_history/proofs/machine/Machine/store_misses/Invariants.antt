use Rattle.spec_history.specs.Machine.{count_of_cores, state_of}
use Rattle.memory_bytes.proofs.Stores.{Storing}
use Rattle.spec_history.proofs.Searches.Missing.{Below}
use Rattle.spec_history.proofs.machine.Machine.store_misses.Given as goal

-- the bytes so far would not change unseen, and the rest of the value is to come
abbrev pub invariant-loop-i : goal.invariant-loop-i
invariant-loop-i l = record {
  storing : Storing l.addr l.width l.value l.i l.rest;
  below : Below (count_of_cores l.self) (state_of l.self) l.by l.addr l.width l.value l.i;
}
