use Rattle.memory_bytes.specs.Shadow.{byte_in}
use Rattle.spec_history.specs.Machine.{count_of_cores, state_of}
use Rattle.spec_history.proofs.Searches.Missing.{Passed}
use Rattle.spec_history.proofs.machine.Machine.commit_misses.Given as goal

-- the bytes so far would not change unseen
abbrev pub invariant-loop-addr : goal.invariant-loop-addr
invariant-loop-addr l = Passed (count_of_cores l.self) (state_of l.self) l.by (byte_in l.core.own.cells) l.addr-items l.addr-index
