use Rattle.rv32_exec.proofs.Accesses.{stop_of_event}
use Rattle.rv32_exec.proofs.laws.the_next_access_is_in_memory.Goals as goal

pub returns : goal.returns
returns c = stop_of_event
