use Rattle.rv32_exec.proofs.LawsOfRuns.{next_event_reached}
use Rattle.rv32_exec.proofs.laws.whole_instructions_reach_the_next_event.Goals as goal

pub returns : goal.returns
returns c = next_event_reached
