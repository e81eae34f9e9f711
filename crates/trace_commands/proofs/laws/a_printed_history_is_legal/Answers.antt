use Rattle.trace_commands.proofs.FoundLegal.{printed_is_legal}
use Rattle.trace_commands.proofs.laws.a_printed_history_is_legal.Goals as goal

pub returns : goal.returns
returns c = printed_is_legal
