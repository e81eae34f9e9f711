use Rattle.run_command.proofs.RunLegal.{traced_run_is_legal}
use Rattle.run_command.proofs.laws.a_traced_run_is_legal.Goals as goal

pub returns : goal.returns
returns c = traced_run_is_legal
