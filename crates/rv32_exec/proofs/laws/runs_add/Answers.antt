use Rattle.rv32_exec.proofs.LawsOfRuns.{after_steps-+}
use Rattle.rv32_exec.proofs.laws.runs_add.Goals as goal

pub returns : goal.returns
returns c = after_steps-+
