use Rattle.dependences.proofs.Early.{early}
use Rattle.dependences.proofs.laws.early_epochs_conflict_on_few_cores.Goals as goal

pub returns : goal.returns
returns c image cores conflict within = early image cores conflict within
