use Rattle.rv32_exec.proofs.LawsOfRuns.{epoch_stops}
use Rattle.rv32_exec.proofs.laws.an_epoch_stops.Goals as goal

pub returns : goal.returns
returns c = epoch_stops
