use Rattle.conflict_findings.proofs.Balance.{all_balanced}
use Rattle.conflict_findings.proofs.end_laws.each_attempt_ends_once_or_goes_on.Goals as goal

pub returns : goal.returns
returns c image cores entries s is replays = all_balanced image cores entries s is replays
