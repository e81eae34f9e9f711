use Rattle.conflict_findings.proofs.Losing.{all_lost, each_lost}
use Rattle.conflict_findings.proofs.end_laws.the_violated_are_the_explained.Goals as goal

pub returns-clause-each : goal.returns-clause-each
returns-clause-each c image cores entries s found is replays all places = each_lost image cores entries s found is replays all places

pub returns-clause-lost : goal.returns-clause-lost
returns-clause-lost c image cores entries s found is replays all places = all_lost image cores entries s found is replays all places
