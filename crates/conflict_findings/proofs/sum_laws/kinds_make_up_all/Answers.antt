use Rattle.conflict_findings.proofs.Parting.{kinds_add_up}
use Rattle.conflict_findings.specs.declared.rollback.Rollback.{Rollback}
use Rattle.conflict_findings.proofs.sum_laws.kinds_make_up_all.Goals as goal

pub returns-clause-count : goal.returns-clause-count
returns-clause-count c rs = kinds_add_up (λ (r : Rollback). 1) rs

pub returns-clause-lost : goal.returns-clause-lost
returns-clause-lost c rs = kinds_add_up (λ (r : Rollback). r.lost) rs
