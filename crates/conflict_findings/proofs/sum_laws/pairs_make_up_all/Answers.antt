use Rattle.conflict_findings.specs.declared.rollback.Rollback.{Rollback}
use Rattle.conflict_findings.specs.Pairs.{pairs_in}
use Rattle.conflict_findings.proofs.Parting.{pairs_add_up}
use Rattle.conflict_findings.proofs.Listing.{all_listed}
use Rattle.conflict_findings.proofs.sum_laws.pairs_make_up_all.Goals as goal

pub returns-clause-count : goal.returns-clause-count
returns-clause-count c rs = pairs_add_up (λ (r : Rollback). 1) (pairs_in rs) rs (all_listed rs)

pub returns-clause-lost : goal.returns-clause-lost
returns-clause-lost c rs = pairs_add_up (λ (r : Rollback). r.lost) (pairs_in rs) rs (all_listed rs)
