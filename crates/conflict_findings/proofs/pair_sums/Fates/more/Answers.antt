use Rattle.std.proofs.Common.{ap, arith}
use Rattle.conflict_findings.specs.declared.pair_sums.Fates.{Fates}
use Rattle.conflict_findings.specs.declared.rollback.Rollback.{Rollback}
use Rattle.conflict_findings.proofs.Pairing.{same_fates, test_push}
use Rattle.conflict_findings.proofs.Pushing.{count_fits}
use Rattle.conflict_findings.proofs.pair_sums.Fates.more.Goals as goal

pub overflow_add-result : goal.overflow_add-result
overflow_add-result c = omega (arith, count_fits (λ (r : Rollback). r.stale) c.requires.0 c.args.rollback.now.lost _ c.args.rollback.now.stale c.requires.2 (ap (λ (f : Fates). f.stale) c.requires.1))

pub overflow_add-result-2 : goal.overflow_add-result-2
overflow_add-result-2 c = omega (arith, count_fits (λ (r : Rollback). r.vain) c.requires.0 c.args.rollback.now.lost _ c.args.rollback.now.vain c.requires.2 (ap (λ (f : Fates). f.vain) c.requires.1))

pub overflow_add-result-3 : goal.overflow_add-result-3
overflow_add-result-3 c =
    omega (arith, count_fits (λ (r : Rollback). r.came_true) c.requires.0 c.args.rollback.now.lost _ c.args.rollback.now.came_true c.requires.2 (ap (λ (f : Fates). f.came_true) c.requires.1))

pub returns : goal.returns
returns c rs is =
    same_fates _ _ _ _ _ _
    (test_push (λ (r : Rollback). r.stale) rs c.args.rollback.now _ (ap (λ (f : Fates). f.stale) is))
    (test_push (λ (r : Rollback). r.vain) rs c.args.rollback.now _ (ap (λ (f : Fates). f.vain) is))
    (test_push (λ (r : Rollback). r.came_true) rs c.args.rollback.now _ (ap (λ (f : Fates). f.came_true) is))
