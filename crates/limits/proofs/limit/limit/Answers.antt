use Rattle.std.proofs.Common.{sym, subst, ◌+◌, arith}
use Rattle.limits.specs.Limits.{IsLimit}
use Rattle.limits.specs.Kept.{HaveRun}
use Rattle.limits.proofs.Least.{run_limit, run_soon}
use Rattle.limits.proofs.limit.limit.Goals as goal

pub overflow_add-result : goal.overflow_add-result
overflow_add-result c =
    let soon = run_soon c.args.image.now c.args.cores c.in_ok-times.times.waits c.run_all.new.times c.in_ok-run_all.ensures c.bytes.ensures.limits.epochs_most in
    let last = c.last_commit.ensures in omega (arith, soon, last)

pub returns : goal.returns
returns c =
    let image = c.args.image.now in
    let run = subst (λ w. HaveRun image c.args.cores w c.run_all.new.times) c.in_ok-times.ensures.waits c.in_ok-run_all.ensures in
    subst (λ n. IsLimit image c.args.waits c.args.cores (n + 1)) (sym c.last_commit.ensures) (run_limit image c.args.cores c.args.waits c.run_all.new.times c.requires run)
