use Rattle.std.proofs.Common.{sym, ◌∙◌, arith}
use Rattle.spec_history.specs.Refusal.{is_at}
use Rattle.spec_history.specs.View.{state_in}
use Rattle.spec_history.proofs.CodedCores.CoreStates.{also_at}
use Rattle.spec_history.proofs.Searches.Tests.{all_fail, first_at, first_none}
use Rattle.conflicts.proofs.causes.core_at.Goals as goal

pub returns-then-runs-clause-first : goal.returns-then-runs-clause-first
returns-then-runs-clause-first c =
    sym (first_at c.args.cores (λ k. is_at c.args.epoch ((state_in c.args.flat.now).cores k)) c.loop-core.core (omega (arith, c.loop-core-test.true))
    (sym c.runs.ensures ∙ c.if-runs.true) c.loop-core.invariant)

pub loop-core-preserved : goal.loop-core-preserved
loop-core-preserved c =
    also_at (λ k. is_at c.args.epoch ((state_in c.args.flat.now).cores k)) c.loop-core.core c.loop-core.invariant (sym c.runs.ensures ∙ c.if-runs.false)

pub returns-clause-first : goal.returns-clause-first
returns-clause-first c =
    sym (first_none c.args.cores (λ k. is_at c.args.epoch ((state_in c.args.flat.now).cores k))
    (λ k below. c.loop-core.invariant k (omega (arith, below, c.loop-core-test.false))))

pub returns-clause-there : goal.returns-clause-there
returns-clause-there c =
    all_fail c.args.cores (λ k. is_at c.args.epoch ((state_in c.args.flat.now).cores k))
    (λ k below. c.loop-core.invariant k (omega (arith, below, c.loop-core-test.false)))
