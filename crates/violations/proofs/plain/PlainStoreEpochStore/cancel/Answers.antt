use Rattle.std.proofs.Common.{false, length, refl, sym, subst, arith}
use Rattle.violations.specs.View.{Runs, attempt_of, IsSettled}
use Rattle.violations.specs.Plain.{store_view}
use Rattle.violations.specs.PlainInside.{view_of}
use Rattle.violations.proofs.Changing.{state_there}
use Rattle.violations.proofs.Plains.{fit_state}
use Rattle.violations.proofs.Calls.{ended_settled, ends}
use Rattle.violations.proofs.plain.PlainStoreEpochStore.cancel.Goals as goal

pub invariant_of-self : goal.invariant_of-self
invariant_of-self c =
    let p = view_of c.self.inside in
    let runs = subst (λ v. Runs (store_view v) c.args.core false) (sym c.self.view_is) c.requires.runs in
    let below = c.self.invariant.settled.there c.args.core (attempt_of runs.epoch false) runs.is in
    let state = c.index_mut-state.result.now in
    let there = state_there p.states p.states c.args.core state refl below c.index_mut-state.ensures.value in record {
      size = c.self.invariant.size;
      fit = fit_state p c.args.core c.drop_attempt.new.self p.budget below (omega arith)
          (c.drop_attempt.ensures.within (length p.committed) (c.self.invariant.fit.within.each c.args.core state there))
          (λ some. c.drop_attempt.ensures.room (length p.committed) p.budget ((c.self.invariant.fit.room some).each c.args.core state there)) c.self.invariant.fit;
      settled = ended_settled p c.args.core p.budget c.drop_attempt.new.self c.self.invariant.settled below c.drop_attempt.ensures.idle;
    }

pub returns-clause-cancels : goal.returns-clause-cancels
returns-clause-cancels c =
    let p = view_of c.self.inside in
    let runs = subst (λ v. Runs (store_view v) c.args.core false) (sym c.self.view_is) c.requires.runs in
    let below = c.self.invariant.settled.there c.args.core (attempt_of runs.epoch false) runs.is in
    rw (← c.self.view_is) (ends p c.args.core p.budget c.drop_attempt.new.self below c.drop_attempt.ensures.idle)

pub returns-clause-makes : goal.returns-clause-makes
returns-clause-makes c = record {
  before = subst (λ v. IsSettled (store_view v)) c.self.view_is c.self.invariant.settled;
  after = (invariant_of-self c).settled;
  made = returns-clause-cancels c;
}
