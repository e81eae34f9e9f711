use Rattle.std.proofs.Common.{true, refl, sym, subst}
use Rattle.violations.specs.View.{Runs, attempt_of, IsSettled}
use Rattle.violations.specs.Plain.{store_view}
use Rattle.violations.specs.PlainInside.{view_of}
use Rattle.violations.proofs.Changing.{state_there}
use Rattle.violations.specs.CoreSet.{is_in}
use Rattle.violations.proofs.Accesses.{loads_straight}
use Rattle.violations.proofs.plain.PlainStoreEpochStore.straight_load.Goals as goal

pub returns-clause-loads : goal.returns-clause-loads
returns-clause-loads c =
    let p = view_of c.self.inside in
    let runs = subst (λ v. Runs (store_view v) c.args.core true) (sym c.self.view_is) c.requires.runs in
    let below = c.self.invariant.settled.there c.args.core (attempt_of runs.epoch true) runs.is in
    let state = c.index.result.now in
    let there = state_there p.states p.states c.args.core state refl below c.index.ensures in
    rw (← c.self.view_is) (loads_straight p c.args.core c.args.addr c.args.width c.number-value.result state (is_in c.none.result) c.none.ensures c.self.invariant.settled runs there
    (rw c.as_slice.ensures.value at c.number-value.ensures.number) c.number-value.ensures.below)

pub returns-clause-makes : goal.returns-clause-makes
returns-clause-makes c = record {
  before = subst (λ v. IsSettled (store_view v)) c.self.view_is c.self.invariant.settled;
  after = subst (λ v. IsSettled (store_view v)) c.self.view_is c.self.invariant.settled;
  made = record { runs = c.requires.runs; value = c.number-value.result; hurt = is_in c.none.result; loads = returns-clause-loads c; nobody = c.none.ensures };
}
