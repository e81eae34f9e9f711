use Rattle.std.proofs.Common.{length, ◌≡◌, ◌≤◌, ◌+◌, ◌-◌, false, refl, sym, ap, subst, arith}
use Rattle.violations.specs.View.{Runs, attempt_of, IsSettled}
use Rattle.violations.specs.Plain.{PlainView, store_view}
use Rattle.violations.specs.PlainInside.{view_of}
use Rattle.violations.proofs.Changing.{state_there}
use Rattle.violations.proofs.Plains.{fit_state}
use Rattle.violations.specs.CoreSet.{is_in}
use Rattle.violations.proofs.Calls.{access_settled}
use Rattle.violations.proofs.Accesses.{guards_loaded, loads}
use Rattle.violations.proofs.plain.PlainStoreEpochStore.load.Goals as goal

pub load-value-requires-clause-room : goal.load-value-requires-clause-room
load-value-requires-clause-room c =
    let p = view_of c.self.inside in
    let runs = subst (λ v. Runs (store_view v) c.args.core false) (sym c.self.view_is) c.requires.runs in
    let budget = subst (λ v. 1 ≤ v.budget) (sym c.self.view_is) c.requires.budget in
    let below = c.self.invariant.settled.there c.args.core (attempt_of runs.epoch false) runs.is in
    let there = state_there p.states p.states c.args.core c.index_mut-state.result.now refl below c.index_mut-state.ensures.value in
    let room = (c.self.invariant.fit.room budget).each c.args.core c.index_mut-state.result.now there in
    rw c.as_slice.ensures.value (record { own_cells = room.own_cells; guarded_cells = room.guarded_cells; own = omega (arith, room.own, budget); guarded = omega (arith, room.guarded, budget) })

pub invariant_of-self : goal.invariant_of-self
invariant_of-self c =
    let p = view_of c.self.inside in
    let runs = subst (λ v. Runs (store_view v) c.args.core false) (sym c.self.view_is) c.requires.runs in
    let budget = subst (λ v. 1 ≤ v.budget) (sym c.self.view_is) c.requires.budget in
    let below = c.self.invariant.settled.there c.args.core (attempt_of runs.epoch false) runs.is in
    let state = c.index_mut-state.result.now in
    let there = state_there p.states p.states c.args.core state refl below c.index_mut-state.ensures.value in
    let all : c.self.inside.budget - 1 + 1 ≡ c.self.inside.budget = omega (arith, budget) in
    let room = rw (← all) at ((c.self.invariant.fit.room budget).each c.args.core state there) in record {
      size = c.self.invariant.size;
      fit = fit_state p c.args.core c.load-value.new.self (c.self.inside.budget - 1) below (omega arith)
          (c.load-value.ensures.within (length p.committed) (c.self.invariant.fit.within.each c.args.core state there))
          (λ some. c.load-value.ensures.room (length p.committed) (c.self.inside.budget - 1) room) c.self.invariant.fit;
      settled = access_settled p c.args.core (c.self.inside.budget - 1) state c.load-value.new.self c.self.invariant.settled runs there c.load-value.ensures.attempt;
    }

pub returns-clause-loads : goal.returns-clause-loads
returns-clause-loads c =
    let p = view_of c.self.inside in
    let runs = subst (λ v. Runs (store_view v) c.args.core false) (sym c.self.view_is) c.requires.runs in
    let below = c.self.invariant.settled.there c.args.core (attempt_of runs.epoch false) runs.is in
    let state = c.index_mut-state.result.now in
    let there = state_there p.states p.states c.args.core state refl below c.index_mut-state.ensures.value in
    rw (← c.self.view_is) (loads p c.args.core c.args.addr c.args.width c.load-value.result (c.self.inside.budget - 1) state c.load-value.new.self (is_in c.none.result) c.none.ensures c.self.invariant.settled runs there
    c.load-value.ensures.attempt c.load-value.ensures.own (rw c.as_slice.ensures.value at c.load-value.ensures.guards) (rw c.as_slice.ensures.value at c.load-value.ensures.value) c.load-value.ensures.below)

pub returns-clause-guards : goal.returns-clause-guards
returns-clause-guards c =
    let p = view_of c.self.inside in
    let runs = subst (λ v. Runs (store_view v) c.args.core false) (sym c.self.view_is) c.requires.runs in
    let below = c.self.invariant.settled.there c.args.core (attempt_of runs.epoch false) runs.is in
    let state = c.index_mut-state.result.now in
    let there = state_there p.states p.states c.args.core state refl below c.index_mut-state.ensures.value in
    rw (← c.self.view_is) (guards_loaded p c.args.core c.args.addr c.args.width (c.self.inside.budget - 1) state c.load-value.new.self c.self.invariant.settled runs there
    (rw c.as_slice.ensures.value at c.load-value.ensures.guards))

pub returns-clause-makes : goal.returns-clause-makes
returns-clause-makes c = record {
  before = subst (λ v. IsSettled (store_view v)) c.self.view_is c.self.invariant.settled;
  after = (invariant_of-self c).settled;
  made = record { value = c.load-value.result; hurt = is_in c.none.result; loads = returns-clause-loads c; guards = returns-clause-guards c; nobody = c.none.ensures };
}

pub returns-clause-budget : goal.returns-clause-budget
returns-clause-budget c =
    let same = ap (λ (p : PlainView). p.budget) c.self.view_is in omega (arith, c.requires.budget, same)
