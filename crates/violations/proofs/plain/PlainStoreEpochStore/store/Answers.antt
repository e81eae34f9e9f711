use Rattle.std.proofs.Common.{◌≤◌, ◌-◌, false, refl, sym, subst, arith, rules}
use Rattle.violations.specs.View.{Runs, attempt_of, IsSettled}
use Rattle.violations.specs.Plain.{store_view}
use Rattle.violations.specs.PlainInside.{view_of}
use Rattle.violations.proofs.Changing.{state_there}
use Rattle.violations.proofs.Plains.{fit_state}
use Rattle.violations.proofs.Calls.{access_settled}
use Rattle.violations.specs.CoreSet.{is_in}
use Rattle.violations.proofs.Accesses.{stores}
use Rattle.violations.proofs.plain.PlainStoreEpochStore.store.Goals as goal

pub keep-requires-clause-room : goal.keep-requires-clause-room
keep-requires-clause-room c =
    let p = view_of c.self.inside in
    let runs = subst (λ v. Runs (store_view v) c.args.core false) (sym c.self.view_is) c.requires.runs in
    let budget = subst (λ v. 1 ≤ v.budget) (sym c.self.view_is) c.requires.budget in
    let below = c.self.invariant.settled.there c.args.core (attempt_of runs.epoch false) runs.is in
    let there = state_there p.states p.states c.args.core c.index_mut-state.result.now refl below c.index_mut-state.ensures.value in
    let room = (c.self.invariant.fit.room budget).each c.args.core c.index_mut-state.result.now there in
    let wide : c.args.width ≤ 4 = search rules in omega (arith, room.own, budget, wide)

pub invariant_of-self : goal.invariant_of-self
invariant_of-self c =
    let p = view_of c.self.inside in
    let runs = subst (λ v. Runs (store_view v) c.args.core false) (sym c.self.view_is) c.requires.runs in
    let budget = subst (λ v. 1 ≤ v.budget) (sym c.self.view_is) c.requires.budget in
    let below = c.self.invariant.settled.there c.args.core (attempt_of runs.epoch false) runs.is in
    let state = c.index_mut-state.result.now in
    let there = state_there p.states p.states c.args.core state refl below c.index_mut-state.ensures.value in
    let within = c.self.invariant.fit.within.each c.args.core state there in
    let room = (c.self.invariant.fit.room budget).each c.args.core state there in
    let wide : c.args.width ≤ 4 = search rules in record {
      size = c.self.invariant.size;
      fit = fit_state p c.args.core (record state { own = c.keep.new.self }) (c.self.inside.budget - 1) below (omega arith)
          (record { own = omega (arith, c.keep.ensures.long, within.own); guarded = within.guarded })
          (λ some. record {
            own_cells = omega (arith, c.keep.ensures.long, room.own_cells);
            guarded_cells = room.guarded_cells;
            own = omega (arith, room.own, c.keep.ensures.room, wide, budget);
            guarded = omega (arith, room.guarded);
          })
          c.self.invariant.fit;
      settled = access_settled p c.args.core (c.self.inside.budget - 1) state (record state { own = c.keep.new.self }) c.self.invariant.settled runs there refl;
    }

pub returns-clause-stores : goal.returns-clause-stores
returns-clause-stores c =
    let p = view_of c.self.inside in
    let runs = subst (λ v. Runs (store_view v) c.args.core false) (sym c.self.view_is) c.requires.runs in
    let below = c.self.invariant.settled.there c.args.core (attempt_of runs.epoch false) runs.is in
    let state = c.index_mut-state.result.now in
    let there = state_there p.states p.states c.args.core state refl below c.index_mut-state.ensures.value in (
      refl,
      rw (← c.self.view_is) (stores p c.args.core c.args.addr c.args.width c.args.value (c.self.inside.budget - 1) state (record state { own = c.keep.new.self }) (is_in c.none.result) c.none.ensures
          c.self.invariant.settled runs there refl refl c.keep.ensures.kept),
    )

pub returns-clause-makes : goal.returns-clause-makes
returns-clause-makes c = record {
  before = subst (λ v. IsSettled (store_view v)) c.self.view_is c.self.invariant.settled;
  after = (invariant_of-self c).settled;
  made = record { hurt = is_in c.none.result; stores = (returns-clause-stores c).1; nobody = c.none.ensures };
}
