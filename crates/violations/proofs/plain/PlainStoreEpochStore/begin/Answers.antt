use Rattle.std.proofs.Common.{refl, sym, subst, arith}
use Rattle.violations.specs.View.{MayBegin, IsSettled}
use Rattle.violations.specs.Plain.{store_view}
use Rattle.violations.specs.PlainInside.{view_of}
use Rattle.violations.proofs.Changing.{state_there}
use Rattle.violations.proofs.Plains.{fit_state}
use Rattle.violations.proofs.Calls.{begun, begun_settled, begins}
use Rattle.violations.proofs.plain.PlainStoreEpochStore.begin.Goals as goal

pub invariant_of-self : goal.invariant_of-self
invariant_of-self c =
    let p = view_of c.self.inside in
    let may = subst (λ v. MayBegin (store_view v) c.args.core c.args.epoch) (sym c.self.view_is) c.requires.may in
    let state = c.index_mut-state.result.now in
    let there = state_there p.states p.states c.args.core state refl may.there c.index_mut-state.ensures.value in
    let within = c.self.invariant.fit.within.each c.args.core state there in record {
      size = c.self.invariant.size;
      fit = fit_state p c.args.core (begun state c.args.epoch) p.budget may.there (omega arith) (record { own = within.own; guarded = within.guarded })
          (λ some. let room = (c.self.invariant.fit.room some).each c.args.core state there in
          record { own_cells = room.own_cells; guarded_cells = room.guarded_cells; own = room.own; guarded = room.guarded })
          c.self.invariant.fit;
      settled = begun_settled p c.args.core c.args.epoch p.budget state c.self.invariant.settled may;
    }

pub returns-clause-begins : goal.returns-clause-begins
returns-clause-begins c =
    let p = view_of c.self.inside in
    let may = subst (λ v. MayBegin (store_view v) c.args.core c.args.epoch) (sym c.self.view_is) c.requires.may in
    let state = c.index_mut-state.result.now in
    let there = state_there p.states p.states c.args.core state refl may.there c.index_mut-state.ensures.value in
    rw (← c.self.view_is) (begins p c.args.core c.args.epoch p.budget state may there)

pub returns-clause-makes : goal.returns-clause-makes
returns-clause-makes c = record {
  before = subst (λ v. IsSettled (store_view v)) c.self.view_is c.self.invariant.settled;
  after = (invariant_of-self c).settled;
  made = returns-clause-begins c;
}
