use Rattle.std.proofs.Common.{true, sym, subst, ◌∙◌}
use Rattle.violations.specs.View.{Runs, is_accessed, IsSettled}
use Rattle.violations.specs.CoreSet.{is_in}
use Rattle.violations.specs.Plain.{store_view}
use Rattle.violations.specs.PlainInside.{view_of}
use Rattle.violations.proofs.Publishing.{stored_settled, stored_fit, stores_straight, violates_readers}
use Rattle.violations.proofs.plain.PlainStoreEpochStore.straight_store.Goals as goal

pub invariant_of-self : goal.invariant_of-self
invariant_of-self c =
    let p = view_of c.self.inside in
    let hurt = is_in c.readers_from-hurt.result in record {
      size = c.self.invariant.size ∙ sym c.commit_number.ensures.long;
      fit = stored_fit p hurt c.commit_number.new.committed.items c.drop_attempts.new.states.items c.self.invariant.fit c.drop_attempts.ensures c.commit_number.ensures.long;
      settled = stored_settled p hurt c.commit_number.new.committed.items c.drop_attempts.new.states.items c.self.invariant.settled c.drop_attempts.ensures;
    }

pub returns-clause-stores : goal.returns-clause-stores
returns-clause-stores c =
    let p = view_of c.self.inside in
    let hurt = is_in c.readers_from-hurt.result in
    let runs = subst (λ v. Runs (store_view v) c.args.core true) (sym c.self.view_is) c.requires.runs in
    rw (← c.self.view_is) (stores_straight p c.args.core c.args.addr c.args.width c.args.value hurt c.commit_number.new.committed.items c.drop_attempts.new.states.items
    c.self.invariant.settled runs (rw c.as_slice.ensures.value at c.readers_from-hurt.ensures) c.drop_attempts.ensures c.commit_number.ensures.long c.commit_number.ensures.bytes)

pub returns-clause-violates : goal.returns-clause-violates
returns-clause-violates c =
    let p = view_of c.self.inside in
    let hurt = is_in c.readers_from-hurt.result in
    rw (← c.self.view_is) (violates_readers p c.args.core (is_accessed c.args.addr c.args.width) hurt c.self.invariant.settled (rw c.as_slice.ensures.value at c.readers_from-hurt.ensures))

pub returns-clause-makes : goal.returns-clause-makes
returns-clause-makes c = record {
  before = subst (λ v. IsSettled (store_view v)) c.self.view_is c.self.invariant.settled;
  after = (invariant_of-self c).settled;
  made = record { runs = c.requires.runs; hurt = is_in c.readers_from-hurt.result; stores = returns-clause-stores c; violates = returns-clause-violates c };
}
