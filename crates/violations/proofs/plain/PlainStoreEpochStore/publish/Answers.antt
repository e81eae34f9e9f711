use Rattle.std.proofs.Common.{◌≡◌, ◌<◌, length, false, slice_get, refl, sym, subst, ◌∙◌, arith}
use Rattle.rv32_image.proofs.SmallFacts.{one_value}
use Rattle.violations.specs.declared.core_state.CoreState.{CoreState}
use Rattle.violations.specs.CoreState.{AreReaders, bytes_in}
use Rattle.violations.specs.View.{MayPublish, attempt_of, IsSettled}
use Rattle.violations.specs.CoreSet.{is_in}
use Rattle.violations.specs.Plain.{store_view}
use Rattle.violations.specs.PlainInside.{view_of}
use Rattle.violations.proofs.Changing.{state_there}
use Rattle.violations.proofs.Publishing.{published_settled, published_fit, publishes, owned_readers}
use Rattle.violations.proofs.plain.PlainStoreEpochStore.publish.Goals as goal

pub commit-requires : goal.commit-requires
commit-requires c =
    let p = view_of c.self.inside in
    let states = c.drop_attempts.new.states.items in
    let dropped = c.drop_attempts.ensures in
    let may = subst (λ v. MayPublish (store_view v) c.args.core) (sym c.self.view_is) c.requires.may in
    let was = c.self.invariant.settled.there c.args.core (attempt_of may.epoch false) may.is in
    let below : c.args.core < length states = omega (arith, was, dropped.long) in
    let there = state_there states states c.args.core c.index_mut-state.result.now refl below c.index_mut-state.ensures.value in
    ((dropped.within (length p.committed) c.self.invariant.fit.within).each c.args.core c.index_mut-state.result.now there).own

pub invariant_of-self : goal.invariant_of-self
invariant_of-self c =
    let p = view_of c.self.inside in
    let hurt = is_in c.readers_of-hurt.result in
    let states = c.drop_attempts.new.states.items in
    let dropped = c.drop_attempts.ensures in
    let may = subst (λ v. MayPublish (store_view v) c.args.core) (sym c.self.view_is) c.requires.may in
    let was = c.self.invariant.settled.there c.args.core (attempt_of may.epoch false) may.is in
    let below : c.args.core < length states = omega (arith, was, dropped.long) in
    let state = c.index_mut-state.result.now in
    let now = state_there states states c.args.core state refl below c.index_mut-state.ensures.value in
    let there = sym (dropped.kept c.args.core c.readers_of-hurt.ensures.others) ∙ now in record {
      size = c.self.invariant.size ∙ sym c.commit.ensures.long;
      fit = published_fit p c.args.core hurt c.commit.new.memory.items states state c.go_straight.new.self c.self.invariant.fit dropped below now c.commit.ensures.long
          c.go_straight.ensures.within c.go_straight.ensures.room;
      settled = published_settled p c.args.core hurt c.commit.new.memory.items states state c.go_straight.new.self c.self.invariant.settled may dropped there
          c.go_straight.ensures.attempt c.go_straight.ensures.none;
    }

pub returns-clause-publishes : goal.returns-clause-publishes
returns-clause-publishes c =
    let p = view_of c.self.inside in
    let hurt = is_in c.readers_of-hurt.result in
    let states = c.drop_attempts.new.states.items in
    let dropped = c.drop_attempts.ensures in
    let may = subst (λ v. MayPublish (store_view v) c.args.core) (sym c.self.view_is) c.requires.may in
    let was = c.self.invariant.settled.there c.args.core (attempt_of may.epoch false) may.is in
    let below : c.args.core < length states = omega (arith, was, dropped.long) in
    let state = c.index_mut-state.result.now in
    let now = state_there states states c.args.core state refl below c.index_mut-state.ensures.value in
    let there = sym (dropped.kept c.args.core c.readers_of-hurt.ensures.others) ∙ now in
    let first = state_there p.states p.states c.args.core c.index.result.now refl was c.index.ensures in
    let same : c.index.result.now ≡ state = one_value (slice_get p.states c.args.core) c.index.result.now state first there in
    let readers = subst (λ (l : CoreState). AreReaders c.args.core (bytes_in l.own.cells) p.states hurt) same (rw c.as_slice.ensures.value at c.readers_of-hurt.ensures) in
    rw (← c.self.view_is) (publishes p c.args.core hurt c.commit.new.memory.items states state c.go_straight.new.self c.self.invariant.settled may readers dropped there
    c.go_straight.ensures.attempt c.commit.ensures.long c.commit.ensures.bytes)

pub returns-clause-violates : goal.returns-clause-violates
returns-clause-violates c =
    let p = view_of c.self.inside in
    let hurt = is_in c.readers_of-hurt.result in
    let states = c.drop_attempts.new.states.items in
    let dropped = c.drop_attempts.ensures in
    let may = subst (λ v. MayPublish (store_view v) c.args.core) (sym c.self.view_is) c.requires.may in
    let was = c.self.invariant.settled.there c.args.core (attempt_of may.epoch false) may.is in
    let below : c.args.core < length states = omega (arith, was, dropped.long) in
    let state = c.index_mut-state.result.now in
    let now = state_there states states c.args.core state refl below c.index_mut-state.ensures.value in
    let there = sym (dropped.kept c.args.core c.readers_of-hurt.ensures.others) ∙ now in
    let first = state_there p.states p.states c.args.core c.index.result.now refl was c.index.ensures in
    let same : c.index.result.now ≡ state = one_value (slice_get p.states c.args.core) c.index.result.now state first there in
    let readers = subst (λ (l : CoreState). AreReaders c.args.core (bytes_in l.own.cells) p.states hurt) same (rw c.as_slice.ensures.value at c.readers_of-hurt.ensures) in
    rw (← c.self.view_is) (owned_readers p c.args.core hurt state c.self.invariant.settled readers there)

pub returns-clause-makes : goal.returns-clause-makes
returns-clause-makes c = record {
  before = subst (λ v. IsSettled (store_view v)) c.self.view_is c.self.invariant.settled;
  after = (invariant_of-self c).settled;
  made = record { hurt = is_in c.readers_of-hurt.result; publishes = returns-clause-publishes c };
}
