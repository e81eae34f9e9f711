use Rattle.std.proofs.Common.{◌≡◌, ◌<◌, refl, subst, ◌∙◌, arith, length}
use Rattle.homefree.proofs.Fields.Batches.{running_read}
use Rattle.homefree.proofs.Cases.Cancelling.{CancelsBelow, none_below, one_below, own_below, all_below, same_attempt}
use Rattle.violations.specs.Calls.{Leads}
use Rattle.homefree.specs.Arms.{HasAttempt}
use Rattle.homefree.specs.Moves.{cancel_calls}
use Rattle.homefree.proofs.Cases.Moving.{other_cancelled, own_cancelled}
use Rattle.homefree.proofs.attempts.cancel_attempts.Goals as goal
use Rattle.homefree.proofs.attempts.cancel_attempts.Goals.{then-k-by, else-k-by}

pub loop-k-init : goal.loop-k-init
loop-k-init g c = record { below = none_below (g.S.EpochStore.view c.args.store.now) c.args.by; moves = refl; budget = refl }

pub end_attempt-requires-after_bounds : goal.end_attempt-requires-after_bounds
end_attempt-requires-after_bounds g c κs within =
    let view = g.S.EpochStore.view in
    let k = c.loop-k.k in
    let running = c.args.running.now.items in
    let less = c.loop-k-test.true in
    let count = c.len-count.ensures in
    let there : k < length running = omega (arith, less, count) in
    let at = running_read running k c.index.result.now there c.index.ensures in
    same_attempt (view c.args.store.now) (view c.loop-k.store) k c.index.result.now (c.loop-k.invariant.below.rest k (omega arith))
    (subst (HasAttempt (view c.args.store.now) k) at (c.requires.runs k c.if-k-by.true))

pub loop-k-preserved : goal.loop-k-preserved
loop-k-preserved g c = elim c.if-k-by.branch [
  | then-k-by w ↦ rw w.store-is (record {
    below = one_below (g.S.EpochStore.view c.args.store.now) (g.S.EpochStore.view c.loop-k.store) (g.S.EpochStore.view w.end_attempt.new.store) c.args.by c.loop-k.k w.if-k-by.true
        c.loop-k.invariant.below w.end_attempt.ensures.ends;
    moves = other_cancelled g.S.EpochStore.makes (g.S.EpochStore.view c.args.store.now) (g.S.EpochStore.view c.loop-k.store) c.args.by c.loop-k.k c.args.store.now c.loop-k.store w.end_attempt.new.store
        w.if-k-by.true (c.loop-k.invariant.below.rest c.loop-k.k (omega arith)) c.loop-k.invariant.moves w.end_attempt.ensures.moves;
    budget = w.end_attempt.ensures.budget ∙ c.loop-k.invariant.budget;
  })
  | else-k-by w ↦ rw w.store-is (record {
    below = own_below (g.S.EpochStore.view c.args.store.now) (g.S.EpochStore.view c.loop-k.store) c.args.by c.loop-k.k w.if-k-by.false c.loop-k.invariant.below;
    moves = own_cancelled g.S.EpochStore.makes (g.S.EpochStore.view c.args.store.now) c.args.by c.loop-k.k c.args.store.now c.loop-k.store w.if-k-by.false c.loop-k.invariant.moves;
    budget = c.loop-k.invariant.budget;
  })
]

pub returns-clause-cancels : goal.returns-clause-cancels
returns-clause-cancels g c =
    let view = g.S.EpochStore.view in
    let running = c.args.running.now.items in
    let low = c.loop-k-test.false in
    let high = c.loop-k.auto.k-end in
    let count = c.len-count.ensures in
    let all : c.loop-k.k ≡ length running = omega (arith, low, high, count) in
    all_below (view c.args.store.now) (view c.loop-k.store) running c.args.by c.requires.runs (subst (CancelsBelow (view c.args.store.now) (view c.loop-k.store) c.args.by) all c.loop-k.invariant.below)

pub returns-clause-moves : goal.returns-clause-moves
returns-clause-moves g c =
    let low = c.loop-k-test.false in
    let high = c.loop-k.auto.k-end in
    let count = c.len-count.ensures in
    let all : c.loop-k.k ≡ length c.args.running.now.items = omega (arith, low, high, count) in
    subst (λ n. Leads g.S.EpochStore.makes (cancel_calls n c.args.by (g.S.EpochStore.view c.args.store.now)) c.args.store.now c.loop-k.store) all c.loop-k.invariant.moves
