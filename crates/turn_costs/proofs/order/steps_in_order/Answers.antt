use Rattle.std.proofs.Common.{◌<◌, Bool, subst, refl, arith}
use Rattle.std.proofs.lemmas.Bool.{not-true}
use Rattle.turn_costs.specs.Order.{kind_of, RunsEpoch, stopped}
use Rattle.turn_costs.proofs.order.steps_in_order.Goals as goal

pub returns-then-not-ran : goal.returns-then-not-ran
returns-then-not-ran g c =
    let kind = kind_of g.S.EpochStore.makes g.S.EpochStore.view g.S.PricedStore.prices in
    let below : c.loop-epoch.epoch < c.args.image.now.epochs = omega (arith, c.loop-epoch-test.true, c.epochs-epoch-end.ensures.epochs) in
    record {
      fresh = c.in_ok-store.store;
      is_fresh = c.in_ok-store.ensures.starts;
      epochs = c.loop-epoch.epoch;
      before = c.loop-epoch.steps;
      store = c.loop-epoch.store;
      runs = c.loop-epoch.invariant.runs;
      rest = c.in_ok-ran.ran.steps;
      last = stopped below c.run_epoch.new.store
          (subst (λ (on : Bool). RunsEpoch kind c.args.image.now c.args.costs.now c.loop-epoch.epoch c.loop-epoch.store c.in_ok-ran.ran.steps on c.run_epoch.new.store)
          (not-true c.in_ok-ran.ran.goes_on c.if-not-ran.true) c.in_ok-ran.ensures.ran);
      steps_are = refl;
    }
