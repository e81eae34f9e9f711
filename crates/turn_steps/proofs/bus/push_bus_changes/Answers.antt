use Rattle.std.proofs.Common.{◌≡◌, ◌<◌, ◌∙◌, Some, slice_get, length, refl, subst, arith}
use Rattle.std.proofs.lemmas.Option.{slice_get_read}
use Rattle.turn_steps.specs.Caches.{AreHeld}
use Rattle.turn_steps.proofs.BusRows.{held_whole}
use Rattle.turn_steps.proofs.Buses.{held_changes-none, held_changes-more, more_held, none_held}
use Rattle.turn_steps.proofs.bus.push_bus_changes.Goals as goal

pub loop-core-init : goal.loop-core-init
loop-core-init c = record {
  held = none_held c.args.placed.now.machine c.args.placed.now.caches.now c.new-now.result.items c.new-now.ensures.items;
  text = λ old _. held_changes-none c.args.text.now.items c.args.placed.now.machine old c.args.placed.now.caches.now;
}

pub loop-core-preserved : goal.loop-core-preserved
loop-core-preserved c =
    let core = c.loop-core.core in
    let below : core < length c.args.shown.now = omega (arith, c.loop-core-test.true, c.requires.shown) in
    let there : slice_get c.args.shown.now core ≡ Some c.index-shown-core.result = slice_get_read c.args.shown.now _ core c.index-shown-core.result refl below c.index-shown-core.is in record {
      held = more_held c.args.placed.now.machine c.args.placed.now.caches.now core c.loop-core.now.items c.in_ok-held.held c.push.new.self.items c.loop-core.invariant.held c.in_ok-held.ensures.held c.in_ok-held.ensures.placed c.in_ok-push.ensures.items;
      text = λ old held. c.in_ok-push_changes.ensures
          ∙ held_changes-more c.args.text.now.items c.loop-core.text.items c.args.placed.now.machine old c.args.placed.now.caches.now c.args.cores c.args.shown.now core c.index-shown-core.result c.in_ok-held.held there
          c.loop-core-test.true held c.in_ok-held.ensures.held (c.loop-core.invariant.text old held);
    }

pub push_changes-requires-clause-old : goal.push_changes-requires-clause-old
push_changes-requires-clause-old c =
    let core = c.loop-core.core in
    let below : core < length c.args.shown.now = omega (arith, c.loop-core-test.true, c.requires.shown) in
    let long = c.requires.whole core c.index-shown-core.result (slice_get_read c.args.shown.now _ core c.index-shown-core.result refl below c.index-shown-core.is) in
    omega (arith, long)

pub push_changes-requires-clause-now : goal.push_changes-requires-clause-now
push_changes-requires-clause-now c =
    let long = held_whole c.args.placed.now.machine c.args.placed.now.caches.now c.loop-core.core c.in_ok-held.held c.in_ok-held.ensures.held in omega (arith, long)

pub returns-clause-held : goal.returns-clause-held
returns-clause-held c =
    let all : c.loop-core.core ≡ c.args.cores = omega (arith, c.loop-core-test.false, c.loop-core.auto.core-end) in
    subst (λ n. AreHeld c.args.placed.now.machine c.args.placed.now.caches.now n c.loop-core.now.items) all c.loop-core.invariant.held
