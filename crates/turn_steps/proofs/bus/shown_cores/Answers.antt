use Rattle.std.proofs.Common.{◌≡◌, subst, arith}
use Rattle.turn_steps.specs.Caches.{AreHeld}
use Rattle.turn_steps.proofs.Buses.{more_held}
use Rattle.turn_steps.proofs.bus.shown_cores.Goals as goal

pub loop-core-preserved : goal.loop-core-preserved
loop-core-preserved c =
    more_held c.args.placed.now.machine c.args.placed.now.caches.now c.loop-core.core c.loop-core.shown.items c.in_ok-of.field-0 c.push.new.self.items c.loop-core.invariant
    c.in_ok-of.ensures.held c.in_ok-of.ensures.placed c.in_ok-push.ensures.items

pub returns : goal.returns
returns c =
    let all : c.loop-core.core ≡ c.args.cores = omega (arith, c.loop-core-test.false, c.loop-core.auto.core-end) in
    subst (λ n. AreHeld c.args.placed.now.machine c.args.placed.now.caches.now n c.loop-core.shown.items) all c.loop-core.invariant
