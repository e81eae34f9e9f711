use Rattle.std.proofs.Common.{refl, true}
use Rattle.violations.specs.CoreSet.{is_in}
use Rattle.violations.specs.View.{attempt_of}
use Rattle.homefree.specs.Arms.{running_by}
use Rattle.homefree.proofs.Cases.Standing.{may_publish}
use Rattle.homefree.proofs.Cases.GoingStraight.{was_straight, went_straight}
use Rattle.homefree.proofs.parts.Parts.go_straight.Goals as goal

pub returns-then-now-clause-straight : goal.returns-then-now-clause-straight
returns-then-now-clause-straight g c =
    let old = c.args.self.now in
    was_straight old.register (g.S.EpochStore.view old.store) c.args.core (running_by c.args.now c.args.arrived.now.base) c.requires.running c.if-now.true

pub publish-hurt-requires-clause-may : goal.publish-hurt-requires-clause-may
publish-hurt-requires-clause-may g c =
    let old = c.args.self.now in
    may_publish old.register (g.S.EpochStore.view old.store) c.args.core (running_by c.args.now c.args.arrived.now.base) c.requires.running c.if-now.false c.requires.homefree

pub returns-clause-straight : goal.returns-clause-straight
returns-clause-straight g c =
    let old = c.args.self.now in
    went_straight old.register c.publish.new.self (g.S.EpochStore.view old.store) (g.S.EpochStore.view c.publish-hurt.new.self) c.args.core (running_by c.args.now c.args.arrived.now.base) (running_by (attempt_of c.args.now.epoch true) c.args.arrived.now.base)
    (is_in c.publish-hurt.result) c.requires.running c.if-now.false c.requires.homefree c.publish-hurt.ensures.publishes c.look.ensures c.publish.ensures.steps (c.publish.ensures.runs _ c.requires.running.runs)
    refl
