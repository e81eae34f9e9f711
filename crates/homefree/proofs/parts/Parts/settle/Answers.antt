use Rattle.violations.specs.CoreSet.{is_in}
use Rattle.homefree.specs.Arms.{running_by}
use Rattle.homefree.proofs.Cases.Standing.{may_publish}
use Rattle.homefree.proofs.Cases.Ending.{was_settled, settled}
use Rattle.homefree.proofs.parts.Parts.settle.Goals as goal

pub returns-then-now-clause-settled : goal.returns-then-now-clause-settled
returns-then-now-clause-settled g c =
    let old = c.args.self.now in
    was_settled old.register (g.S.EpochStore.view old.store) c.args.core (running_by c.args.now c.args.arrived.now.base) c.requires.running c.if-now.true

pub publish-hurt-requires-clause-may : goal.publish-hurt-requires-clause-may
publish-hurt-requires-clause-may g c =
    let old = c.args.self.now in
    may_publish old.register (g.S.EpochStore.view old.store) c.args.core (running_by c.args.now c.args.arrived.now.base) c.requires.running c.if-now.false c.requires.homefree

pub returns-clause-settled : goal.returns-clause-settled
returns-clause-settled g c =
    let old = c.args.self.now in
    settled old.register c.hurt_all.new.self (g.S.EpochStore.view old.store) (g.S.EpochStore.view c.publish-hurt.new.self) c.args.core (running_by c.args.now c.args.arrived.now.base) (is_in c.publish-hurt.result)
    c.requires.running c.if-now.false c.publish-hurt.ensures.publishes c.hurt_all.ensures.steps c.hurt_all.ensures.spared
