use Rattle.std.proofs.Common.{◌==◌, refl, sym, ap, is_some, ne_eqb}
use Rattle.violations.specs.CoreSet.{is_in}
use Rattle.violations.specs.Calls.{Store, StraightStore}
use Rattle.homefree.specs.Arms.{running_by}
use Rattle.homefree.proofs.Cases.Standing.{may_store}
use Rattle.homefree.proofs.Cases.Accessing.{stored, waited}
use Rattle.homefree.proofs.Cases.Moving.{leads_done, leads_late}
use Rattle.homefree.proofs.parts.Parts.store.Goals as goal

pub store-requires-clause-access : goal.store-requires-clause-access
store-requires-clause-access g c =
    let old = c.args.self.now in
    may_store old.register (g.S.EpochStore.view old.store) c.args.core (running_by c.args.now c.args.arrived.now.base) c.args.arrived.now c.args.access.addr c.args.access.width c.args.access.value c.requires.arrives.running.fits
    c.requires.arrives.is_at

pub returns-in-Done-clause-takes : goal.returns-in-Done-clause-takes
returns-in-Done-clause-takes g c =
    let old = c.args.self.now in (
      rw c.store-in-Done.ensures.hart (stored old.register c.store-in-Done.new.self (g.S.EpochStore.view old.store) (g.S.EpochStore.view c.store.new.self) c.args.shares.now c.store-in-Done.new.shares c.args.core (running_by c.args.now c.args.arrived.now.base) c.args.arrived.now
          c.args.access.addr c.args.access.width c.args.access.value (is_in c.in-Done.hurt) _ c.requires.arrives c.requires.speculates (sym c.in-Done.ensures.waits) c.in-Done.ensures.stores.1
          refl c.store-in-Done.ensures.steps),
      leads_done g.S.EpochStore.makes (is_some ((g.S.EpochStore.waits old.store).store c.args.core c.args.access.addr c.args.access.width)) (c.args.now.epoch == old.register.homefree) c.args.core (Store c.args.core c.args.access.addr c.args.access.width c.args.access.value) (StraightStore c.args.core c.args.access.addr c.args.access.width c.args.access.value) old.store c.store.new.self (ap is_some (sym c.in-Done.ensures.waits)) c.in-Done.ensures.makes,
    )

pub returns-else-now-self-clause-takes : goal.returns-else-now-self-clause-takes
returns-else-now-self-clause-takes g c =
    let old = c.args.self.now in (
      rw (c.in-Wait.ensures.stores, c.cause_of.ensures)
          (waited old.register (g.S.EpochStore.view old.store) c.args.shares.now c.args.core (running_by c.args.now c.args.arrived.now.base) c.args.arrived.now _ c.in-Wait.cause c.requires.arrives (sym c.in-Wait.ensures.waits) c.requires.speculates c.if-now-self.false),
      leads_late g.S.EpochStore.makes (is_some ((g.S.EpochStore.waits old.store).store c.args.core c.args.access.addr c.args.access.width)) (c.args.now.epoch == old.register.homefree) c.args.core (Store c.args.core c.args.access.addr c.args.access.width c.args.access.value) (StraightStore c.args.core c.args.access.addr c.args.access.width c.args.access.value) old.store c.store.new.self (ap is_some (sym c.in-Wait.ensures.waits)) (ne_eqb c.args.now.epoch old.register.homefree c.if-now-self.false) c.in-Wait.ensures.makes,
    )
