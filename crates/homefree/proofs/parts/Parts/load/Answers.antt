use Rattle.std.proofs.Common.{◌==◌, refl, sym, ap, is_some, ne_eqb}
use Rattle.violations.specs.CoreSet.{is_in}
use Rattle.violations.specs.Calls.{Load, StraightLoad}
use Rattle.homefree.specs.Arms.{running_by}
use Rattle.homefree.proofs.Cases.Standing.{may_load}
use Rattle.homefree.proofs.Cases.Accessing.{at_own, loaded, waited}
use Rattle.homefree.proofs.Cases.Moving.{leads_done, leads_late}
use Rattle.homefree.proofs.parts.Parts.load.Goals as goal

pub load-requires-clause-access : goal.load-requires-clause-access
load-requires-clause-access g c =
    let old = c.args.self.now in
    let at = c.requires.arrives in
    may_load old.register (g.S.EpochStore.view old.store) c.args.core (running_by c.args.now c.args.arrived.now.base) c.args.arrived.now c.args.addr c.args.width at.0 at.1 at.2.running.fits
    at.2.is_at

pub returns-in-Done-clause-takes : goal.returns-in-Done-clause-takes
returns-in-Done-clause-takes g c =
    let old = c.args.self.now in
    let at = c.requires.arrives in (
      rw c.load-in-Done.ensures.hart (loaded old.register c.load-in-Done.new.self (g.S.EpochStore.view old.store) (g.S.EpochStore.view c.load.new.self) c.args.shares.now c.load-in-Done.new.shares c.args.core (running_by c.args.now c.args.arrived.now.base) c.args.arrived.now
          c.args.addr c.args.width c.in-Done.value at.0 at.1 (is_in c.in-Done.hurt) _ at.2 c.requires.speculates (sym c.in-Done.ensures.waits) c.in-Done.ensures.loads
          refl c.load-in-Done.ensures.steps),
      leads_done g.S.EpochStore.makes (is_some ((g.S.EpochStore.waits old.store).load c.args.core c.args.addr c.args.width)) (c.args.now.epoch == old.register.homefree) c.args.core (Load c.args.core c.args.addr c.args.width) (StraightLoad c.args.core c.args.addr c.args.width) old.store c.load.new.self (ap is_some (sym c.in-Done.ensures.waits)) c.in-Done.ensures.makes,
    )

pub returns-else-now-self-clause-takes : goal.returns-else-now-self-clause-takes
returns-else-now-self-clause-takes g c =
    let old = c.args.self.now in
    let at = c.requires.arrives in (
      rw (c.in-Wait.ensures.loads, c.cause_of.ensures)
          (waited old.register (g.S.EpochStore.view old.store) c.args.shares.now c.args.core (running_by c.args.now c.args.arrived.now.base) c.args.arrived.now _ c.in-Wait.cause at.2 (sym c.in-Wait.ensures.waits) c.requires.speculates c.if-now-self.false),
      leads_late g.S.EpochStore.makes (is_some ((g.S.EpochStore.waits old.store).load c.args.core c.args.addr c.args.width)) (c.args.now.epoch == old.register.homefree) c.args.core (Load c.args.core c.args.addr c.args.width) (StraightLoad c.args.core c.args.addr c.args.width) old.store c.load.new.self (ap is_some (sym c.in-Wait.ensures.waits)) (ne_eqb c.args.now.epoch old.register.homefree c.if-now-self.false) c.in-Wait.ensures.makes,
    )

pub load-requires-in-Done-clause-at : goal.load-requires-in-Done-clause-at
load-requires-in-Done-clause-at g c =
    let old = c.args.self.now in
    at_own old.register c.args.core (running_by c.args.now c.args.arrived.now.base) c.args.arrived.now _ c.requires.arrives.2.is_at
