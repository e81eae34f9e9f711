use Rattle.std.proofs.Common.{length, sym, ◌∙◌}
use Rattle.homefree.specs.Arms.{running_by}
use Rattle.homefree.proofs.Cases.Moving.{moves_load, moves_store}
use Rattle.homefree.proofs.Cases.Accessing.{arrives_at}
use Rattle.homefree.proofs.Cases.Standing.{straight_homefree}
use Rattle.homefree.proofs.parts.Parts.run.Goals as goal

pub straight_load-requires-clause-arrives : goal.straight_load-requires-clause-arrives
straight_load-requires-clause-arrives g c κs within =
    let old = c.args.self.now in (
      c.in-Load.signed,
      c.in-Load.rd,
      record {
        arrives = arrives_at old.register (g.S.EpochStore.view old.store) c.args.shares.now c.args.core (running_by c.args.now c.args.arrived.now.base) c.args.arrived.now _ c.requires (sym c.at-at.ensures.at ∙ c.in-Load.is);
        homefree = straight_homefree old.register (g.S.EpochStore.view old.store) c.args.core (running_by c.args.now c.args.arrived.now.base) c.requires.running c.if-now.true;
      },
    )

pub straight_store-requires-clause-arrives : goal.straight_store-requires-clause-arrives
straight_store-requires-clause-arrives g c κs within =
    let old = c.args.self.now in record {
      arrives = arrives_at old.register (g.S.EpochStore.view old.store) c.args.shares.now c.args.core (running_by c.args.now c.args.arrived.now.base) c.args.arrived.now _ c.requires (sym c.at-at.ensures.at ∙ c.in-Store.is);
      homefree = straight_homefree old.register (g.S.EpochStore.view old.store) c.args.core (running_by c.args.now c.args.arrived.now.base) c.requires.running c.if-now-2.true;
    }

pub returns-else-now-clause-takes : goal.returns-else-now-clause-takes
returns-else-now-clause-takes g c =
    let old = c.args.self.now in
    let r = running_by c.args.now c.args.arrived.now.base in (
      c.load.ensures.takes.0,
      moves_load g.S.EpochStore.makes g.S.EpochStore.view old.register.image (g.S.EpochStore.waits old.store) old.register.homefree (length old.register.running.items) c.args.core r c.args.arrived.now.now
          c.args.arrived.now.at c.in-Load.addr c.in-Load.width c.in-Load.signed c.in-Load.rd old.store c.load.new.self.store (sym c.at-at.ensures.at ∙ c.in-Load.is) c.if-now.false c.load.ensures.takes.1,
    )

pub returns-else-now-2-clause-takes : goal.returns-else-now-2-clause-takes
returns-else-now-2-clause-takes g c =
    let old = c.args.self.now in
    let r = running_by c.args.now c.args.arrived.now.base in (
      c.store.ensures.takes.0,
      moves_store g.S.EpochStore.makes g.S.EpochStore.view old.register.image (g.S.EpochStore.waits old.store) old.register.homefree (length old.register.running.items) c.args.core r c.args.arrived.now.now
          c.args.arrived.now.at c.in-Store.addr c.in-Store.width c.in-Store.value old.store c.store.new.self.store (sym c.at-at.ensures.at ∙ c.in-Store.is) c.if-now-2.false c.store.ensures.takes.1,
    )
