use Rattle.std.proofs.Common.{rules, arith, refl, ne_eqb, eq-eqb}
use Rattle.run_ledger.specs.Counts.{no_counts}
use Rattle.homefree.specs.Arms.{running_by}
use Rattle.homefree.proofs.Cases.Accessing.{homefree_runs}
use Rattle.homefree.proofs.Cases.Ending.{too_early, room_mid, faulted}
use Rattle.homefree.proofs.parts.Parts.fault.Goals as goal

pub returns-then-epoch-self : goal.returns-then-epoch-self
returns-then-epoch-self g c =
    let old = c.args.self.now in (
      too_early old.register (g.S.EpochStore.view old.store) c.args.shares.now c.args.core (running_by c.args.now c.args.arrived.now.base) c.args.arrived.now _ c.requires tt c.if-epoch-self.true,
      rw (ne_eqb c.args.now.epoch old.register.homefree c.if-epoch-self.true) refl,
    )

pub fault-requires : goal.fault-requires
fault-requires g c =
    let view = g.S.EpochStore.view in
    let old = c.args.self.now in
    let mid = c.settle.new.self in
    let settled = c.settle.ensures.settled in
    let there = c.requires.running.there in
    let cores = (settled.steps no_counts).cores in
    let room = room_mid old.register mid.register (view old.store) (view mid.store) c.args.core (running_by c.args.now c.args.arrived.now.base) c.requires.running c.if-epoch-self.false c.settle.ensures.settled c.requires.notes.room in
    record { there = omega (arith, there, cores); room = omega (arith, room); runs = settled.runs }

pub returns : goal.returns
returns g c =
    let view = g.S.EpochStore.view in
    let old = c.args.self.now in
    let mid = c.settle.new.self in (
      faulted old.register mid.register (view old.store) (view mid.store) c.args.core (running_by c.args.now c.args.arrived.now.base) c.requires.running c.if-epoch-self.false c.settle.ensures.settled
          c.fault.new.self c.args.shares.now c.args.arrived.now c.args.cause c.args.pc
          c.requires.is_at (c.fault.ensures.steps c.args.shares.now),
      rw (eq-eqb c.args.now.epoch old.register.homefree c.if-epoch-self.false) c.settle.ensures.moves,
    )

pub settle-requires : goal.settle-requires
settle-requires g c =
    let old = c.args.self.now in (
      search rules,
      homefree_runs old.register (g.S.EpochStore.view old.store) c.args.shares.now c.args.core (running_by c.args.now c.args.arrived.now.base) c.args.arrived.now _
          (record { arrives = c.requires; homefree = c.if-epoch-self.false }),
    )
