use Rattle.std.proofs.Common.{◌==◌, ne_eqb, length}
use Rattle.rv32_exec.specs.Sequential.{exits}
use Rattle.rv32_exec.specs.declared.stop.Stop.TheVariants.{Ended}
use Rattle.homefree.specs.Arms.{running_by}
use Rattle.homefree.proofs.Cases.Ending.{too_early}
use Rattle.homefree.proofs.Cases.Moving.{moves_none}
use Rattle.homefree.proofs.parts.Parts.finish.Goals as goal

pub returns-then-now-self : goal.returns-then-now-self
returns-then-now-self g c =
    let old = c.args.self.now in (
      too_early old.register (g.S.EpochStore.view old.store) c.args.shares.now c.args.core (running_by c.args.now c.args.arrived.now.base) c.args.arrived.now Ended c.requires tt c.if-now-self.true,
      moves_none g.S.EpochStore.makes g.S.EpochStore.view (c.args.now.epoch == old.register.homefree) (exits old.register.image c.args.arrived.now.now) _ (length old.register.running.items) c.args.core
          old.store (ne_eqb c.args.now.epoch old.register.homefree c.if-now-self.true),
    )
