use Rattle.std.proofs.Common.{refl}
use Rattle.homefree.specs.Arms.{running_by}
use Rattle.homefree.proofs.Fields.Noting.{faulted}
use Rattle.homefree.proofs.register.Register.fault.Goals as goal

pub returns-clause-steps : goal.returns-clause-steps
returns-clause-steps c shares =
    faulted c.args.self.now _ shares c.args.core (running_by c.args.now c.args.arrived.now.base) c.args.cause c.args.pc c.requires.runs refl refl c.note.ensures.items c.note.ensures.room c.note.ensures.used refl refl refl refl
