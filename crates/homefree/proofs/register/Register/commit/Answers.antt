use Rattle.std.proofs.Common.{refl}
use Rattle.homefree.specs.Arms.{running_by}
use Rattle.homefree.proofs.Fields.Noting.{committed}
use Rattle.homefree.proofs.register.Register.commit.Goals as goal

pub returns-clause-steps : goal.returns-clause-steps
returns-clause-steps c =
    committed c.args.self.now _ c.args.shares.now _ c.args.core (running_by c.args.now c.args.arrived.now.base) c.args.arrived.now c.requires.at refl c.set_running.ensures.len c.note.ensures.items c.note.ensures.room c.note.ensures.used
    c.count_commit.ensures.totals c.count_commit.ensures.shares refl refl (rw (← c.now.ensures) c.end_after-self.ensures) c.set_running.ensures.each
