use Rattle.std.proofs.Common.{refl, ap, ◌∙◌}
use Rattle.homefree.specs.declared.answer.Answer.TheVariants.{Go}
use Rattle.homefree.proofs.Fields.Coming.{went_on}
use Rattle.homefree.proofs.Fields.Noting.{restarted}
use Rattle.homefree.proofs.register.Register.restart.Goals as goal

pub returns-clause-steps : goal.returns-clause-steps
returns-clause-steps c =
    restarted c.args.self.now _ c.args.shares.now _ c.args.core c.args.epoch (c.requires.may.0, c.requires.may.1.runs, c.requires.may.2) refl c.set_running.ensures.len c.note.ensures.items c.note.ensures.room c.note.ensures.used
    c.count_restart.ensures.totals c.count_restart.ensures.shares refl refl refl (rw (← c.start-hart.ensures) c.set_running.ensures.each)

pub returns-clause-hart : goal.returns-clause-hart
returns-clause-hart c = went_on _ c.args.core _ _ (c.set_running.ensures.each c.args.core) ∙ ap Go c.start-hart.ensures
