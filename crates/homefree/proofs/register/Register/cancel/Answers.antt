use Rattle.std.proofs.Common.{refl}
use Rattle.homefree.proofs.Fields.Noting.{cancel_noted}
use Rattle.homefree.proofs.register.Register.cancel.Goals as goal

pub returns-clause-steps : goal.returns-clause-steps
returns-clause-steps c shares =
    cancel_noted c.args.self.now _ shares c.args.by c.args.core c.args.now c.requires.runs refl c.set_running.ensures.len c.note.ensures.items c.note.ensures.room c.note.ensures.used refl refl refl refl c.set_running.ensures.each
