use Rattle.std.proofs.Common.{◌∙◌}
use Rattle.homefree.proofs.Fields.Batches.{running_read, cancelled_here, idle_here}
use Rattle.homefree.proofs.register.Register.cancel_at.Goals as goal

pub returns-in-Some-clause-steps : goal.returns-in-Some-clause-steps
returns-in-Some-clause-steps c shares =
    let old = c.args.self.now in
    let at = running_read old.running.items c.args.core c.index.result.now c.requires.core c.index.ensures ∙ c.in-Some.is in
    cancelled_here old c.cancel.new.self shares c.args.by c.args.core c.in-Some.now at (c.cancel.ensures.steps shares)

pub returns-in_default-clause-steps : goal.returns-in_default-clause-steps
returns-in_default-clause-steps c shares =
    let old = c.args.self.now in
    let at = running_read old.running.items c.args.core c.index.result.now c.requires.core c.index.ensures ∙ c.in_default.is in
    idle_here old shares c.args.by c.args.core at
