use Rattle.std.proofs.Common.{ap, sym, subst, ◌∙◌}
use Rattle.spec_history.specs.declared.entry.What.TheVariants.{Hurt}
use Rattle.homefree.specs.Hurts.{entry}
use Rattle.homefree.specs.Noted.{epoch_kept}
use Rattle.homefree.specs.Steps.{Steps}
use Rattle.homefree.proofs.Fields.Batches.{running_read}
use Rattle.homefree.proofs.register.Register.hurt_at.Goals as goal

pub returns-clause-steps : goal.returns-clause-steps
returns-clause-steps c shares =
    let old = c.args.self.now in
    let at = running_read old.running.items c.args.core c.index.result.now c.requires.core c.index.ensures ∙ c.in-Some.is in
    subst (λ n. Steps old c.hurt.new.self shares shares (entry c.args.by (Hurt n))) (sym (ap epoch_kept at)) (c.hurt.ensures.steps shares)
