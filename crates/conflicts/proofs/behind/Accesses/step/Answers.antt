use Rattle.std.proofs.Common.{sym, ◌∙◌}
use Rattle.conflicts.proofs.behind.Accesses.step.Goals as goal

pub returns-then-begins-clause-known : goal.returns-then-begins-clause-known
returns-then-begins-clause-known c = c.begun_at.ensures.known c.args.image.now.size c.args.entries.now c.args.core (sym c.begins.ensures ∙ c.if-begins.true)
