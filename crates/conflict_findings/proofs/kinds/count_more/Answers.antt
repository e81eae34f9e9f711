use Rattle.std.proofs.Common.{◌+◌, ◌∙◌, ap, arith}
use Rattle.conflict_findings.specs.declared.part.Part.TheVariants.{OfKind}
use Rattle.conflict_findings.specs.Parts.{belongs}
use Rattle.conflict_findings.proofs.Pushing.{count_fits}
use Rattle.conflict_findings.proofs.Pairing.{test_push}
use mir.Val.{bool_byte}
use Rattle.conflict_findings.proofs.kinds.count_more.Goals as goal

pub overflow_add-result : goal.overflow_add-result
overflow_add-result c = omega (arith, count_fits (belongs (OfKind c.args.kind)) c.requires.0 c.args.rollback.now.lost c.args.count c.has.result c.requires.2 c.requires.1)

pub returns : goal.returns
returns c rs is = ap (λ b. c.args.count + bool_byte b) c.has.ensures ∙ test_push (belongs (OfKind c.args.kind)) rs c.args.rollback.now c.args.count is
