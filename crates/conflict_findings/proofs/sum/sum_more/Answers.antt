use Rattle.std.proofs.Common.{◌∙◌, sym}
use Rattle.conflict_findings.proofs.Pushing.{part_fits, sum_no, sum_yes}
use Rattle.conflict_findings.proofs.sum.sum_more.Goals as goal

pub more-requires-clause-count : goal.more-requires-clause-count
more-requires-clause-count c = (part_fits c.args.part c.requires.0 c.args.rollback.now.lost c.args.sum c.requires.2 c.requires.1).0

pub more-requires-clause-lost : goal.more-requires-clause-lost
more-requires-clause-lost c = (part_fits c.args.part c.requires.0 c.args.rollback.now.lost c.args.sum c.requires.2 c.requires.1).1

pub returns-then-has : goal.returns-then-has
returns-then-has c rs is = c.more.ensures ∙ sum_yes c.args.part rs c.args.rollback.now c.args.sum (sym c.has.ensures ∙ c.if-has.true) is

pub returns-else-has : goal.returns-else-has
returns-else-has c rs is = sum_no c.args.part rs c.args.rollback.now c.args.sum (sym c.has.ensures ∙ c.if-has.false) is
