use Rattle.std.proofs.Common.{unwrap_or, ap, ◌∙◌}
use Rattle.conflict_findings.proofs.Noting.{at_hand}
use Rattle.conflict_findings.proofs.numbers.Numbers.attempt_number.Goals as goal

pub returns : goal.returns
returns c = λ entries are.
    c.unwrap_or.ensures ∙ (ap (λ o. unwrap_or o 1) (c.copied.ensures ∙ c.get.ensures.value)
    ∙ at_hand entries c.args.core c.args.self.now.place c.args.self.now.runs are)
