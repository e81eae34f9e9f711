use Rattle.conflict_text.proofs.finding.Findings.new.Goals as goal

pub returns-clause-lines : goal.returns-clause-lines
returns-clause-lines c = c.new.ensures.items

pub returns-clause-sums : goal.returns-clause-sums
returns-clause-sums c = c.new-2.ensures

pub returns-clause-followed : goal.returns-clause-followed
returns-clause-followed c = c.new-3.ensures
