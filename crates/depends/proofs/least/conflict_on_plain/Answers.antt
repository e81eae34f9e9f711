use Rattle.depends.proofs.least.conflict_on_plain.Goals as goal

pub returns-in-Ok-false : goal.returns-in-Ok-false
returns-in-Ok-false c = c.in-Ok-false.ensures.never c.in-Ok-false.field-0-test
