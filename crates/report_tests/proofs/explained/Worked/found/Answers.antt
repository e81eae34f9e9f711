use Rattle.report_tests.proofs.explained.Worked.found.Goals as goal

pub loop-e-init : goal.loop-e-init
loop-e-init c = (c.new-followed.ensures _).is
