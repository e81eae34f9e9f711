use Rattle.report_tests.proofs.explained.Worked.found_alone.Goals as goal

pub found_over-requires : goal.found_over-requires
found_over-requires c = (c.new.ensures _).is
