use Rattle.conflict_findings.specs.Followed.{IsFollowed}
use Rattle.report_tests.proofs.explained.Worked.found.Given as goal

-- what is kept is right
abbrev pub invariant-loop-e : goal.invariant-loop-e
invariant-loop-e l = IsFollowed l.self.entries.items l.followed
