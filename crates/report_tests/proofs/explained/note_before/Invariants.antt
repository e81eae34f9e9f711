use Rattle.conflict_findings.specs.Followed.{IsFollowed}
use Rattle.report_tests.proofs.explained.note_before.Given as goal

-- what is kept is right
abbrev pub invariant-loop : goal.invariant-loop
invariant-loop l = IsFollowed l.entries l.followed
