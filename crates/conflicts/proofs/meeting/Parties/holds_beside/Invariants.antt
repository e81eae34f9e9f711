use Rattle.spec_history.specs.Conflict.{line_count}
use Rattle.conflicts.specs.Parties.{holds_other, meeting_in}
use Rattle.conflicts.proofs.Nearing.{IsCounted}
use Rattle.conflicts.proofs.meeting.Parties.holds_beside.Given as goal

-- so many so far
abbrev pub invariant-loop : goal.invariant-loop
invariant-loop l = IsCounted (holds_other l.flat.image (meeting_in l.flat l.self) l.line) (line_count l.flat.image) l.from l.counter
