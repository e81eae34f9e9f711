use Rattle.std.proofs.Common.{slice_index}
use Rattle.spec_history.specs.Conflict.{line_count, line_number}
use Rattle.conflicts.specs.Parties.{holds_other, meeting_in}
use Rattle.conflicts.proofs.Nearing.{Nearest}
use Rattle.conflicts.proofs.meeting.Parties.next_beside.Given as goal

-- the nearest so far
abbrev pub invariant-loop-addr : goal.invariant-loop-addr
invariant-loop-addr l =
    Nearest (λ k. line_number l.flat.image (slice_index l.addr-items k)) (holds_other l.flat.image (meeting_in l.flat l.self) l.line) l.from (line_count l.flat.image) l.addr-index l.next
