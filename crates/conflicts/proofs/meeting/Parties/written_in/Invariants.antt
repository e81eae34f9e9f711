use Rattle.std.proofs.Common.{◌≡◌, ◌<◌, ◌==◌, ◌&&◌, ℕ, false, is_some}
use Rattle.spec_history.specs.Conflict.{line_number}
use Rattle.conflicts.specs.Parties.{meeting_in}
use Rattle.conflicts.proofs.meeting.Parties.written_in.Given as goal

-- none so far lies in the line and is written
abbrev pub invariant-loop-addr : goal.invariant-loop-addr
invariant-loop-addr l = (a : ℕ) → a < l.addr → ((line_number l.flat.image a == l.line) && is_some ((meeting_in l.flat l.self).writes a)) ≡ false
