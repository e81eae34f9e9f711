use Rattle.std.proofs.Common.{◌≡◌, ◌<◌, ◌==◌, ◌&&◌, ℕ, false}
use Rattle.spec_history.specs.Conflict.{line_number}
use Rattle.conflicts.specs.Parties.{meeting_in, is_of}
use Rattle.conflicts.proofs.meeting.Parties.line_has.Given as goal

-- none so far lies in the line and passes
abbrev pub invariant-loop-addr : goal.invariant-loop-addr
invariant-loop-addr l = (a : ℕ) → a < l.addr → ((line_number l.flat.image a == l.line) && is_of (meeting_in l.flat l.self) l.test a) ≡ false
