use Rattle.std.proofs.Common.{◌≡◌, ◌<◌, ℕ, false, slice_index}
use Rattle.conflicts.specs.Parties.{meeting_in, passes}
use Rattle.conflicts.proofs.meeting.Parties.any.Given as goal

-- none so far passes
abbrev pub invariant-loop-addr : goal.invariant-loop-addr
invariant-loop-addr l = (place : ℕ) → place < l.addr-index → passes l.flat.image (meeting_in l.flat l.self) l.test (slice_index l.addr-items place) ≡ false
