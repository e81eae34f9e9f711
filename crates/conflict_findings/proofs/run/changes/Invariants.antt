use Rattle.std.proofs.Common.{◌≡◌, ◌<◌, ◌≤◌, ℕ, false}
use Rattle.spec_history.specs.Conflict.{is_changed}
use Rattle.conflicts.specs.Parties.{meeting_in}
use Rattle.conflict_findings.proofs.run.changes.Given as goal

-- none so far is changed
abbrev pub invariant-loop-addr : goal.invariant-loop-addr
invariant-loop-addr l = (a : ℕ) → l.fn.bytes.first ≤ a → a < l.addr → is_changed (meeting_in l.flat l.parties) a ≡ false
