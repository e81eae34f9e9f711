use Rattle.std.proofs.Common.{◌≡◌, ◌<◌, ℕ, false}
use Rattle.conflicts.specs.Attempts.{reads_outside}
use Rattle.conflicts.proofs.accesses.first_read_from.Given as goal

-- none so far reads it
abbrev pub invariant-loop-place : goal.invariant-loop-place
invariant-loop-place l = (k : ℕ) → k < l.place → reads_outside l.entries l.core l.before l.addr k ≡ false
