use Rattle.std.proofs.Common.{◌≡◌, ◌<◌, ℕ, false}
use Rattle.conflicts.specs.Attempts.{attempt_does}
use Rattle.conflicts.specs.Blame.{stores_in}
use Rattle.conflicts.proofs.held.first_stored_in.Given as goal

-- none so far stores in the line
abbrev pub invariant-loop-place : goal.invariant-loop-place
invariant-loop-place l = (k : ℕ) → k < l.place → attempt_does l.entries l.core l.before (stores_in l.image l.line) k ≡ false
