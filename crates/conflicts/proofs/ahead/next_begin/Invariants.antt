use Rattle.std.proofs.Common.{◌≡◌, ◌<◌, ◌≤◌, ◌+◌, ℕ, false}
use Rattle.conflicts.specs.Attempts.{core_does, is_begin}
use Rattle.conflicts.proofs.ahead.next_begin.Given as goal

-- the core begins none so far
abbrev pub invariant-loop-place : goal.invariant-loop-place
invariant-loop-place l = (k : ℕ) → l.after + 1 ≤ k → k < l.place → core_does l.entries l.core k is_begin ≡ false
