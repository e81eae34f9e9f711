use Rattle.std.proofs.Common.{◌≡◌, ◌<◌, ◌&&◌, ℕ, false, nat_lt}
use Rattle.spec_history.specs.Conflict.{entry_is}
use Rattle.conflicts.specs.Fates.{shows}
use Rattle.conflicts.proofs.fates.first_after.Given as goal

-- none so far is searched for
abbrev pub invariant-loop-j : goal.invariant-loop-j
invariant-loop-j l = (k : ℕ) → k < l.j → (nat_lt l.place k && entry_is l.entries k (shows l.sign l.runner)) ≡ false
