use Rattle.std.proofs.Common.{◌≡◌, ◌<◌, ◌&&◌, ℕ, false, not, nat_lt}
use Rattle.spec_history.specs.Conflict.{entry_is, is_notice}
use Rattle.conflicts.proofs.causes.next_act.Given as goal

-- none so far is after the place and no notice
abbrev pub invariant-loop-j : goal.invariant-loop-j
invariant-loop-j l = (k : ℕ) → k < l.j → (nat_lt l.place k && entry_is l.entries k (λ entry. not (is_notice entry.what))) ≡ false
