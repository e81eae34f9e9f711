use Rattle.std.proofs.Common.{◌≡◌, ◌<◌, ◌≤◌, ℕ, None, IfSome}
use Rattle.homefree.specs.BookView.{IsFull}
use Rattle.homefree.specs.LockView.{loop_of}
use Rattle.never_or_shown.specs.Shown.{IsConflictAt}
use Rattle.never_or_shown.proofs.shown.show_conflict.Given as goal

-- a history was full, or none of the epochs so far conflicts
abbrev pub invariant-loop-later : goal.invariant-loop-later
invariant-loop-later l = record {
  full : IfSome l.full (λ book. (loop_of book ≡ record { image = l.image; cores = l.cores; room = l.room }) × IsFull book);
  none : l.full ≡ None → (later : ℕ) → l.from ≤ later → later < l.later → IsConflictAt l.image l.cores later → ⊥;
}
