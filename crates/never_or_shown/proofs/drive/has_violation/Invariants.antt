use Rattle.std.proofs.Common.{◌≡◌, ◌<◌, ◌≤◌, ℕ, false, Some, slice_get}
use Rattle.spec_history.specs.declared.entry.Entry.{Entry}
use Rattle.spec_history.specs.Conflict.{is_hurt}
use Rattle.never_or_shown.proofs.drive.has_violation.Given as goal

-- none of the entries so far is one
abbrev pub invariant-loop-place : goal.invariant-loop-place
invariant-loop-place l = record {
  none : (place : ℕ) (entry : Entry) → l.from ≤ place → place < l.place → slice_get l.history place ≡ Some entry → is_hurt entry.what ≡ false;
}
