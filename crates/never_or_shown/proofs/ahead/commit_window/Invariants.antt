use Rattle.std.proofs.Common.{ℕ}
use Rattle.homefree.specs.BookView.{IsOfSameLoop}
use Rattle.never_or_shown.specs.Drives.{IsDrive}
use Rattle.never_or_shown.specs.Windows.{IsAhead}
use Rattle.never_or_shown.proofs.ahead.commit_window.Given as goal

-- so many epochs have committed, and none has stored what the last one has read
abbrev pub invariant-loop-core : goal.invariant-loop-core
invariant-loop-core l = record {
  drive : IsDrive l.drive;
  same : IsOfSameLoop l.initial.drive.book l.drive.book;
  ahead : (first : ℕ) → IsAhead l.initial.drive.book.image l.initial.drive.book first l.last 0 → IsAhead l.initial.drive.book.image l.drive.book first l.last l.core;
}
