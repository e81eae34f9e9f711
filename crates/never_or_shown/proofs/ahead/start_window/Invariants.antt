use Rattle.std.proofs.Common.{◌+◌, ◌≤◌, ℕ}
use Rattle.homefree.specs.BookView.{IsOfSameLoop}
use Rattle.never_or_shown.specs.Drives.{IsDrive}
use Rattle.never_or_shown.specs.Windows.{IsReady, IsStarting}
use Rattle.never_or_shown.proofs.ahead.start_window.Given as goal

-- so many epochs have started
abbrev pub invariant-loop-core : goal.invariant-loop-core
invariant-loop-core l = record {
  drive : IsDrive l.drive;
  same : IsOfSameLoop l.initial.drive.book l.drive.book;
  started : (first : ℕ) → IsReady l.initial.drive.book first → first + l.window ≤ l.initial.drive.book.image.epochs → IsStarting l.drive.book first l.core;
}
