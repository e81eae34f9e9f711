use Rattle.homefree.specs.BookView.{IsOfSameLoop}
use Rattle.never_or_shown.specs.Drives.{IsDrive}
use Rattle.never_or_shown.specs.Windows.{IsReady}
use Rattle.never_or_shown.proofs.ahead.commit_before.Given as goal

-- so many epochs have committed
abbrev pub invariant-loop-epoch : goal.invariant-loop-epoch
invariant-loop-epoch l = record {
  drive : IsDrive l.drive;
  same : IsOfSameLoop l.initial.drive.book l.drive.book;
  ready : IsReady l.drive.book l._epoch;
}
