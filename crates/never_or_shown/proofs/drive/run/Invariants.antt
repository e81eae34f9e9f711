use Rattle.std.proofs.Common.{◌<◌, ◌-◌, ℕ, length}
use Rattle.spec_history.specs.FlatState.{FlatState}
use Rattle.homefree.specs.BookView.{IsOfSameLoop, ReplaysTo}
use Rattle.never_or_shown.specs.Drives.{IsDrive}
use Rattle.never_or_shown.specs.Quiet.{IsQuiet, RunsEpoch}
use Rattle.never_or_shown.proofs.Running.{HasGoneOn}
use Rattle.never_or_shown.proofs.drive.run.Given as goal

-- the core has gone on with its epoch
abbrev pub invariant-turns : goal.invariant-turns
invariant-turns l = record {
  drive : IsDrive l.drive;
  same : IsOfSameLoop l.initial.drive.book l.drive.book;
  core : l.core < l.drive.book.cores;
  on : (s : FlatState) (epoch : ℕ) → ReplaysTo l.initial.drive.book s → IsQuiet s → RunsEpoch s l.core epoch → HasGoneOn l.drive.book s l.core epoch;
}

abbrev pub decreases-turns : goal.decreases-turns
decreases-turns l = l.drive.book.room - length l.drive.book.history
