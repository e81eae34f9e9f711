-- That a conflict over bytes is shown by a schedule.
-- Source: this project; the definitions of conflicts are those of `dependences`.
use Rattle.std.specs.Prelude.{◌≡◌, ℕ, ◌<◌, ◌≤◌}
use Rattle.rv32_image.specs.Image.{LoadedImage}
use Rattle.homefree.specs.declared.book.Loop.{Loop}
use Rattle.homefree.specs.BookView.{IsFull}
use Rattle.homefree.specs.LockView.{loop_of}
use Rattle.dependences.specs.Conflict.{ConflictInOrder}
use Rattle.never_or_shown.specs.declared.ahead.Ahead.{Ahead}
use Rattle.never_or_shown.specs.declared.ahead.Ahead.TheVariants.{Violated, HistoryFull, Unviolated}
use Rattle.never_or_shown.specs.Violation.{HasViolation}

-- this epoch reads a byte from outside that an epoch before it stores in order, and so many cores can run both at a time
pub record IsConflictAt (image : LoadedImage) (cores later : ℕ) : Type 0 where
  pub conflict : ConflictInOrder image cores
  pub is : conflict.later ≡ later

-- one of some epochs, from the first up to the one before the last, conflicts so
pub record IsConflictIn (image : LoadedImage) (cores from to : ℕ) : Type 0 where
  pub later : ℕ
  pub first : from ≤ later
  pub last : later < to
  pub at : IsConflictAt image cores later

-- what is said of such schedules of a loop: where none has violated an epoch, and each has had room, there is no such conflict
abbrev pub ComesTo : Loop → Type 0 → Ahead → Type 0
ComesTo l conflict (Violated book) = (loop_of book ≡ l) × HasViolation book.history
ComesTo l conflict (HistoryFull book) = (loop_of book ≡ l) × IsFull book
ComesTo l conflict Unviolated = conflict → ⊥
