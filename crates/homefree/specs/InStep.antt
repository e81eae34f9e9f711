-- What holds of every book: its history leads to a state with which its store agrees.
use Rattle.std.specs.Prelude.{◌≡◌, ◌<◌, ◌≤◌, false, All, length, Some}
use Rattle.rv32_image.specs.Image.{IsImage}
use Rattle.spec_history.specs.FlatState.{FlatState}
use Rattle.violations.specs.View.{StoreView}
use Rattle.violations.specs.Rule.{IsCoreCount, shape_of}
use Rattle.homefree.specs.declared.answer.StopCause.TheVariants.{HistoryFull}
use Rattle.homefree.specs.Agrees.{Agrees}
use Rattle.homefree.specs.Caused.{HasCauses, HasKinds, MeetInBytes}
use Rattle.homefree.specs.Counted.{counted_in}
use Rattle.homefree.specs.Ending.{NoneStartsAfterCancel}
use Rattle.homefree.specs.BookView.{BookView, IsFull, ReplaysTo}
use Rattle.homefree.specs.Missed.{PassesOverNone, IsOfCaches}
use Rattle.homefree.specs.Room.{most_room}

pub record InStep {S : Type 0} (view : S → StoreView) (b : BookView S) : Type 0 where
  -- the state that the history leads to
  pub state : FlatState
  pub replays : ReplaysTo b state
  pub agrees : Agrees state (view b.store)
  -- the store is for this image and these cores
  pub shape : (view b.store).shape ≡ shape_of b.image b.cores
  -- each entry was made by a turn of one of the cores
  pub by_cores : All (λ e. e.by < b.cores) b.history
  -- each violation has its cause, which stands after it, and is of a kind
  pub caused : HasCauses b.history
  pub kinds : HasKinds b.image b.cores b.history
  -- without caches, each meets in a byte that its cause commits
  pub meets : (view b.store).cached ≡ false → MeetInBytes b.image b.cores b.history
  -- none starts once one has been cancelled
  pub starts : NoneStartsAfterCancel b.history
  -- over caches, no entry passes over a later epoch that has read in a line which it writes, further stores aside
  pub passes : IsOfCaches view → PassesOverNone b.image b.cores b.history
  pub counted : b.totals ≡ counted_in b.history
  pub is_image : IsImage b.image
  pub core_count : IsCoreCount b.image b.cores
  pub within : length b.history ≤ b.room
  pub most : b.room ≤ most_room
  -- a book that was stopped for a full history has a full one
  pub full : b.stopped ≡ Some HistoryFull → IsFull b
