-- What a book keeps: its fields and its store fit, its history is within its room and of its cores, and a stop for a full
-- history is true.
use Rattle.std.specs.Prelude.{◌≡◌, ℕ, ◌+◌, ◌<◌, ◌≤◌, false, All, length, Option, Some}
use Rattle.rv32_image.specs.Version.{limits_of}
use Rattle.violations.specs.View.{StoreView}
use Rattle.homefree.specs.declared.answer.StopCause.{StopCause}
use Rattle.homefree.specs.declared.answer.StopCause.TheVariants.{HistoryFull}
use Rattle.homefree.specs.declared.register.Register.{Register}
use Rattle.homefree.specs.Caused.{HasCauses, HasKinds, MeetInBytes}
use Rattle.homefree.specs.Ending.{IsOverAfterCancel, NoneStartsAfterCancel}
use Rattle.homefree.specs.BookView.{BookView}
use Rattle.homefree.specs.Kept.{Fits}
use Rattle.homefree.specs.Missed.{PassesOverNone, IsOfCaches}
use Rattle.homefree.specs.Room.{most_room}

pub record IsBook {S : Type 0} (view : S → StoreView) (r : Register) (store : S) (room : ℕ) (stopped : Option StopCause) : Type 0 where
  pub fits : Fits r (view store)
  pub by_cores : All (λ e. e.by < length r.running.items) r.history.items
  pub caused : HasCauses r.history.items
  pub over : IsOverAfterCancel r.history.items r.end
  pub starts : NoneStartsAfterCancel r.history.items
  pub kinds : HasKinds r.image (length r.running.items) r.history.items
  pub meets : (view store).cached ≡ false → MeetInBytes r.image (length r.running.items) r.history.items
  pub passes : IsOfCaches view → PassesOverNone r.image (length r.running.items) r.history.items
  pub within : length r.history.items ≤ room
  pub most : room ≤ most_room
  pub full : stopped ≡ Some HistoryFull → room < length r.history.items + (limits_of r.image.version).free_entries

-- the fields are as they were, room aside
pub record IsAsBefore (old new : Register) : Type 0 where
  pub image : new.image ≡ old.image
  pub history : new.history.items ≡ old.history.items
  pub totals : new.totals ≡ old.totals
  pub running : new.running ≡ old.running
  pub homefree : new.homefree ≡ old.homefree
  pub next_epoch : new.next_epoch ≡ old.next_epoch
  pub end : new.end ≡ old.end

-- the book with these fields, as contracts see it
abbrev pub book_of : {S : Type 0} → Register → S → ℕ → Option StopCause → BookView S
book_of r store room cause =
    record { image = r.image; cores = length r.running.items; room = room; history = r.history.items; totals = r.totals; store = store; stopped = cause }
