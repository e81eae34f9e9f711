-- What contracts see of a book.
use Rattle.std.specs.Prelude.{◌≡◌, ℕ, ◌+◌, ◌<◌, List, length, Option, Some}
use Rattle.rv32_image.specs.Image.{LoadedImage}
use Rattle.rv32_image.specs.Version.{limits_of}
use Rattle.run_ledger.specs.declared.counts.Counts.{Counts}
use Rattle.spec_history.specs.declared.entry.Entry.{Entry}
use Rattle.spec_history.specs.FlatState.{FlatState}
use Rattle.spec_history.specs.Replay.{replay}
use Rattle.homefree.specs.declared.answer.StopCause.{StopCause}

pub record BookView (S : Type 0) : Type 0 where
  pub image : LoadedImage
  -- how many cores there are
  pub cores : ℕ
  -- how many entries the history may have
  pub room : ℕ
  pub history : List Entry
  -- how many loads, stores, restarts and commits were counted
  pub totals : Counts
  pub store : S
  -- why it takes no more turns
  pub stopped : Option StopCause

-- the flat machine replays the book's history, and is in this state after it
abbrev pub ReplaysTo : {S : Type 0} → BookView S → FlatState → Type 0
ReplaysTo b s = replay b.image b.cores b.history ≡ Some s

-- how many free entries a turn asks for
abbrev pub free_entries : {S : Type 0} → BookView S → ℕ
free_entries b = (limits_of b.image.version).free_entries

-- the history has no room for a turn
abbrev pub IsFull : {S : Type 0} → BookView S → Type 0
IsFull b = b.room < length b.history + free_entries b

-- the book is of the same image, cores and room
pub record IsOfSameLoop {S : Type 0} (old new : BookView S) : Type 0 where
  pub image : new.image ≡ old.image
  pub cores : new.cores ≡ old.cores
  pub room : new.room ≡ old.room
