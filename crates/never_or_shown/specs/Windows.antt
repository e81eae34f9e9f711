-- How far a schedule has come in which the last epoch of a window runs ahead.
-- Source: this project.
use Rattle.std.specs.Prelude.{◌≡◌, ℕ, ◌+◌, ◌<◌, ◌≤◌, Bool, true, false, None}
use Rattle.rv32_image.specs.Image.{LoadedImage}
use Rattle.spec_history.specs.FlatState.{FlatState}
use Rattle.violations.specs.Plain.{PlainView}
use Rattle.homefree.specs.BookView.{BookView, ReplaysTo}
use Rattle.epoch_paths.specs.Paths.{ReadsOutside, Stores}
use Rattle.epoch_paths.specs.InOrder.{IsInOrder, memory_before}
use Rattle.never_or_shown.specs.declared.drive.Drive.{Drive}
use Rattle.never_or_shown.specs.Drives.{IsDrive}
use Rattle.never_or_shown.specs.Quiet.{HasReadAll, IsQuiet, RunsEpoch}

-- so many epochs have committed, and no core runs one
pub record IsReady (b : BookView PlainView) (first : ℕ) : Type 0 where
  pub state : FlatState
  pub replays : ReplaysTo b state
  pub quiet : IsQuiet state
  pub homefree : state.homefree ≡ first
  pub next : state.next_epoch ≡ first
  pub idle : (k : ℕ) → state.cores k ≡ None

-- they have; or the loop ends before
abbrev pub HasCommittedBefore : LoadedImage → Drive → ℕ → Bool → Type 0
HasCommittedBefore image d first true = IsDrive d × IsReady d.book first
HasCommittedBefore image d first false = IsInOrder image first → ⊥

-- so many epochs of the window from this one on have started, each on its core
pub record IsStarting (b : BookView PlainView) (first count : ℕ) : Type 0 where
  pub state : FlatState
  pub replays : ReplaysTo b state
  pub quiet : IsQuiet state
  pub homefree : state.homefree ≡ first
  pub next : state.next_epoch ≡ first + count
  pub runs : (k : ℕ) → k < count → RunsEpoch state k (first + k)
  pub idle : (k : ℕ) → count ≤ k → state.cores k ≡ None

pub record HasStarted (old new : Drive) (count : ℕ) : Type 0 where
  pub drive : IsDrive new
  pub after : (first : ℕ) → IsReady old.book first → first + count ≤ old.book.image.epochs → IsStarting new.book first count

-- a byte that the later epoch reads from outside over memory before the first one, the earlier one stores in order
abbrev pub MeetIn : LoadedImage → ℕ → ℕ → ℕ → ℕ → Type 0
MeetIn image first later earlier a = Stores image earlier (memory_before image earlier) a × ReadsOutside image later (memory_before image first) a

-- so many epochs of the window have committed, and no such byte was met; the last one has read all that it reads from outside
pub record IsAhead (image : LoadedImage) (b : BookView PlainView) (first last count : ℕ) : Type 0 where
  pub state : FlatState
  pub replays : ReplaysTo b state
  pub quiet : IsQuiet state
  pub homefree : state.homefree ≡ first + count
  pub runs : (k : ℕ) → count ≤ k → k ≤ last → RunsEpoch state k (first + k)
  pub read : HasReadAll image state last (first + last) first
  pub passed : (d a : ℕ) → first ≤ d → d < first + count → MeetIn image first (first + last) d a → ⊥

-- no epoch of the window that runs in order stores a byte that the last one reads so
abbrev pub NoneMeet : LoadedImage → ℕ → ℕ → Type 0
NoneMeet image first later = (d a : ℕ) → first ≤ d → d < later → IsInOrder image d → MeetIn image first later d a → ⊥

abbrev pub MeetsNone : Drive → ℕ → Type 0
MeetsNone d last = (first : ℕ) → IsAhead d.book.image d.book first last 0 → first + last < d.book.image.epochs → NoneMeet d.book.image first (first + last)
