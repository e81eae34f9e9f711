-- What the laws of replay say.
use Rattle.std.specs.Prelude.{◌≡◌, ℕ, ◌+◌, ◌<◌, ◌≤◌, true, false, List, [], length, Option, Some, None, slice_index}
use Rattle.rv32_exec.specs.declared.sequential.End.{End}
use Rattle.rv32_exec.specs.declared.sequential.End.TheVariants.{Done, Exit, Fault}
use Rattle.rv32_image.specs.Image.{LoadedImage}
use Rattle.rv32_exec.specs.Hart.{start_of}
use Rattle.rv32_exec.specs.Sequential.{Runs, after_steps, first_epochs, published_memory, sequential_result}
use Rattle.spec_history.specs.declared.entry.Entry.{Entry}
use Rattle.memory_bytes.specs.Maps.{over}
use Rattle.spec_history.specs.FlatState.{CoreState, FlatState}
use Rattle.spec_history.specs.Replay.{replay_from, replay}

-- committed memory is this list, byte for byte
pub record Holds (image : LoadedImage) (committed : ℕ → ℕ) (memory : List ℕ) : Type 0 where
  pub long : length memory ≡ image.size
  pub bytes : (a : ℕ) → committed a ≡ slice_index memory a

-- committed memory is what the epochs before the homefree one, and the instructions that the homefree one has
-- published, leave when they run in order
pub record IsPublished (image : LoadedImage) (s : FlatState) : Type 0 where
  pub memory : List ℕ
  pub published : published_memory image s.homefree s.published ≡ Some memory
  pub holds : Holds image s.committed memory

-- the epoch of a fault is the homefree one, and that of an exit is the one before it; else all epochs have committed
abbrev pub IsAtHomefree : LoadedImage → ℕ → End → Type 0
IsAtHomefree image homefree (Done epochs) = (epochs ≡ image.epochs) × (homefree ≡ image.epochs)
IsAtHomefree image homefree (Exit epoch) = epoch + 1 ≡ homefree
IsAtHomefree image homefree (Fault epoch cause pc) = epoch ≡ homefree

-- once the loop has ended, and not by a fault, no core runs an epoch
abbrev pub IsIdleAfter : FlatState → End → Type 0
IsIdleAfter s (Fault epoch cause pc) = Unit {0}
IsIdleAfter s end = (k : ℕ) → s.cores k ≡ None

-- the loop ended as the sequential loop does
pub record EndsInOrder (image : LoadedImage) (s : FlatState) (end : End) : Type 0 where
  pub end_is : end ≡ (sequential_result image).end
  pub at_homefree : IsAtHomefree image s.homefree end
  pub idle : IsIdleAfter s end
  pub holds : Holds image s.committed (sequential_result image).bytes

-- a fault of a history: no entry is later, and it is that of the sequential loop, at the homefree epoch, so no epoch before
-- it exits
pub record FaultsInOrder (image : LoadedImage) (s : FlatState) (cause pc : ℕ) (later : List Entry) : Type 0 where
  pub last : later ≡ []
  pub end_is : (sequential_result image).end ≡ Fault s.homefree cause pc
  pub before : (first_epochs image s.homefree).end ≡ Done s.homefree

-- the state between the first entries of a history and the others
pub record Splits (image : LoadedImage) (count : ℕ) (first later : List Entry) (last : FlatState) : Type 0 where
  pub between : FlatState
  pub first_replays : replay image count first ≡ Some between
  pub later_replays : replay_from image count between later ≡ Some last

-- where the core's epoch has come from its start, over this memory
pub record LeadsTo (image : LoadedImage) (core : CoreState) (memory : List ℕ) : Type 0 where
  pub after : List ℕ
  pub runs : after_steps image core.hart.done (start_of image core.epoch) memory ≡ Runs core.hart after
  pub holds : Holds image (over core.own (λ a. slice_index memory a)) after

-- the memory has the bytes that were read, as they were read
pub record HasBytes (image : LoadedImage) (read : ℕ → Option ℕ) (memory : List ℕ) : Type 0 where
  pub long : length memory ≡ image.size
  pub bytes : (a byte : ℕ) → read a ≡ Some byte → slice_index memory a ≡ byte

-- what holds of a core that runs an epoch, hurt or not
pub record IsKeptCore (image : LoadedImage) (count : ℕ) (committed : ℕ → ℕ) (homefree next_epoch k : ℕ) (core : CoreState) : Type 0 where
  pub there : k < count
  -- its epoch has been started and has not committed
  pub from : homefree ≤ core.epoch
  pub below : core.epoch < next_epoch
  -- a straight core runs the homefree epoch, is not hurt, and keeps no bytes of its own
  pub straight_homefree : core.straight ≡ true → core.epoch ≡ homefree
  pub straight_unhurt : core.straight ≡ true → core.hurt ≡ false
  pub straight_owns : core.straight ≡ true → (a : ℕ) → core.own a ≡ None
  pub straight_read : core.straight ≡ true → (a : ℕ) → core.outside a ≡ None
  -- it has read within memory
  pub within : (a byte : ℕ) → core.outside a ≡ Some byte → a < image.size
  -- unless it is hurt, what it has read from outside is committed
  pub reads_stand : core.hurt ≡ false → (a byte : ℕ) → core.outside a ≡ Some byte → committed a ≡ byte
  -- unless it is hurt or straight, its hart and its own bytes are what its epoch gives from its start, on any memory that
  -- has the bytes that it has read from outside
  pub runs_alone : core.hurt ≡ false → core.straight ≡ false
      → (memory : List ℕ) → HasBytes image core.outside memory → LeadsTo image core memory

-- what every replay keeps until the loop is over
pub record IsKept (image : LoadedImage) (count : ℕ) (s : FlatState) : Type 0 where
  pub started : s.next_epoch ≤ image.epochs
  pub homefree_started : s.homefree ≤ s.next_epoch
  pub core : (k : ℕ) (core : CoreState) → s.cores k ≡ Some core → IsKeptCore image count s.committed s.homefree s.next_epoch k core
  -- no two cores run the same epoch
  pub apart : (j k : ℕ) (c d : CoreState) → s.cores j ≡ Some c → s.cores k ≡ Some d → c.epoch ≡ d.epoch → j ≡ k
