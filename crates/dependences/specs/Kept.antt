-- What the code keeps of the run in order: who wrote each byte last, 0 for nobody and else the epoch's number and 1.
use Rattle.std.specs.Prelude.{◌≡◌, ℕ, zero, suc, ◌+◌, ◌-◌, ◌==◌, ◌||◌, ◌<◌, ◌≤◌, Bool, false, List, length, Option, Some, None, nat_lt, slice_get, slice_index, if◌then◌else◌}
use Rattle.rv32_exec.specs.declared.sequential.End.TheVariants.{Done}
use Rattle.rv32_image.specs.Image.{LoadedImage}
use Rattle.rv32_exec.specs.Sequential.{first_epochs}
use Rattle.epoch_paths.specs.Paths.{ReadsOutside, Stores}
use Rattle.epoch_paths.specs.InOrder.{memory_before, AreAll}
use Rattle.dependences.specs.Conflict.{ConflictInOrder}
use Rattle.dependences.specs.declared.flow.Dependence.{Dependence}
use Rattle.dependences.specs.Nearest.{Depends, IsNearestLater}

-- ---- distances

abbrev pub nearer : Option ℕ → Option ℕ → Option ℕ
nearer (Some first) (Some second) = Some (if nat_lt first second then first else second)
nearer (Some first) None = Some first
nearer None second = second

-- a dependence of these instructions, at this distance, by this byte
pub record IsSuch (store load distance byte : ℕ) (one : Dependence) : Type 0 where
  pub stored : one.store_pc ≡ store
  pub loaded : one.load_pc ≡ load
  pub far : one.later - one.earlier ≡ distance
  pub by : one.byte ≡ byte

-- one of these dependences is as near as that
abbrev pub HasAsNear : List Dependence → ℕ → Type 0
HasAsNear list distance = (place : ℕ) × (one : Dependence) × (slice_get list place ≡ Some one) × (one.later - one.earlier ≤ distance)

-- the nearest is no farther than that
abbrev pub IsAtMost : Option ℕ → ℕ → Type 0
IsAtMost (Some nearest) distance = nearest ≤ distance
IsAtMost None distance = ⊥

-- none of these dependences is nearer than the nearest
abbrev pub AreNoNearer : List Dependence → Option ℕ → Type 0
AreNoNearer list nearest = (place : ℕ) (one : Dependence) → slice_get list place ≡ Some one → IsAtMost nearest (one.later - one.earlier)

-- the nearest of these dependences is so near, and this is the later epoch of such a one
pub record IsNearestOf (list : List Dependence) (nearest : Option ℕ) (epoch : ℕ) : Type 0 where
  pub later : IsNearestLater list nearest epoch
  pub least : AreNoNearer list nearest

-- how far an epoch is behind the last writer of a byte
abbrev pub behind : ℕ → ℕ → Option ℕ
behind epoch writer = if (writer == 0) || (writer == epoch + 1) then None else Some (epoch + 1 - writer)

-- the nearest of this, and of the last writers of the bytes of a load
unfoldable pub load_behind : List ℕ → ℕ → ℕ → ℕ → Option ℕ → Option ℕ
load_behind writers epoch address zero nearest = nearest
load_behind writers epoch address (suc width) nearest =
    nearer (load_behind writers epoch address width nearest) (behind epoch (slice_index writers (address + width)))

-- two epochs that depend on each other are nearer than there are cores
abbrev pub is_near : ℕ → Option ℕ → Bool
is_near cores (Some distance) = nat_lt distance cores
is_near cores None = false

-- ---- what is kept

-- of the epochs before this one, the last that stores the byte, and 1; 0 where none does
abbrev pub IsLastWriter : LoadedImage → ℕ → ℕ → ℕ → Type 0
IsLastWriter image epoch a zero = (d : ℕ) → d < epoch → Stores image d (memory_before image d) a → ⊥
IsLastWriter image epoch a (suc writer) =
    (writer < epoch) × Stores image writer (memory_before image writer) a
    × ((d : ℕ) → d < epoch → Stores image d (memory_before image d) a → d ≤ writer)

-- an epoch before this one depends on another this far before it
pub record DependsBefore (image : LoadedImage) (epoch distance : ℕ) : Type 0 where
  pub earlier : ℕ
  pub later : ℕ
  pub apart : later ≡ earlier + distance
  pub before : later < epoch
  pub depends : Depends image earlier later

-- it is so of this number, and of none that is less
abbrev pub IsLeast : (ℕ → Type 0) → Option ℕ → Type 0
IsLeast P (Some n) = P n × ((k : ℕ) → P k → n ≤ k)
IsLeast P None = (k : ℕ) → P k → ⊥

pub record AreKept (image : LoadedImage) (epoch : ℕ) (writers : List ℕ) (nearest : Option ℕ) : Type 0 where
  pub long : length writers ≡ image.size
  pub writer : (a : ℕ) → IsLastWriter image epoch a (slice_index writers a)
  pub least : IsLeast (DependsBefore image epoch) nearest

-- the epochs before this one are done, and it is kept what they did
pub record GoesOn (image : LoadedImage) (epoch : ℕ) (memory writers : List ℕ) (nearest : Option ℕ) : Type 0 where
  pub done : first_epochs image epoch ≡ record { end = Done epoch; bytes = memory }
  pub kept : AreKept image epoch writers nearest

-- all epochs that run in order are done, and it is kept what they did
pub record HaveRun (image : LoadedImage) (ran : ℕ) (writers : List ℕ) (nearest : Option ℕ) : Type 0 where
  pub all : AreAll image ran
  pub kept : AreKept image ran writers nearest

-- ---- epochs past the end

-- alone over this memory, the epoch reads a byte from outside whose last writer is this epoch or a later one
pub record MeetsWriter (image : LoadedImage) (epoch : ℕ) (memory writers : List ℕ) (first : ℕ) : Type 0 where
  pub byte : ℕ
  pub reads : ReadsOutside image epoch memory byte
  pub written : first < slice_index writers byte

-- epochs conflict, of which the later one is before this one
pub record ConflictsBefore (image : LoadedImage) (cores epoch : ℕ) : Type 0 where
  pub conflict : ConflictInOrder image cores
  pub before : conflict.later < epoch
