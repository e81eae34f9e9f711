-- What the code keeps of the last store of each byte, and of its dependences.
use Rattle.std.specs.Prelude.{◌≡◌, ◌⊎◌, ℕ, zero, suc, ◌+◌, ◌-◌, ◌<◌, ◌≤◌, List, [], ◌∷◌, ◌++◌, length, Option, Some, None, slice_get, slice_index}
use Rattle.rv32_image.specs.Image.{LoadedImage}
use Rattle.rv32_exec.specs.Hart.{HartState}
use Rattle.dependences.specs.declared.flow.Dependence.{Dependence}
use Rattle.epoch_paths.specs.Paths.{StoresAt}
use Rattle.epoch_paths.specs.InOrder.{memory_before}
use Rattle.epoch_paths.specs.Kept.{IsMarked}
use Rattle.dependences.specs.Kept.{nearer}
use Rattle.epoch_paths.specs.Flow.{DependsAt, LastStore}
use Rattle.dependences.specs.Flow.{IsBefore, IsDependence}

-- of each byte: the epoch of its last store and 1, or 0 for none; the instructions done there; and its pc
pub record Stores : Type 0 where
  pub writers : List ℕ
  pub steps : List ℕ
  pub pcs : List ℕ

-- the bytes of an access have this last store now
pub record AreMarked (old new : Stores) (address width writer stored pc : ℕ) : Type 0 where
  pub writers_long : length new.writers ≡ length old.writers
  pub steps_long : length new.steps ≡ length old.steps
  pub pcs_long : length new.pcs ≡ length old.pcs
  pub writers : IsMarked old.writers new.writers address width writer
  pub steps : IsMarked old.steps new.steps address width stored
  pub pcs : IsMarked old.pcs new.pcs address width pc

-- memory has so many bytes
pub record AreLong (s : Stores) (size : ℕ) : Type 0 where
  pub writers : length s.writers ≡ size
  pub steps : length s.steps ≡ size
  pub pcs : length s.pcs ≡ size

-- of the epochs before this one, this is the last store of the byte
abbrev pub IsStoredLast : LoadedImage → ℕ → ℕ → ℕ → ℕ → ℕ → Type 0
IsStoredLast image epoch a zero stored pc = (d step : ℕ) → d < epoch → StoresAt image d (memory_before image d) step a → ⊥
IsStoredLast image epoch a (suc d) stored pc = (last : LastStore image epoch a d stored) × (pc ≡ last.there.hart.pc)

-- of the bytes of a load that an earlier epoch has stored last, the first of the latest such epoch
pub record IsNearest (writers : List ℕ) (epoch address width byte : ℕ) : Type 0 where
  pub from : address ≤ byte
  pub below : byte < address + width
  pub some : 0 < slice_index writers byte
  pub earlier : slice_index writers byte ≤ epoch
  pub nearest : (a : ℕ) → address ≤ a → a < address + width → slice_index writers a ≤ epoch
      → (slice_index writers a < slice_index writers byte) ⊎ ((slice_index writers a ≡ slice_index writers byte) × (byte ≤ a))

abbrev pub IsNearestByte : List ℕ → ℕ → ℕ → ℕ → Option ℕ → Type 0
IsNearestByte writers epoch address width (Some byte) = IsNearest writers epoch address width byte
IsNearestByte writers epoch address width None = (a : ℕ) → address ≤ a → a < address + width → slice_index writers a ≤ epoch → slice_index writers a ≡ 0

-- the dependence of a load at this pc, after so many instructions, by this byte
abbrev pub dependence_at : Stores → ℕ → ℕ → ℕ → ℕ → Dependence
dependence_at s epoch pc done byte = record {
  earlier = slice_index s.writers byte - 1;
  stored = slice_index s.steps byte;
  store_pc = slice_index s.pcs byte;
  later = epoch;
  loaded = done;
  load_pc = pc;
  byte = byte;
}

-- of a load of this hart's
abbrev pub dependence_of : Stores → ℕ → HartState → ℕ → Dependence
dependence_of s epoch h byte = dependence_at s epoch h.pc h.done byte

-- the nearest of this, and of the last writer of this byte
abbrev pub nearer_by : List ℕ → ℕ → ℕ → Option ℕ → Option ℕ
nearer_by writers epoch byte nearest = nearer nearest (Some (epoch + 1 - slice_index writers byte))

-- after a load, how near epochs depend on each other, and the dependences
abbrev pub nearest_after : List ℕ → ℕ → Option ℕ → Option ℕ → Option ℕ
nearest_after writers epoch None nearest = nearest
nearest_after writers epoch (Some byte) nearest = nearer_by writers epoch byte nearest

abbrev pub noted_at : Stores → ℕ → ℕ → ℕ → Option ℕ → List Dependence → List Dependence
noted_at s epoch pc done None list = list
noted_at s epoch pc done (Some byte) list = list ++ dependence_at s epoch pc done byte ∷ []

abbrev pub noted : Stores → ℕ → HartState → Option ℕ → List Dependence → List Dependence
noted s epoch h None list = list
noted s epoch h (Some byte) list = list ++ dependence_of s epoch h byte ∷ []

-- a load of this hart's is noted where it depends on an earlier epoch
pub record IsNoted (s : Stores) (epoch : ℕ) (h : HartState) (address width : ℕ) (old new : List Dependence) : Type 0 where
  pub byte : Option ℕ
  pub nearest : IsNearestByte s.writers epoch address width byte
  pub list : new ≡ noted s epoch h byte old

-- one of each load before this step of this epoch that depends on an earlier epoch, in order
pub record AreBefore (image : LoadedImage) (epoch done : ℕ) (list : List Dependence) : Type 0 where
  pub each : (k : ℕ) (x : Dependence) → slice_get list k ≡ Some x → IsDependence image x × IsBefore x.later x.loaded epoch done
  pub all : (later loaded byte earlier stored : ℕ) → IsBefore later loaded epoch done → DependsAt image later loaded byte earlier stored
      → (k : ℕ) × (x : Dependence) × (slice_get list k ≡ Some x) × (x.later ≡ later) × (x.loaded ≡ loaded)
  pub in_order : (j k : ℕ) (x y : Dependence) → slice_get list j ≡ Some x → slice_get list k ≡ Some y → j < k
      → IsBefore x.later x.loaded y.later y.loaded

-- it is kept what the epochs before this one did
pub record AreStoresKept (image : LoadedImage) (epoch : ℕ) (s : Stores) (found : List Dependence) : Type 0 where
  pub long : AreLong s image.size
  pub last : (a : ℕ) → IsStoredLast image epoch a (slice_index s.writers a) (slice_index s.steps a) (slice_index s.pcs a)
  pub list : AreBefore image epoch 0 found
