-- What the code keeps of the machine, and the state that it stands for.
use Rattle.std.specs.Prelude.{◌≡◌, ℕ, ◌+◌, ◌<◌, ◌≤◌, ◌^◌, List, length, Option, Some, None, slice_get, slice_index, option_and_then}
use Rattle.memory_bytes.specs.Bytes.{IsWidth}
use Rattle.rv32_image.specs.Image.{LoadedImage, IsImage}
use Rattle.spec_history.specs.declared.cores.Core.{Core}
use Rattle.spec_history.specs.declared.entry.What.{What}
use Rattle.spec_history.specs.declared.entry.What.TheVariants.{Load, Store}
use Rattle.spec_history.specs.declared.machine.Machine.{Machine}
use Rattle.spec_history.specs.FlatState.{CoreState, FlatState}
use Rattle.spec_history.specs.Effect.{effect}
use Rattle.spec_history.specs.Refusal.{refusal_of}
use Rattle.spec_history.specs.Cores.{core_of, IsCoreOf, HasRoom}

abbrev pub cores_of : List Core → ℕ → Option CoreState
cores_of cores k = option_and_then core_of (slice_get cores k)

abbrev pub state_of : Machine → FlatState
state_of m = record {
  committed = λ a. slice_index m.committed.items a;
  homefree = m.homefree;
  published = m.published;
  next_epoch = m.next_epoch;
  end = m.end;
  cores = cores_of m.cores.items;
}

-- how many cores it has
abbrev pub count_of_cores : Machine → ℕ
count_of_cores m = length m.cores.items

-- each core is one beside this image
pub record AreCoresOf (image : LoadedImage) (cores : List Core) : Type 0 where
  pub each : (k : ℕ) (core : Core) → slice_get cores k ≡ Some core → IsCoreOf image core

-- it keeps memory of the image's size, and cores beside it
pub record IsFit (m : Machine) : Type 0 where
  pub image : IsImage m.image
  pub committed : length m.committed.items ≡ m.image.size
  pub cores : AreCoresOf m.image m.cores.items

-- an access lies in memory, and has a width
abbrev pub IsInMemory : ℕ → What → Type 0
IsInMemory size (Load address width value) = IsWidth width × (address + width ≤ size)
IsInMemory size (Store address width value) = IsWidth width × (address + width ≤ size)
IsInMemory size what = Unit {0}

-- the value of a load is of its width
abbrev pub IsNumber : What → Type 0
IsNumber (Load address width value) = value < 256 ^ width
IsNumber what = Unit {0}

-- the core can note the bytes of the entry without taking memory
pub record HasRoomAt (m : Machine) (by : ℕ) (what : What) : Type 0 where
  pub room : (core : Core) → slice_get m.cores.items by ≡ Some core → HasRoom what core

abbrev pub IsLegal : Machine → ℕ → What → Type 0
IsLegal m by what = refusal_of m.image (count_of_cores m) (state_of m) (record { by = by; what = what }) ≡ None

-- the machine is as it was, but for the room that its cores have
pub record IsAsBefore (old new : Machine) : Type 0 where
  pub image : new.image ≡ old.image
  pub state : state_of new ≡ state_of old
  pub count : count_of_cores new ≡ count_of_cores old
  pub fit : IsFit new

-- the machine is now in this state
pub record Becomes (old new : Machine) (s : FlatState) : Type 0 where
  pub image : new.image ≡ old.image
  pub state : state_of new ≡ s
  pub count : count_of_cores new ≡ count_of_cores old
  pub fit : IsFit new

-- the state after an entry
abbrev pub after : Machine → ℕ → What → FlatState
after m by what = effect m.image (state_of m) (record { by = by; what = what })
