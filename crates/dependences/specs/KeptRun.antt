-- What the code keeps of an epoch while it runs in order.
use Rattle.std.specs.Prelude.{◌≡◌, ℕ, ◌+◌, ◌<◌, ◌≤◌, Bool, true, false, List, length, Option, Some, None, slice_index}
use Rattle.rv32_image.specs.Image.{LoadedImage, IsImage}
use Rattle.rv32_exec.specs.Hart.{HartState}
use Rattle.rv32_exec.specs.NextEvent.{next_event}
use Rattle.rv32_exec.specs.declared.sequential.End.TheVariants.{Done}
use Rattle.rv32_exec.specs.Sequential.{first_epochs}
use Rattle.dependences.specs.declared.flow.Dependence.{Dependence}
use Rattle.dependences.specs.declared.flow.Flow.{Flow}
use Rattle.epoch_paths.specs.Paths.{StoresAt}
use Rattle.epoch_paths.specs.InOrder.{IsInOrder, memory_before, AreAll}
use Rattle.dependences.specs.Nearest.{Depends, IsNearest, IsNearestLater}
use Rattle.dependences.specs.Flow.{AreDependences}
use Rattle.epoch_paths.specs.Lengths.{Lasts}
use Rattle.dependences.specs.Lengths.{AreLengths}
use Rattle.dependences.specs.Kept.{AreKept, DependsBefore, IsLastWriter, IsLeast, IsNearestOf}
use Rattle.dependences.specs.KeptStores.{AreBefore, AreLong, AreStoresKept, IsNearestByte, IsStoredLast, Stores, nearest_after, noted_at}
use Rattle.epoch_paths.specs.Kept.{IsAt}

-- an epoch before this one depends on another this far before it, or this one does, by what it has loaded so far
pub data DependsUpTo (image : LoadedImage) (epoch done distance : ℕ) : Type 0 where
  before_it : DependsBefore image epoch distance → DependsUpTo image epoch done distance
  by_it : (earlier : ℕ) → epoch ≡ earlier + distance → (depends : Depends image earlier epoch) → depends.reads.step < done → DependsUpTo image epoch done distance

-- the epoch runs over memory, from this hart on
pub record Following (image : LoadedImage) (epoch : ℕ) (memory writers : List ℕ) (h : HartState) (nearest : Option ℕ) : Type 0 where
  pub own : ℕ → Option ℕ
  pub at : IsAt image epoch (memory_before image epoch) h own
  pub is : at.after ≡ memory
  pub long : length writers ≡ image.size
  pub mine : (a byte : ℕ) → own a ≡ Some byte → slice_index writers a ≡ epoch + 1
  pub others : (a : ℕ) → own a ≡ None → IsLastWriter image epoch a (slice_index writers a)
  pub least : IsLeast (DependsUpTo image epoch h.done) nearest

-- ---- dependences

-- the epoch has stored the byte last at this step, of those so far
pub record IsMine (image : LoadedImage) (epoch done a writer stored pc : ℕ) : Type 0 where
  pub number : writer ≡ epoch + 1
  pub there : StoresAt image epoch (memory_before image epoch) stored a
  pub is : pc ≡ there.hart.pc
  pub last : (step : ℕ) → step < done → StoresAt image epoch (memory_before image epoch) step a → step ≤ stored

-- the epoch runs over memory, from this hart on
pub record Flowing (image : LoadedImage) (epoch : ℕ) (memory : List ℕ) (s : Stores) (h : HartState) (found : List Dependence) : Type 0 where
  pub own : ℕ → Option ℕ
  pub at : IsAt image epoch (memory_before image epoch) h own
  pub is : at.after ≡ memory
  pub long : AreLong s image.size
  pub mine : (a byte : ℕ) → own a ≡ Some byte → IsMine image epoch h.done a (slice_index s.writers a) (slice_index s.steps a) (slice_index s.pcs a)
  pub others : (a : ℕ) → own a ≡ None → IsStoredLast image epoch a (slice_index s.writers a) (slice_index s.steps a) (slice_index s.pcs a)
  pub list : AreBefore image epoch h.done found

-- ---- between epochs

-- it is all kept of the epochs before this one
pub record IsFlowKept {F : Type 0} (keeps : F → List Dependence → Type 0) (image : LoadedImage) (epoch : ℕ) (flow : Flow F) : Type 0 where
  pub found : List Dependence
  pub list : keeps flow.found found
  pub stores : AreStoresKept image epoch flow.stores found
  pub writers : AreKept image epoch flow.stores.writers flow.nearest
  pub later : IsNearestOf found flow.nearest flow.later
  pub room : flow.is_full ≡ false

-- and how many instructions each of them executes
pub record IsRunKept {F : Type 0} (keeps : F → List Dependence → Type 0) (image : LoadedImage) (epoch : ℕ) (flow : Flow F) (lengths : List ℕ) : Type 0 where
  pub kept : IsFlowKept keeps image epoch flow
  pub long : length lengths ≡ epoch
  pub each : (d : ℕ) → d < epoch → Lasts image d (slice_index lengths d)

-- all epochs have run that run in order
pub record HaveAllRun {F : Type 0} (keeps : F → List Dependence → Type 0) (image : LoadedImage) (flow : Flow F) (lengths : List ℕ) : Type 0 where
  pub found : List Dependence
  pub list : keeps flow.found found
  pub are : AreDependences image found
  pub later : IsNearestLater found flow.nearest flow.later
  pub nearest : IsNearest image flow.nearest
  pub lasts : AreLengths image lengths

-- the epochs before this one are done, and it runs over this memory; or no more run in order
abbrev pub IsLeft : LoadedImage → ℕ → List ℕ → Bool → Type 0
IsLeft image epoch memory true = first_epochs image epoch ≡ record { end = Done epoch; bytes = memory }
IsLeft image epoch memory false = AreAll image epoch

-- ---- at any hart

-- from the last hart on at which it was right no load or store has come
pub record IsKeptUpTo {F : Type 0} (keeps : F → List Dependence → Type 0) (image : LoadedImage) (flow : Flow F) (h : HartState) (memory : List ℕ) : Type 0 where
  pub found : List Dependence
  pub list : keeps flow.found found
  pub from : HartState
  pub same : next_event image from ≡ next_event image h
  pub flowing : Flowing image flow.epoch memory flow.stores from found
  pub following : Following image flow.epoch memory flow.stores.writers from flow.nearest
  pub later : IsNearestOf found flow.nearest flow.later

-- it is so where there was memory
pub record IsRight {F : Type 0} (keeps : F → List Dependence → Type 0) (image : LoadedImage) (flow : Flow F) (h : HartState) (memory : List ℕ) : Type 0 where
  pub limits : IsImage image
  pub long : AreLong flow.stores image.size
  pub within : flow.epoch < image.epochs
  pub order : IsInOrder image flow.epoch
  pub kept : flow.is_full ≡ false → IsKeptUpTo keeps image flow h memory

-- ---- after a load

-- what is kept after a load
pub record IsLoadKept {F : Type 0} (keeps : F → List Dependence → Type 0) (old new : Flow F) (pc done address width : ℕ) : Type 0 where
  pub epoch : new.epoch ≡ old.epoch
  pub stores : new.stores ≡ old.stores
  pub byte : Option ℕ
  pub near : IsNearestByte old.stores.writers old.epoch address width byte
  pub nearest : new.nearest ≡ nearest_after old.stores.writers old.epoch byte old.nearest
  pub room : old.is_full ≡ false
  pub found : (list : List Dependence) → keeps old.found list → keeps new.found (noted_at old.stores old.epoch pc done byte list)
  pub later : (list : List Dependence) → IsNearestOf list old.nearest old.later → IsNearestOf (noted_at old.stores old.epoch pc done byte list) new.nearest new.later

-- it is all kept as before
pub record IsSame {F : Type 0} (keeps : F → List Dependence → Type 0) (old new : Flow F) : Type 0 where
  pub epoch : new.epoch ≡ old.epoch
  pub stores : new.stores ≡ old.stores
  pub nearest : new.nearest ≡ old.nearest
  pub later : new.later ≡ old.later
  pub room : new.is_full ≡ old.is_full
  pub found : (list : List Dependence) → keeps old.found list → keeps new.found list
