-- What the code keeps of the run in order: when the epochs so far have stored and committed, each step as early as it can be.
use Rattle.std.specs.Prelude.{◌≡◌, ◌⊎◌, ℕ, zero, suc, ◌+◌, ◌-◌, ◌*◌, ◌<◌, ◌≤◌, List, [], ◌∷◌, ◌++◌, length, max, slice_index}
use Rattle.rv32_image.specs.Image.{LoadedImage}
use Rattle.epoch_paths.specs.Paths.{StoresAt}
use Rattle.epoch_paths.specs.InOrder.{memory_before, AreAll}
use Rattle.epoch_paths.specs.Flow.{DependsAt, LastStore}
use Rattle.epoch_paths.specs.Kept.{IsMarked}
use Rattle.epoch_paths.specs.Lengths.{Lasts}
use Rattle.limits.specs.declared.limit.Waits.{Waits}
use Rattle.limits.specs.declared.limit.Waits.TheVariants.{Commit, Store}
use Rattle.limits.specs.Limits.{Timing, awaited}

-- ---- lists

-- what loads wait for; the commit of each epoch so far; of each byte the epoch of its last store and 1, or 0 for none; and the step
-- of that store
pub record Kept : Type 0 where
  pub waits : Waits
  pub commits : List ℕ
  pub writers : List ℕ
  pub stores : List ℕ

-- memory has so many bytes
pub record AreLong (s : Kept) (size : ℕ) : Type 0 where
  pub writers : length s.writers ≡ size
  pub stores : length s.stores ≡ size

-- the bytes of a store have this writer and this step now
pub record AreMarked (old new : Kept) (address width writer step : ℕ) : Type 0 where
  pub waits : new.waits ≡ old.waits
  pub commits : new.commits ≡ old.commits
  pub writers_long : length new.writers ≡ length old.writers
  pub stores_long : length new.stores ≡ length old.stores
  pub writers : IsMarked old.writers new.writers address width writer
  pub stores : IsMarked old.stores new.stores address width step

-- the step that a load of this byte waits for
abbrev pub awaited_in : Waits → Kept → ℕ → ℕ
awaited_in Store s a = slice_index s.stores a
awaited_in Commit s a = slice_index s.commits (slice_index s.writers a - 1)

abbrev pub awaited_by : Kept → ℕ → ℕ
awaited_by s a = awaited_in s.waits s a

-- of the bytes from this one to that one, one that an epoch before this one has stored last, and the step that it waits for
pub record IsAwaited (s : Kept) (epoch first past step : ℕ) : Type 0 where
  pub byte : ℕ
  pub from : first ≤ byte
  pub below : byte < past
  pub some : 0 < slice_index s.writers byte
  pub earlier : slice_index s.writers byte ≤ epoch
  pub is : step ≡ awaited_by s byte

-- the last step that such a byte waits for, or 0
pub record IsReady (s : Kept) (epoch first past step : ℕ) : Type 0 where
  pub each : (byte : ℕ) → first ≤ byte → byte < past → 0 < slice_index s.writers byte → slice_index s.writers byte ≤ epoch → awaited_by s byte ≤ step
  pub one : (step ≡ 0) ⊎ IsAwaited s epoch first past step

abbrev pub last_commit : List ℕ → ℕ
last_commit commits = slice_index commits (length commits - 1)

-- one more epoch has committed, whose end came in this step
abbrev pub with_commit : Kept → ℕ → Kept
with_commit s end = record s { commits = s.commits ++ max end (last_commit s.commits) ∷ [] }

-- ---- steps

-- at this place or before it the epoch has a load that came in the step that it waits for, so many steps after this base as the place
-- of the load says
pub record HasWaited (image : LoadedImage) (waits : Waits) (t : Timing) (epoch place base : ℕ) : Type 0 where
  pub load : ℕ
  pub byte : ℕ
  pub earlier : ℕ
  pub stored : ℕ
  pub low : load ≤ place
  pub depends : DependsAt image epoch load byte earlier stored
  pub is : base + load ≡ awaited waits t earlier stored

-- the instruction at each place comes so many steps after the base there as the place says. Bases never fall, and each is the step
-- after the epoch's beginning, or a load has waited up to it
pub record AreBases (image : LoadedImage) (waits : Waits) (t : Timing) (epoch begin : ℕ) (bases : ℕ → ℕ) : Type 0 where
  pub rise : (place : ℕ) → bases place ≤ bases (place + 1)
  pub first : begin < bases 0
  pub why : (place : ℕ) → (bases place ≡ begin + 1) ⊎ HasWaited image waits t epoch place (bases place)

-- the epoch begins here as early as it can
pub record IsBegin (cores : ℕ) (t : Timing) (epoch begin : ℕ) : Type 0 where
  pub early : epoch < cores → begin ≡ 0
  pub late : (before : ℕ) → epoch ≡ before + cores → begin ≡ t.commit before + 1

-- each step of this epoch is as early as it can be after those of the epochs before it
pub record IsEarliest (image : LoadedImage) (waits : Waits) (cores : ℕ) (t : Timing) (epoch : ℕ) : Type 0 where
  pub length : ℕ
  pub lasts : Lasts image epoch length
  pub begin : IsBegin cores t epoch (t.begin epoch)
  pub bases : ℕ → ℕ
  pub are : AreBases image waits t epoch (t.begin epoch) bases
  pub at : (place : ℕ) → t.at epoch place ≡ bases place + place
  pub ready : (place byte earlier stored : ℕ) → DependsAt image epoch place byte earlier stored → awaited waits t earlier stored ≤ t.at epoch place
  pub ends : t.at epoch length ≤ t.commit epoch
  pub in_order : (before : ℕ) → epoch ≡ before + 1 → t.commit before ≤ t.commit epoch
  pub commits : (t.commit epoch ≡ t.at epoch length) ⊎ ((before : ℕ) × (epoch ≡ before + 1) × (t.commit epoch ≡ t.commit before))

-- of the epochs before this one, this is the last store of the byte, in this step
abbrev pub IsStoredLast : LoadedImage → Timing → ℕ → ℕ → ℕ → ℕ → Type 0
IsStoredLast image t epoch a zero step = (d stored : ℕ) → d < epoch → StoresAt image d (memory_before image d) stored a → ⊥
IsStoredLast image t epoch a (suc d) step = (stored : ℕ) × LastStore image epoch a d stored × (step ≡ t.at d stored)

-- the epochs before this one have committed, each step as early as it can be
pub record HaveCommitted (image : LoadedImage) (waits : Waits) (cores epoch : ℕ) (commits : List ℕ) (t : Timing) : Type 0 where
  pub long : length commits ≡ epoch
  pub are : (d : ℕ) → d < epoch → slice_index commits d ≡ t.commit d
  pub soon : (d : ℕ) → d < epoch → t.commit d ≤ epoch * 1000002
  pub each : (d : ℕ) → d < epoch → IsEarliest image waits cores t d

-- it is kept what the epochs before this one did
pub record AreKept (image : LoadedImage) (cores epoch : ℕ) (s : Kept) : Type 0 where
  pub timing : Timing
  pub long : AreLong s image.size
  pub before : HaveCommitted image s.waits cores epoch s.commits timing
  pub last : (a : ℕ) → IsStoredLast image timing epoch a (slice_index s.writers a) (slice_index s.stores a)

-- all epochs that run in order have committed
pub record HaveRun (image : LoadedImage) (cores : ℕ) (waits : Waits) (s : Kept) : Type 0 where
  pub epochs : ℕ
  pub all : AreAll image epochs
  pub timing : Timing
  pub before : HaveCommitted image waits cores epochs s.commits timing
