-- What the code keeps of the lines of the caches while an epoch runs.
use Rattle.std.specs.Prelude.{◌≡◌, ◌⊎◌, ℕ, ◌+◌, ◌<◌, ◌≤◌, Bool, true, false, List, Option, Some, None, slice_index}
use Rattle.rv32_image.specs.Image.{LoadedImage, IsImage}
use Rattle.rv32_exec.specs.Hart.{HartState}
use Rattle.rv32_exec.specs.NextEvent.{next_event}
use Rattle.spec_history.specs.Conflict.{line_count, line_number}
use Rattle.dependences.specs.declared.caches.CacheConflict.{CacheConflict}
use Rattle.dependences.specs.declared.caches.CacheConflict.TheVariants.{Buffer, Line}
use Rattle.dependences.specs.declared.watch.Watch.{Watch}
use Rattle.epoch_paths.specs.Paths.{LoadsAt, ReadsOutside, StoresAt}
use Rattle.epoch_paths.specs.InOrder.{IsInOrder}
use Rattle.dependences.specs.Conflict.{first_beside, run_memory}
use Rattle.dependences.specs.Shared.{TouchesIn}
use Rattle.dependences.specs.KeptOwn.{AreLong, HasStored}
use Rattle.dependences.specs.KeptLines.{AreLines, AreLinesKept, IsLastOf, Lines, StoresInLine, other_before}
use Rattle.dependences.specs.KeptTouches.{AreShares, AreTouches, AreTouchesKept, IsFound, StoresBefore, Touched, TouchesBefore}
use Rattle.epoch_paths.specs.Kept.{IsAt}

-- ---- who stored in lines

pub record InLines (image : LoadedImage) (cores epoch : ℕ) (memory now : List ℕ) (s : Lines) (h : HartState) : Type 0 where
  pub stored : ℕ → Option ℕ
  pub at : IsAt image epoch memory h stored
  pub is : at.after ≡ now
  pub own_long : AreLong s.own image.size
  pub lines : AreLines image s.two
  pub mine : (a byte : ℕ) → stored a ≡ Some byte → first_beside cores epoch < other_before s.two epoch (line_number image a) → HasStored s.own epoch a
  pub others : (a : ℕ) → stored a ≡ None → HasStored s.own epoch a → ⊥
  pub owner : (block : ℕ) → slice_index s.own.by block ≤ epoch + 1
  pub writer : (line : ℕ) → IsLastOf (StoresInLine image cores line) epoch (other_before s.two epoch line)
  pub noted : (line : ℕ) → slice_index s.two.last line ≡ epoch + 1 → (a : ℕ) × (byte : ℕ) × (line_number image a ≡ line) × (stored a ≡ Some byte)
  pub all : (a byte : ℕ) → stored a ≡ Some byte → slice_index s.two.last (line_number image a) ≡ epoch + 1
  pub none : (a d : ℕ) → (reads : ReadsOutside image epoch memory a) → reads.step < h.done → first_beside cores epoch ≤ d → d < epoch
      → StoresInLine image cores (line_number image a) d → ⊥

-- ---- who touched lines

abbrev pub TouchedSoFar : LoadedImage → ℕ → ℕ → List ℕ → ℕ → ℕ → Type 0
TouchedSoFar image cores epoch last line d = TouchesBefore image cores epoch line d ⊎ ((d ≡ epoch) × (slice_index last line ≡ epoch + 1))

abbrev pub StoredSoFar : LoadedImage → ℕ → ℕ → List ℕ → ℕ → ℕ → Type 0
StoredSoFar image cores epoch stored line d = StoresBefore image cores epoch line d ⊎ ((d ≡ epoch) × (slice_index stored line ≡ epoch + 1))

abbrev pub SharesSoFar : LoadedImage → ℕ → ℕ → Touched → Type 0
SharesSoFar image cores epoch t =
    AreShares (line_count image) cores image.machine.buffer_lines (epoch + 1) (TouchedSoFar image cores epoch t.two.last) (StoredSoFar image cores epoch t.stored) t

pub record InBuffers (image : LoadedImage) (cores epoch : ℕ) (memory now : List ℕ) (t : Touched) (h : HartState) : Type 0 where
  pub stored : ℕ → Option ℕ
  pub at : IsAt image epoch memory h stored
  pub is : at.after ≡ now
  pub long : AreTouches image t
  pub shares : SharesSoFar image cores epoch t
  pub touched : (line : ℕ) → slice_index t.two.last line ≡ epoch + 1 → TouchesIn image epoch memory line
  pub all_touched : (a step : ℕ) → step < h.done → LoadsAt image epoch memory step a ⊎ StoresAt image epoch memory step a → slice_index t.two.last (line_number image a) ≡ epoch + 1
  pub noted : (line : ℕ) → slice_index t.stored line ≡ epoch + 1 → (a : ℕ) × (byte : ℕ) × (line_number image a ≡ line) × (stored a ≡ Some byte)
  pub all : (a byte : ℕ) → stored a ≡ Some byte → slice_index t.stored (line_number image a) ≡ epoch + 1

-- ---- lines at hand

-- a load of the epoch in this line changes nothing: the epoch touches it, and no epoch beside it stores in it
pub record IsQuiet (watch : Watch) (line : ℕ) : Type 0 where
  pub touched : slice_index watch.touches.two.last line ≡ watch.epoch + 1
  pub alone : other_before watch.lines.two watch.epoch line ≤ first_beside watch.cores watch.epoch

-- the epoch stores in this line, and no epoch beside it does: a store of the epoch there changes nothing
pub record IsStoredIn (watch : Watch) (line : ℕ) : Type 0 where
  pub alone : other_before watch.lines.two watch.epoch line ≤ first_beside watch.cores watch.epoch
  pub last : slice_index watch.lines.two.last line ≡ watch.epoch + 1
  pub touched : slice_index watch.touches.two.last line ≡ watch.epoch + 1
  pub stored : slice_index watch.touches.stored line ≡ watch.epoch + 1

pub record AreAtHand (watch : Watch) : Type 0 where
  pub quiet : (line : ℕ) → watch.quiet ≡ line + 1 → IsQuiet watch line
  pub stored : (line : ℕ) → watch.stored ≡ line + 1 → IsStoredIn watch line

-- ---- between epochs

-- it is kept what the epochs before this one did
pub record IsWatchKept (image : LoadedImage) (cores : ℕ) (watch : Watch) (epoch : ℕ) : Type 0 where
  pub cores_are : watch.cores ≡ cores
  pub lines : AreLinesKept image cores epoch watch.lines
  pub touches : AreTouchesKept image cores epoch watch.touches

-- an epoch begins, and no line is at hand
abbrev pub begun : Watch → ℕ → Watch
begun watch epoch = record { cores = watch.cores; epoch = epoch; lines = watch.lines; touches = watch.touches; has_met = false; quiet = 0; stored = 0 }

-- the conflict of an epoch that has met a line of another; or in which a buffer was too small
abbrev pub conflict_by : Bool → Bool → ℕ → Option CacheConflict
conflict_by true full epoch = Some (Line epoch)
conflict_by false true epoch = Some (Buffer epoch)
conflict_by false false epoch = None

-- in what the epoch that has run conflicts with an earlier one
abbrev pub found_by : Watch → Option CacheConflict
found_by watch = conflict_by watch.has_met watch.touches.full watch.epoch

-- ---- at any hart

-- from the last hart on at which it was right no load or store has come
pub record IsWatchedUpTo (image : LoadedImage) (watch : Watch) (h : HartState) (memory : List ℕ) : Type 0 where
  pub from : HartState
  pub same : next_event image from ≡ next_event image h
  pub in_lines : InLines image watch.cores watch.epoch (run_memory image watch.cores watch.epoch) memory watch.lines from
  pub in_buffers : InBuffers image watch.cores watch.epoch (run_memory image watch.cores watch.epoch) memory watch.touches from

-- it is so up to a conflict
pub record IsWatched (image : LoadedImage) (watch : Watch) (h : HartState) (memory : List ℕ) : Type 0 where
  pub limits : IsImage image
  pub within : watch.epoch < image.epochs
  pub starts : IsInOrder image (first_beside watch.cores watch.epoch)
  pub met : watch.has_met ≡ true → IsFound image watch.cores (Some (Line watch.epoch))
  pub kept : watch.has_met ≡ false → IsWatchedUpTo image watch h memory
