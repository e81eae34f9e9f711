-- What the code keeps of the lines of the caches: who did something in each last, and who stored in each.
use Rattle.std.specs.Prelude.{◌≡◌, ◌≢◌, ◌⊎◌, ℕ, zero, suc, ◌+◌, ◌%◌, ◌==◌, ◌<◌, ◌≤◌, List, length, set, slice_index, if◌then◌else◌}
use Rattle.memory_bytes.specs.Bytes.{IsWidth}
use Rattle.rv32_image.specs.Image.{LoadedImage}
use Rattle.spec_history.specs.Conflict.{line_number, line_count}
use Rattle.epoch_paths.specs.Paths.{ReadsOutside}
use Rattle.dependences.specs.Conflict.{StoresIn, first_beside, run_memory}
use Rattle.dependences.specs.KeptOwn.{AreLong, AreOwned, HasStored, OwnBytes}

-- of the epochs before this one, the last of this kind, and 1; 0 where there is none
abbrev pub IsLastOf : (ℕ → Type 0) → ℕ → ℕ → Type 0
IsLastOf P epoch zero = (d : ℕ) → d < epoch → P d → ⊥
IsLastOf P epoch (suc last) = (last < epoch) × P last × ((d : ℕ) → d < epoch → P d → d ≤ last)

-- one run shows that the epoch stores in this line
abbrev pub StoresInLine : LoadedImage → ℕ → ℕ → ℕ → Type 0
StoresInLine image cores line epoch = StoresIn image epoch (run_memory image cores epoch) line

-- of each line the last epoch that did something in it, and 1, and the last before that one
pub record LastTwo : Type 0 where
  pub last : List ℕ
  pub before : List ℕ

-- which bytes the epoch that runs has stored; and the last that stored in each line
pub record Lines : Type 0 where
  pub own : OwnBytes
  pub two : LastTwo

-- the last epoch that did so in the line, and 1, this one aside
abbrev pub other_before : LastTwo → ℕ → ℕ → ℕ
other_before s epoch line = if slice_index s.last line == epoch + 1 then slice_index s.before line else slice_index s.last line

-- another epoch than the last one has done so in this line now
abbrev pub followed : LastTwo → ℕ → ℕ → LastTwo
followed s epoch line = record { last = set s.last line (epoch + 1); before = set s.before line (slice_index s.last line) }

pub record AreLines (image : LoadedImage) (s : LastTwo) : Type 0 where
  pub last : length s.last ≡ line_count image
  pub before : length s.before ≡ line_count image

-- it is kept what the epochs before this one stored
pub record AreLinesKept (image : LoadedImage) (cores epoch : ℕ) (s : Lines) : Type 0 where
  pub own : AreLong s.own image.size
  pub lines : AreLines image s.two
  pub owner : (block : ℕ) → slice_index s.own.by block ≤ epoch
  pub writer : (line : ℕ) → IsLastOf (StoresInLine image cores line) epoch (slice_index s.two.last line)

-- this epoch has done so in this line now
pub record IsLineNoted (old new : LastTwo) (epoch line : ℕ) : Type 0 where
  pub last_long : length new.last ≡ length old.last
  pub before_long : length new.before ≡ length old.before
  pub here : slice_index new.last line ≡ epoch + 1
  pub others : (l : ℕ) → l ≢ line → slice_index new.last l ≡ slice_index old.last l
  pub other : (l : ℕ) → other_before new epoch l ≡ other_before old epoch l

-- and in the lines of these bytes
pub record AreLinesNoted (image : LoadedImage) (old new : LastTwo) (epoch address width : ℕ) : Type 0 where
  pub last_long : length new.last ≡ length old.last
  pub before_long : length new.before ≡ length old.before
  pub here : (i : ℕ) → i < width → slice_index new.last (line_number image (address + i)) ≡ epoch + 1
  pub others : (l : ℕ) → ((i : ℕ) → i < width → l ≢ line_number image (address + i)) → slice_index new.last l ≡ slice_index old.last l
  pub other : (l : ℕ) → other_before new epoch l ≡ other_before old epoch l

-- an access of so many bytes at this address is aligned, and within memory
pub record IsAllowed (image : LoadedImage) (address width : ℕ) : Type 0 where
  pub wide : IsWidth width
  pub aligned : address % width ≡ 0
  pub within : address + width ≤ image.size

-- of a list by lines: those of these bytes have this epoch's number and 1, and the others what they had
pub record AreLinesMarked (image : LoadedImage) (old new : List ℕ) (epoch address width : ℕ) : Type 0 where
  pub here : (i : ℕ) → i < width → slice_index new (line_number image (address + i)) ≡ epoch + 1
  pub others : (l : ℕ) → ((i : ℕ) → i < width → l ≢ line_number image (address + i)) → slice_index new l ≡ slice_index old l

-- an epoch stores these bytes: it is kept of which bytes where an epoch beside it, this one or a later one, has stored in their line
pub record AreStored (image : LoadedImage) (old new : Lines) (epoch first address width : ℕ) : Type 0 where
  pub own : (new.own ≡ old.own) ⊎ AreOwned old.own new.own epoch address width
  pub kept : (i : ℕ) → i < width → first < other_before old.two epoch (line_number image (address + i)) → AreOwned old.own new.own epoch address width
  pub lines : AreLinesNoted image old.two new.two epoch address width

-- a byte of these, which the epoch has not stored, lies in a line in which this epoch or a later one has
pub record MeetsLine (image : LoadedImage) (s : Lines) (epoch first address width : ℕ) : Type 0 where
  pub i : ℕ
  pub within : i < width
  pub foreign : HasStored s.own epoch (address + i) → ⊥
  pub written : first < other_before s.two epoch (line_number image (address + i))

-- the epoch reads no byte from outside in a line in which an epoch beside it stores
abbrev pub MeetsNone : LoadedImage → ℕ → ℕ → Type 0
MeetsNone image cores epoch = (a d : ℕ) → ReadsOutside image epoch (run_memory image cores epoch) a → first_beside cores epoch ≤ d → d < epoch
    → StoresInLine image cores (line_number image a) d → ⊥
