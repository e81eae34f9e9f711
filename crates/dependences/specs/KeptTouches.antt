-- What the code keeps of the lines that epochs touch, and how many of those that each stores in are shared; and what is found over
-- caches.
use Rattle.std.specs.Prelude.{◌≡◌, ◌⊎◌, ℕ, ◌+◌, ◌-◌, ◌^◌, ◌==◌, ◌<◌, ◌≤◌, Bool, true, false, not, List, length, set, Option, Some, None, nat_lt, ◌&&◌, ◌||◌, slice_index, if◌then◌else◌}
use Rattle.rv32_image.specs.Image.{LoadedImage}
use Rattle.spec_history.specs.Conflict.{line_count}
use Rattle.spec_history.specs.Searches.{count_below}
use Rattle.dependences.specs.declared.caches.CacheConflict.{CacheConflict}
use Rattle.dependences.specs.declared.caches.CacheConflict.TheVariants as found
use Rattle.dependences.specs.Conflict.{LineConflictInOrder, first_beside, run_memory}
use Rattle.dependences.specs.Shared.{SharedOverflowInOrder, TouchesIn}
use Rattle.dependences.specs.KeptLines.{AreLines, IsLastOf, LastTwo, StoresInLine, followed}

-- one run shows that the epoch touches this line
abbrev pub TouchesInLine : LoadedImage → ℕ → ℕ → ℕ → Type 0
TouchesInLine image cores line epoch = TouchesIn image epoch (run_memory image cores epoch) line

-- who touched each line last; of each line the last epoch that stored in it, and 1; of each epoch how many shared lines it stores
-- in, 0 where no earlier epoch touches one; and whether one of these counts is above what a buffer takes
pub record Touched : Type 0 where
  pub two : LastTwo
  pub stored : List ℕ
  pub counts : List ℕ
  pub full : Bool

-- ---- what is shared

-- of two epochs, so many cores can run the first while the second is the last
abbrev pub IsNear : ℕ → ℕ → ℕ → Type 0
IsNear cores earlier later = (first_beside cores later ≤ earlier) × (earlier < later)

-- an earlier epoch touches a line that this one stores in
pub record IsEarly (cores : ℕ) (touches stores : ℕ → ℕ → Type 0) (epoch : ℕ) : Type 0 where
  pub line : ℕ
  pub earlier : ℕ
  pub near : IsNear cores earlier epoch
  pub stored : stores line epoch
  pub touched : touches line earlier

-- the epoch stores in this line, which one beside it touches
pub record IsSharedLine (cores : ℕ) (touches stores : ℕ → ℕ → Type 0) (epoch line : ℕ) : Type 0 where
  pub other : ℕ
  pub near : IsNear cores other epoch ⊎ IsNear cores epoch other
  pub stored : stores line epoch
  pub touched : touches line other

-- so many of the lines below this one are so
pub record AreSoMany (lines : ℕ) (P : ℕ → Type 0) (n : ℕ) : Type 0 where
  pub which : ℕ → Bool
  pub some : (line : ℕ) → which line ≡ true → P line
  pub all : (line : ℕ) → P line → (line < lines) × (which line ≡ true)
  pub count : n ≡ count_below lines which

-- the epoch stores in so many shared lines, one of which an earlier epoch touches; or in none that an earlier one touches
abbrev pub IsCount : ℕ → ℕ → (ℕ → ℕ → Type 0) → (ℕ → ℕ → Type 0) → ℕ → ℕ → Type 0
IsCount lines cores touches stores epoch count =
    (IsEarly cores touches stores epoch × AreSoMany lines (IsSharedLine cores touches stores epoch) count)
    ⊎ ((IsEarly cores touches stores epoch → ⊥) × (count ≡ 0))

-- what is kept is what epochs below this bound touch, and store in
pub record AreShares (lines cores limit bound : ℕ) (touches stores : ℕ → ℕ → Type 0) (t : Touched) : Type 0 where
  pub last : (line : ℕ) → IsLastOf (touches line) bound (slice_index t.two.last line)
  pub before : (line epoch : ℕ) → slice_index t.two.last line ≡ epoch + 1 → IsLastOf (touches line) epoch (slice_index t.two.before line)
  pub stored : (line epoch : ℕ) → slice_index t.two.last line ≡ epoch + 1 → stores line epoch → slice_index t.stored line ≡ epoch + 1
  pub stores_so : (line epoch : ℕ) → slice_index t.stored line ≡ epoch + 1 → stores line epoch
  pub low : (line epoch : ℕ) → touches line epoch → epoch < bound
  pub touched : (line epoch : ℕ) → stores line epoch → touches line epoch
  pub within : (line epoch : ℕ) → stores line epoch → line < lines
  pub counts : (epoch : ℕ) → IsCount lines cores touches stores epoch (slice_index t.counts epoch)
  pub above : t.full ≡ true → (epoch : ℕ) × (limit < slice_index t.counts epoch)
  pub most : t.full ≡ false → (epoch : ℕ) → slice_index t.counts epoch ≤ limit

-- ---- what a touch and a store change

-- the last epoch that touched the line stores in it and is near, none before it was, and so it is shared from now on
abbrev pub is_shared_now : Touched → ℕ → ℕ → ℕ → Bool
is_shared_now t cores epoch line =
    nat_lt (first_beside cores epoch) (slice_index t.two.last line)
    && ((slice_index t.stored line == slice_index t.two.last line)
    && (not (nat_lt (first_beside cores (slice_index t.two.last line - 1)) (slice_index t.two.before line))
    && nat_lt 0 (slice_index t.counts (slice_index t.two.last line - 1))))

-- a shared line more is counted for an epoch
abbrev pub counted : Touched → ℕ → ℕ → Touched
counted t limit epoch = record {
  two = t.two;
  stored = t.stored;
  counts = set t.counts epoch (slice_index t.counts epoch + 1);
  full = t.full || nat_lt limit (slice_index t.counts epoch + 1);
}

-- the epoch touches the line
abbrev pub with_toucher : Touched → ℕ → ℕ → Touched
with_toucher t epoch line = record { two = followed t.two epoch line; stored = t.stored; counts = t.counts; full = t.full }

abbrev pub after_touch : Touched → ℕ → ℕ → ℕ → ℕ → Touched
after_touch t limit cores epoch line =
    if slice_index t.two.last line == epoch + 1 then t
    else with_toucher (if is_shared_now t cores epoch line then counted t limit (slice_index t.two.last line - 1) else t) epoch line

-- it stores in it
abbrev pub with_store : Touched → ℕ → ℕ → Touched
with_store t epoch line = record { two = t.two; stored = set t.stored line (epoch + 1); counts = t.counts; full = t.full }

abbrev pub after_store : Touched → ℕ → ℕ → ℕ → ℕ → Touched
after_store t limit cores epoch line =
    if slice_index t.stored line == epoch + 1 then t
    else (if nat_lt (first_beside cores epoch) (slice_index t.two.before line) then counted (with_store t epoch line) limit epoch else with_store t epoch line)

-- the line and the epoch are among those that are kept, and a count has room for one more
pub record IsInside (t : Touched) (epoch line : ℕ) : Type 0 where
  pub last : line < length t.two.last
  pub before : line < length t.two.before
  pub stored : line < length t.stored
  pub counts : epoch < length t.counts
  pub short : epoch < 2 ^ 16
  pub few : (e : ℕ) → slice_index t.counts e < 2 ^ 32 - 1

-- ---- what is kept

-- the lists are as long as there are lines and epochs
pub record AreTouches (image : LoadedImage) (t : Touched) : Type 0 where
  pub lines : AreLines image t.two
  pub stored : length t.stored ≡ line_count image
  pub counts : length t.counts ≡ image.epochs
  pub few : (epoch : ℕ) → slice_index t.counts epoch ≤ line_count image

-- one run shows that an epoch below this one touches the line, or stores in it
abbrev pub TouchesBefore : LoadedImage → ℕ → ℕ → ℕ → ℕ → Type 0
TouchesBefore image cores bound line epoch = (epoch < bound) × TouchesInLine image cores line epoch

abbrev pub StoresBefore : LoadedImage → ℕ → ℕ → ℕ → ℕ → Type 0
StoresBefore image cores bound line epoch = (epoch < bound) × StoresInLine image cores line epoch

-- it is kept what the epochs before this one touched, and none has stored in more shared lines than its buffer takes
pub record AreTouchesKept (image : LoadedImage) (cores epoch : ℕ) (t : Touched) : Type 0 where
  pub long : AreTouches image t
  pub shares : AreShares (line_count image) cores image.machine.buffer_lines epoch (TouchesBefore image cores epoch) (StoresBefore image cores epoch) t
  pub clear : t.full ≡ false

-- ---- what is found over caches

abbrev pub IsFound : LoadedImage → ℕ → Option CacheConflict → Type 0
IsFound image cores (Some (found.Line later)) = (conflict : LineConflictInOrder image cores) × (conflict.later ≡ later)
IsFound image cores (Some (found.Buffer later)) = (overflow : SharedOverflowInOrder image cores) × (overflow.later ≤ later)
IsFound image cores None = Unit {0}

-- no conflict over lines where the later one is before this one
abbrev pub AreClear : LoadedImage → ℕ → ℕ → Type 0
AreClear image cores epoch = (conflict : LineConflictInOrder image cores) → conflict.later < epoch → ⊥

-- nothing at all
pub record IsNever (image : LoadedImage) (cores : ℕ) : Type 0 where
  pub lines : LineConflictInOrder image cores → ⊥
  pub buffers : SharedOverflowInOrder image cores → ⊥
