-- What can roll back at all on so many cores: epochs that run beside each other, and bytes or lines that they share.
-- Source: a flow dependence from an iteration to a later one, and its distance, are those of Allen and Kennedy, "Optimizing
-- Compilers for Modern Architectures", 2001; false sharing is that of Torrellas, Lam and Hennessy, "False Sharing and Spatial
-- Locality in Multiprocessor Caches", IEEE Transactions on Computers, 1994.
use Rattle.std.specs.Prelude.{◌≡◌, ◌≢◌, ℕ, ◌-◌, ◌<◌, ◌≤◌, List, [], ◌∷◌, length, All}
use Rattle.rv32_exec.specs.declared.sequential.End.{End}
use Rattle.rv32_exec.specs.declared.sequential.End.TheVariants.{Done, Exit, Fault}
use Rattle.rv32_image.specs.Image.{LoadedImage}
use Rattle.rv32_exec.specs.Sequential.{first_epochs}
use Rattle.spec_history.specs.Conflict.{line_number}
use Rattle.epoch_paths.specs.Paths.{ReadsOutside, Stores, Touches}
use Rattle.epoch_paths.specs.InOrder.{memory_before, IsInOrder}

-- the first of the epochs that so many cores can run beside this one
abbrev pub first_beside : ℕ → ℕ → ℕ
first_beside cores epoch = epoch - (cores - 1)

-- the memory of an epoch's path: nothing is there yet of the epochs that can run beside it
abbrev pub path_memory : LoadedImage → ℕ → ℕ → List ℕ
path_memory image cores epoch = memory_before image (first_beside cores epoch)

-- what an epoch does on its path
abbrev pub PathStores : LoadedImage → ℕ → ℕ → ℕ → Type 0
PathStores image cores epoch a = Stores image epoch (path_memory image cores epoch) a

abbrev pub PathReads : LoadedImage → ℕ → ℕ → ℕ → Type 0
PathReads image cores epoch a = ReadsOutside image epoch (path_memory image cores epoch) a

abbrev pub PathTouches : LoadedImage → ℕ → ℕ → ℕ → Type 0
PathTouches image cores epoch a = Touches image epoch (path_memory image cores epoch) a

abbrev pub memory_by : LoadedImage → ℕ → ℕ → End → List ℕ
memory_by image cores epoch (Done n) = memory_before image epoch
memory_by image cores epoch (Exit last) = path_memory image cores epoch
memory_by image cores epoch (Fault last cause pc) = path_memory image cores epoch

-- the memory over which one run in order shows what an epoch does: it has the epoch itself, or the epoch is past its end
abbrev pub run_memory : LoadedImage → ℕ → ℕ → List ℕ
run_memory image cores epoch = memory_by image cores epoch (first_epochs image epoch).end

-- so many cores can run both epochs at a time: they are that near, and the first of those between is reached in order. So the
-- later one is less than `cores` past the last epoch that runs in order
pub record AreBeside (image : LoadedImage) (cores earlier later : ℕ) : Type 0 where
  pub from : first_beside cores later ≤ earlier
  pub before : earlier < later
  pub within : later < image.epochs
  pub starts : IsInOrder image (first_beside cores later)

-- an epoch that runs in order stores a byte that a later one reads from outside, each over its own memory
pub record ConflictOver (image : LoadedImage) (cores : ℕ) (memory : ℕ → List ℕ) : Type 0 where
  pub earlier : ℕ
  pub later : ℕ
  pub byte : ℕ
  pub beside : AreBeside image cores earlier later
  pub in_order : IsInOrder image earlier
  pub stores : Stores image earlier (memory earlier) byte
  pub reads : ReadsOutside image later (memory later) byte

-- an epoch, also one past the loop's exit, stores in a line of the caches in which a later one reads a byte from outside
pub record LineConflictOver (image : LoadedImage) (cores : ℕ) (memory : ℕ → List ℕ) : Type 0 where
  pub earlier : ℕ
  pub later : ℕ
  pub written : ℕ
  pub read : ℕ
  pub beside : AreBeside image cores earlier later
  pub same : line_number image written ≡ line_number image read
  pub stores : Stores image earlier (memory earlier) written
  pub reads : ReadsOutside image later (memory later) read

-- the epoch stores in this line
pub record StoresIn (image : LoadedImage) (epoch : ℕ) (memory : List ℕ) (line : ℕ) : Type 0 where
  pub at : ℕ
  pub in_line : line_number image at ≡ line
  pub stores : Stores image epoch memory at

-- the numbers fall, and begin below this one
abbrev pub AreFalling : ℕ → List ℕ → Type 0
AreFalling bound [] = Unit {0}
AreFalling bound (n ∷ rest) = (n < bound) × AreFalling n rest

-- an epoch stores in a line, and in as many others as its buffer takes; and an earlier one touches that line
pub record OverflowOver (image : LoadedImage) (cores : ℕ) (memory : ℕ → List ℕ) : Type 0 where
  pub earlier : ℕ
  pub later : ℕ
  pub touched : ℕ
  pub others : List ℕ
  pub lines : ℕ
  pub beside : AreBeside image cores earlier later
  pub touches : Touches image earlier (memory earlier) touched
  pub stores : StoresIn image later (memory later) (line_number image touched)
  pub apart : AreFalling lines others
  pub full : image.machine.buffer_lines ≤ length others
  pub each : All (λ line. (line ≢ line_number image touched) × StoresIn image later (memory later) line) others

-- so on the paths of the epochs
abbrev pub Conflict : LoadedImage → ℕ → Type 0
Conflict image cores = ConflictOver image cores (path_memory image cores)

abbrev pub LineConflict : LoadedImage → ℕ → Type 0
LineConflict image cores = LineConflictOver image cores (path_memory image cores)

abbrev pub Overflow : LoadedImage → ℕ → Type 0
Overflow image cores = OverflowOver image cores (path_memory image cores)

-- and so in order, where one run shows it
abbrev pub ConflictInOrder : LoadedImage → ℕ → Type 0
ConflictInOrder image cores = ConflictOver image cores (run_memory image cores)

abbrev pub LineConflictInOrder : LoadedImage → ℕ → Type 0
LineConflictInOrder image cores = LineConflictOver image cores (run_memory image cores)

abbrev pub OverflowInOrder : LoadedImage → ℕ → Type 0
OverflowInOrder image cores = OverflowOver image cores (run_memory image cores)
