-- The lines of an epoch that others touch, and what a buffer takes of these.
-- Source: this project; that a buffer lists just the lines that other caches may hold is of Steffan, Colohan, Zhai and Mowry, "A
-- Scalable Approach to Thread-Level Speculation", ISCA 2000.
use Rattle.std.specs.Prelude.{◌≡◌, ◌≢◌, ◌⊎◌, ℕ, ◌≤◌, List, length, All}
use Rattle.rv32_image.specs.Image.{LoadedImage}
use Rattle.spec_history.specs.Conflict.{line_number}
use Rattle.epoch_paths.specs.Paths.{Touches}
use Rattle.dependences.specs.Conflict.{AreBeside, AreFalling, LineConflict, StoresIn, path_memory, run_memory}

-- the epoch loads or stores in this line
pub record TouchesIn (image : LoadedImage) (epoch : ℕ) (memory : List ℕ) (line : ℕ) : Type 0 where
  pub at : ℕ
  pub in_line : line_number image at ≡ line
  pub touches : Touches image epoch memory at

-- so many cores can run both epochs at a time, whichever is the earlier one
abbrev pub RunBeside : LoadedImage → ℕ → ℕ → ℕ → Type 0
RunBeside image cores e f = AreBeside image cores e f ⊎ AreBeside image cores f e

-- another epoch, which can run beside this one, touches the line, each over its own memory
pub record IsShared (image : LoadedImage) (cores : ℕ) (memory : ℕ → List ℕ) (epoch line : ℕ) : Type 0 where
  pub other : ℕ
  pub beside : RunBeside image cores other epoch
  pub touches : TouchesIn image other (memory other) line

-- an epoch stores in a line that an earlier one touches, and in as many others as its buffer takes, which epochs beside it touch too
pub record SharedOverflowOver (image : LoadedImage) (cores : ℕ) (memory : ℕ → List ℕ) : Type 0 where
  pub earlier : ℕ
  pub later : ℕ
  pub line : ℕ
  pub others : List ℕ
  pub bound : ℕ
  pub beside : AreBeside image cores earlier later
  pub touches : TouchesIn image earlier (memory earlier) line
  pub stores : StoresIn image later (memory later) line
  pub apart : AreFalling bound others
  pub full : image.machine.buffer_lines ≤ length others
  pub each : All (λ l. (l ≢ line) × StoresIn image later (memory later) l × IsShared image cores memory later l) others

-- so on the paths of the epochs
abbrev pub SharedOverflow : LoadedImage → ℕ → Type 0
SharedOverflow image cores = SharedOverflowOver image cores (path_memory image cores)

-- and so in order, where one run shows it
abbrev pub SharedOverflowInOrder : LoadedImage → ℕ → Type 0
SharedOverflowInOrder image cores = SharedOverflowOver image cores (run_memory image cores)

-- on their paths no two epochs conflict over lines of the caches, and none stores in more shared lines than its buffer takes
pub record AreApart (image : LoadedImage) (cores : ℕ) : Type 0 where
  pub lines : LineConflict image cores → ⊥
  pub buffers : SharedOverflow image cores → ⊥
