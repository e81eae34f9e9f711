-- Whether schedules of so many cores can violate an epoch.
-- Source: the laws of `dependences` and `never_or_shown`.
use Rattle.std.specs.Prelude.{◌≡◌, ◌⊎◌, ℕ, ◌<◌, ◌≤◌, Option, Some, None}
use Rattle.rv32_image.specs.Image.{LoadedImage}
use Rattle.dependences.specs.Conflict.{ConflictInOrder, LineConflictInOrder, Overflow}
use Rattle.dependences.specs.Shared.{SharedOverflowInOrder}
use Rattle.dependences.specs.Laws.{NeverOverBytes, NeverOverLines}
use Rattle.never_or_shown.specs.NeverOverBus.{NeverOverBus}
use Rattle.depends.specs.declared.least.Found.{Found}
use Rattle.depends.specs.declared.least.Grain.{Grain}
use Rattle.depends.specs.declared.least.Grain.TheVariants.{Lines, Bytes}

-- no book over the caches has a violation, whatever turns led to it, on so many cores; nor has a legal history, where none would overflow
-- if buffers took all lines that are stored in
pub record NeverOverCaches (image : LoadedImage) (cores : ℕ) : Type 0 where
  pub books : NeverOverBus image cores
  pub histories : (Overflow image cores → ⊥) → NeverOverLines image cores

-- so over caches; and over a store that watches bytes no legal history of so many cores has a violation
abbrev pub NeverOn : LoadedImage → Grain → ℕ → Type 0
NeverOn image Lines cores = NeverOverCaches image cores
NeverOn image Bytes cores = NeverOverBytes image cores

-- nor has one of fewer cores
abbrev pub NeverRollsBack : LoadedImage → Grain → ℕ → Type 0
NeverRollsBack image grain most = (cores : ℕ) → cores ≤ most → NeverOn image grain cores

-- two epochs that so many cores can run beside each other conflict
abbrev pub Conflicts : LoadedImage → Grain → ℕ → Type 0
Conflicts image Lines cores = LineConflictInOrder image cores ⊎ SharedOverflowInOrder image cores
Conflicts image Bytes cores = ConflictInOrder image cores

-- epochs conflict on so many cores; or no history of these or fewer has a violation
abbrev pub IsFound : LoadedImage → Grain → ℕ → Option Found → Type 0
IsFound image grain cores (Some found) = (found.cores ≡ cores) × Conflicts image grain cores
IsFound image grain cores None = NeverRollsBack image grain cores

-- epochs conflict on cores up to these, and on none below this number
pub record IsBetween (image : LoadedImage) (grain : Grain) (most : ℕ) (found : Found) (least : ℕ) : Type 0 where
  pub few : found.cores ≤ most
  pub low : least ≤ found.cores
  pub conflicts : Conflicts image grain found.cores
  pub below : (cores : ℕ) → cores < least → NeverOn image grain cores

-- these cores are the fewest on which epochs conflict; or none do
abbrev pub IsLeast : LoadedImage → Grain → ℕ → Option Found → Type 0
IsLeast image grain most (Some found) = (2 ≤ found.cores) × (found.cores ≤ most) × Conflicts image grain found.cores
    × ((fewer : ℕ) → fewer < found.cores → NeverOn image grain fewer)
IsLeast image grain most None = NeverRollsBack image grain most
