-- How near epochs depend on each other in order.
-- Source: the distance of a flow dependence is that of Allen and Kennedy, "Optimizing Compilers for Modern Architectures", 2001.
use Rattle.std.specs.Prelude.{◌≡◌, ℕ, ◌+◌, ◌-◌, ◌<◌, ◌≤◌, List, Option, Some, None, slice_get}
use Rattle.rv32_image.specs.Image.{LoadedImage}
use Rattle.dependences.specs.declared.flow.Dependence.{Dependence}
use Rattle.epoch_paths.specs.Paths.{ReadsOutside, Stores}
use Rattle.epoch_paths.specs.InOrder.{IsInOrder, memory_before}

-- both run in order, and there the later epoch reads from outside a byte that the earlier one stores
pub record Depends (image : LoadedImage) (earlier later : ℕ) : Type 0 where
  pub byte : ℕ
  pub before : earlier < later
  pub within : later < image.epochs
  pub in_order : IsInOrder image later
  pub stores : Stores image earlier (memory_before image earlier) byte
  pub reads : ReadsOutside image later (memory_before image later) byte

-- an epoch depends on one this far before it, and none on a nearer one; or none does at all
abbrev pub IsNearest : LoadedImage → Option ℕ → Type 0
IsNearest image (Some distance) =
    ((earlier : ℕ) × Depends image earlier (earlier + distance)) × ((earlier later : ℕ) → Depends image earlier later → earlier + distance ≤ later)
IsNearest image None = (earlier later : ℕ) → Depends image earlier later → ⊥

-- this epoch depends on one that is so far before it
abbrev pub IsLaterAt : LoadedImage → Option ℕ → ℕ → Type 0
IsLaterAt image (Some distance) later = (earlier : ℕ) × Depends image earlier later × (later ≡ earlier + distance)
IsLaterAt image None later = Unit {0}

-- of these dependences this is the later epoch of one that is as near as that
abbrev pub IsNearestLater : List Dependence → Option ℕ → ℕ → Type 0
IsNearestLater found (Some distance) later =
    (place : ℕ) × (one : Dependence) × (slice_get found place ≡ Some one) × (one.later - one.earlier ≡ distance) × (one.later ≡ later)
IsNearestLater found None later = Unit {0}

-- so many cores can't run both of two epochs that depend on each other
abbrev pub IsFar : ℕ → Option ℕ → Type 0
IsFar cores (Some distance) = cores ≤ distance
IsFar cores None = Unit {0}
