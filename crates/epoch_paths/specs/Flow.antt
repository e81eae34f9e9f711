-- The loads that read from outside what an earlier epoch stores, in order, and the last store of it.
-- Source: the last write before a read is the source of a value in Feautrier, "Dataflow Analysis of Array and Scalar References",
-- International Journal of Parallel Programming, 1991.
use Rattle.std.specs.Prelude.{◌≡◌, ◌⊎◌, ℕ, ◌<◌, ◌≤◌}
use Rattle.rv32_image.specs.Image.{LoadedImage}
use Rattle.epoch_paths.specs.Paths.{LoadsAt, StoresAt}
use Rattle.epoch_paths.specs.InOrder.{IsInOrder, memory_before}

-- of the stores of this byte by epochs before this one, that at this step of an earlier epoch is the last
pub record LastStore (image : LoadedImage) (epoch a earlier stored : ℕ) : Type 0 where
  pub before : earlier < epoch
  pub there : StoresAt image earlier (memory_before image earlier) stored a
  pub last : (d step : ℕ) → d < epoch → StoresAt image d (memory_before image d) step a → (d < earlier) ⊎ ((d ≡ earlier) × (step ≤ stored))

-- an epoch that runs in order reads this byte from outside by its load at this step, and this is the last store of it
pub record DependsAt (image : LoadedImage) (later loaded byte earlier stored : ℕ) : Type 0 where
  pub within : later < image.epochs
  pub in_order : IsInOrder image later
  pub there : LoadsAt image later (memory_before image later) loaded byte
  pub exposed : (step : ℕ) → step < loaded → StoresAt image later (memory_before image later) step byte → ⊥
  pub store : LastStore image later byte earlier stored
