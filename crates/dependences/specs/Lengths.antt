-- How many instructions the epochs execute that run in order.
use Rattle.std.specs.Prelude.{ℕ, ◌<◌, List, length, slice_index}
use Rattle.rv32_image.specs.Image.{LoadedImage}
use Rattle.epoch_paths.specs.InOrder.{AreAll}
use Rattle.epoch_paths.specs.Lengths.{Lasts}

-- so of each epoch that runs in order
pub record AreLengths (image : LoadedImage) (lengths : List ℕ) : Type 0 where
  pub all : AreAll image (length lengths)
  pub each : (epoch : ℕ) → epoch < length lengths → Lasts image epoch (slice_index lengths epoch)
