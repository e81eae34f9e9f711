-- The run in order: memory before each epoch, and which epochs run.
use Rattle.std.specs.Prelude.{◌≡◌, ℕ, ◌<◌, ◌≤◌, List}
use Rattle.rv32_exec.specs.declared.sequential.End.TheVariants.{Done}
use Rattle.rv32_image.specs.Image.{LoadedImage}
use Rattle.rv32_exec.specs.Sequential.{first_epochs}

-- memory as the epochs before this one leave it in order
abbrev pub memory_before : LoadedImage → ℕ → List ℕ
memory_before image epoch = (first_epochs image epoch).bytes

-- none of the epochs before this one faults or exits
abbrev pub IsInOrder : LoadedImage → ℕ → Type 0
IsInOrder image epoch = (first_epochs image epoch).end ≡ Done epoch

-- so many epochs run in order, and no other does
pub record AreAll (image : LoadedImage) (ran : ℕ) : Type 0 where
  pub most : ran ≤ image.epochs
  pub each : (epoch : ℕ) → epoch < ran → IsInOrder image epoch
  pub no_more : (epoch : ℕ) → epoch < image.epochs → IsInOrder image epoch → epoch < ran
