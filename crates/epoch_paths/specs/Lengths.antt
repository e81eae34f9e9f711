-- How many instructions an epoch executes in order.
use Rattle.std.specs.Prelude.{◌≡◌, ℕ, List}
use Rattle.rv32_image.specs.Image.{LoadedImage}
use Rattle.rv32_exec.specs.Hart.{HartState, start_of}
use Rattle.rv32_exec.specs.Sequential.{Runs, after_steps, execute}
use Rattle.rv32_exec.specs.Laws.{HasStopped}
use Rattle.epoch_paths.specs.InOrder.{memory_before}

-- after so many instructions, in order, the epoch ends or faults
pub record Lasts (image : LoadedImage) (epoch count : ℕ) : Type 0 where
  pub hart : HartState
  pub after : List ℕ
  pub runs : after_steps image count (start_of image epoch) (memory_before image epoch) ≡ Runs hart after
  pub stops : HasStopped (execute image hart after)
