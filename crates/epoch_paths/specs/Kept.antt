-- What the code keeps of an epoch while it runs alone over a memory.
use Rattle.std.specs.Prelude.{◌≡◌, ℕ, ◌+◌, ◌<◌, ◌≤◌, Bool, true, false, List, length, Option, Some, None, slice_index, not}
use Rattle.memory_bytes.specs.Maps.{over}
use Rattle.rv32_image.specs.Image.{LoadedImage, IsImage}
use Rattle.rv32_exec.specs.Hart.{HartState, start_of}
use Rattle.rv32_exec.specs.declared.sequential.End.TheVariants.{Done}
use Rattle.rv32_exec.specs.Sequential.{Runs, after_steps, first_epochs, exits}
use Rattle.spec_history.specs.Laws.{Holds}
use Rattle.epoch_paths.specs.Paths.{StoresAt}
use Rattle.epoch_paths.specs.InOrder.{IsInOrder}
use Rattle.rv32_exec.specs.declared.stop.Stop.{Stop}
use Rattle.rv32_exec.specs.declared.stop.Stop.TheVariants.{Load, Store, Ended, Fault}

-- the epoch is on its path over this memory: it has come to this hart, and these are the bytes that it has stored
pub record IsAt (image : LoadedImage) (epoch : ℕ) (memory : List ℕ) (h : HartState) (own : ℕ → Option ℕ) : Type 0 where
  pub after : List ℕ
  pub runs : after_steps image h.done (start_of image epoch) memory ≡ Runs h after
  pub holds : Holds image (over own (λ a. slice_index memory a)) after
  pub early : (a byte : ℕ) → own a ≡ Some byte → (step : ℕ) × (step < h.done) × StoresAt image epoch memory step a
  pub no_others : (a step : ℕ) → own a ≡ None → step < h.done → StoresAt image epoch memory step a → ⊥

-- the bytes of an access have this writer now, and the others theirs
pub record IsMarked (old new : List ℕ) (address width writer : ℕ) : Type 0 where
  pub here : (a : ℕ) → address ≤ a → a < address + width → slice_index new a ≡ writer
  pub below : (a : ℕ) → a < address → slice_index new a ≡ slice_index old a
  pub past : (a : ℕ) → address + width ≤ a → slice_index new a ≡ slice_index old a

-- the epoch is one of the image's, and the memory is as long as the image's
pub record CanRun (image : LoadedImage) (epoch : ℕ) (memory : List ℕ) : Type 0 where
  pub limits : IsImage image
  pub within : epoch < image.epochs
  pub size : length memory ≡ image.size

-- the next epoch runs where one stops so: it ends, and doesn't exit the loop
abbrev pub next_runs : LoadedImage → HartState → Stop → Bool
next_runs image h Ended = not (exits image h)
next_runs image h (Load address width signed rd) = false
next_runs image h (Store address width value) = false
next_runs image h (Fault cause pc) = false

-- where this epoch runs, it starts over this memory
abbrev pub IsNext : LoadedImage → ℕ → List ℕ → Bool → Type 0
IsNext image epoch memory true = first_epochs image epoch ≡ record { end = Done epoch; bytes = memory }
IsNext image epoch memory false = IsInOrder image epoch → ⊥
