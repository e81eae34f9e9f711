-- The path of an epoch, which is its run alone over a memory: the bytes that it stores, and those that it reads from outside.
-- Source: a read that no earlier write of the same iteration covers is exposed: Rauchwerger and Padua, "The LRPD Test: Speculative
-- Run-Time Parallelization of Loops with Privatization and Reduction Parallelization", PLDI 1995.
use Rattle.std.specs.Prelude.{◌≡◌, ◌⊎◌, ℕ, ◌+◌, ◌<◌, ◌≤◌, Bool, List}
use Rattle.rv32_exec.specs.declared.stop.Stop.TheVariants.{Load, Store}
use Rattle.rv32_image.specs.Image.{LoadedImage}
use Rattle.rv32_exec.specs.Hart.{HartState, start_of}
use Rattle.rv32_exec.specs.Execute.{Stops, hart_effect}
use Rattle.rv32_exec.specs.Sequential.{Runs, after_steps}

-- after so many instructions, the path over this memory is at a load of this byte
pub record LoadsAt (image : LoadedImage) (epoch : ℕ) (memory : List ℕ) (step a : ℕ) : Type 0 where
  pub hart : HartState
  pub after : List ℕ
  pub address : ℕ
  pub width : ℕ
  pub signed : Bool
  pub rd : ℕ
  pub runs : after_steps image step (start_of image epoch) memory ≡ Runs hart after
  pub stops : hart_effect image hart ≡ Stops (Load address width signed rd)
  pub from : address ≤ a
  pub below : a < address + width

-- it is at a store of this byte
pub record StoresAt (image : LoadedImage) (epoch : ℕ) (memory : List ℕ) (step a : ℕ) : Type 0 where
  pub hart : HartState
  pub after : List ℕ
  pub address : ℕ
  pub width : ℕ
  pub value : ℕ
  pub runs : after_steps image step (start_of image epoch) memory ≡ Runs hart after
  pub stops : hart_effect image hart ≡ Stops (Store address width value)
  pub from : address ≤ a
  pub below : a < address + width

-- the path stores the byte
pub record Stores (image : LoadedImage) (epoch : ℕ) (memory : List ℕ) (a : ℕ) : Type 0 where
  pub step : ℕ
  pub there : StoresAt image epoch memory step a

-- it reads the byte from outside: it loads it, and has not stored it before
pub record ReadsOutside (image : LoadedImage) (epoch : ℕ) (memory : List ℕ) (a : ℕ) : Type 0 where
  pub step : ℕ
  pub there : LoadsAt image epoch memory step a
  pub exposed : (before : ℕ) → before < step → StoresAt image epoch memory before a → ⊥

-- it loads or stores the byte
pub record Touches (image : LoadedImage) (epoch : ℕ) (memory : List ℕ) (a : ℕ) : Type 0 where
  pub step : ℕ
  pub there : LoadsAt image epoch memory step a ⊎ StoresAt image epoch memory step a
