-- What notes on the loads and stores of a run are told.
use Rattle.std.specs.Prelude.{◌≡◌, ℕ, Bool}
use Rattle.rv32_exec.specs.declared.stop.Stop.TheVariants.{Load, Store}
use Rattle.rv32_image.specs.Image.{LoadedImage}
use Rattle.rv32_exec.specs.Hart.{HartState}
use Rattle.rv32_exec.specs.Execute.{Stops, hart_effect}

-- the hart is at a load: its pc, how many instructions it has executed, and what it loads
pub record LoadsNext (image : LoadedImage) (h : HartState) (pc done address width : ℕ) (signed : Bool) (rd : ℕ) : Type 0 where
  pub stops : hart_effect image h ≡ Stops (Load address width signed rd)
  pub pc_is : h.pc ≡ pc
  pub done_is : h.done ≡ done

-- it is at a store
pub record StoresNext (image : LoadedImage) (h : HartState) (pc done address width value : ℕ) : Type 0 where
  pub stops : hart_effect image h ≡ Stops (Store address width value)
  pub pc_is : h.pc ≡ pc
  pub done_is : h.done ≡ done
