-- What the laws say.
use Rattle.std.specs.Prelude.{◌≡◌, ℕ, ◌+◌, List}
use Rattle.rv32_image.specs.Image.{LoadedImage}
use Rattle.rv32_exec.specs.Hart.{HartState}
use Rattle.rv32_exec.specs.NextEvent.{Event}
use Rattle.rv32_exec.specs.Sequential.{Progress, Runs, Ends, Faults, execute, after_steps, after_stop}

-- the run has come to its end or to a fault
abbrev pub HasStopped : Progress → Type 0
HasStopped (Runs h memory) = ⊥
HasStopped (Ends h memory) = Unit {0}
HasStopped (Faults cause pc memory) = Unit {0}

-- from this hart, whole instructions lead to the event
pub record Reaches (image : LoadedImage) (h : HartState) (memory : List ℕ) (event : Event) : Type 0 where
  -- this many are executed on the way
  pub steps : ℕ
  pub counted : event.now.done ≡ h.done + steps
  -- none of them changes memory
  pub runs : after_steps image steps h memory ≡ Runs event.now memory
  -- the next one does what the event says
  pub does : execute image event.now memory ≡ after_stop event.now memory event.at
