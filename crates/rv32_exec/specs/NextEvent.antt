-- The next event of a hart: the access to data, the end or the fault that it reaches without an access before it.
use Rattle.std.specs.Prelude.{ℕ, zero, suc, ◌-◌, ◌+◌}
use Rattle.rv32_exec.specs.Faults.{instruction_limit}
use Rattle.rv32_exec.specs.declared.stop.Stop.{Stop}
use Rattle.rv32_exec.specs.declared.stop.Stop.TheVariants.{Fault}
use Rattle.rv32_image.specs.Image.{LoadedImage}
use Rattle.rv32_exec.specs.Hart.{HartState}
use Rattle.rv32_exec.specs.Execute.{hart_effect, match_effect}

-- a stop, and the hart before the instruction at which it is
pub record Event : Type 0 where
  pub now : HartState
  pub at : Stop

-- the event that is reached within so many instructions
unfoldable pub event_within : LoadedImage → ℕ → HartState → Event
event_within image zero h = record { now = h; at = Fault instruction_limit h.pc }
event_within image (suc n) h =
    match_effect (hart_effect image h) (event_within image n) (λ at. record { now = h; at = at })

-- an epoch executes no more instructions than its limit
unfoldable pub next_event : LoadedImage → HartState → Event
next_event image h = event_within image (image.limit - h.done + 1) h
