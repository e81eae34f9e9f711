-- From a hart to its next event no more instructions are executed than the limit leaves, and one.
use Rattle.std.proofs.Common.{◌≡◌, ℕ, zero, suc, ◌+◌, ◌-◌, ◌≤◌, refl, arith}
use Rattle.rv32_image.specs.Image.{LoadedImage}
use Rattle.rv32_exec.specs.Hart.{HartState}
use Rattle.rv32_exec.specs.Execute.{Effect, Executes, Stops, hart_effect}
use Rattle.rv32_exec.specs.NextEvent.{event_within, next_event}
use Rattle.rv32_exec.proofs.Runs.{event_within_executes, event_within_stops}
use Rattle.rv32_exec.proofs.Steps.{executes_counts}

event_by : (image : LoadedImage) (n : ℕ) (h : HartState) (e : Effect) → hart_effect image h ≡ e
    → ((after : HartState) → (event_within image n after).now.done ≤ after.done + n) → (event_within image (suc n) h).now.done ≤ h.done + suc n
event_by image n h (Executes after) is later =
    let counted = executes_counts image h after is in
    rw (event_within_executes image n h after is) (omega (arith, counted, later after))
event_by image n h (Stops at) is later = rw (event_within_stops image n h at is) (omega arith)

first_event : (image : LoadedImage) (h : HartState) → (event_within image 0 h).now.done ≤ h.done + 0
unfolding event_within
first_event image h = omega arith

-- to an event within so many instructions no more are executed
pub done_within : (image : LoadedImage) (n : ℕ) (h : HartState) → (event_within image n h).now.done ≤ h.done + n
done_within image zero h = first_event image h
done_within image (suc n) h = event_by image n h (hart_effect image h) refl (λ after. done_within image n after)

pub done_at_event : (image : LoadedImage) (h : HartState) → h.done ≤ image.limit → (next_event image h).now.done ≤ image.limit + 1
unfolding next_event
done_at_event image h within = omega (arith, done_within image (image.limit - h.done + 1) h)
