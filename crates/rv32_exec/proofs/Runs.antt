-- How the next event and an epoch's outcome go on over one step.
use Rattle.std.proofs.Common.{◌≡◌, ℕ, suc, ◌+◌, ◌-◌, ◌≤◌, List, refl, sym, ap, ◌∙◌, arith}
use Rattle.rv32_exec.specs.declared.stop.Stop.{Stop}
use Rattle.rv32_image.specs.Image.{LoadedImage}
use Rattle.rv32_exec.specs.Hart.{HartState, start_of}
use Rattle.rv32_exec.specs.Execute.{Executes, Stops, hart_effect}
use Rattle.rv32_exec.specs.NextEvent.{event_within, next_event}
use Rattle.rv32_exec.specs.Sequential.{Progress, execute, after_steps, after_stop, epoch_outcome, go_on}
use Rattle.rv32_exec.proofs.Steps.{executes_counts, executes_below}

pub event_within_executes : (image : LoadedImage) (n : ℕ) (h after : HartState) → hart_effect image h ≡ Executes after
    → event_within image (suc n) h ≡ event_within image n after
unfolding event_within
event_within_executes image n h after is = rw is refl

-- an instruction that is executed leads to the same event
pub next_event-executes : (image : LoadedImage) (h after : HartState) → hart_effect image h ≡ Executes after
    → next_event image h ≡ next_event image after
unfolding next_event
next_event-executes image h after is =
    let counted = executes_counts image h after is in
    let room = executes_below image h after is in
    let left : image.limit - h.done + 1 ≡ suc (image.limit - after.done + 1) = omega arith in
    ap (λ n. event_within image n h) left ∙ event_within_executes image (image.limit - after.done + 1) h after is

pub event_within_stops : (image : LoadedImage) (n : ℕ) (h : HartState) (at : Stop) → hart_effect image h ≡ Stops at
    → event_within image (suc n) h ≡ record { now = h; at = at }
unfolding event_within
event_within_stops image n h at is = rw is refl

-- at a stop the event is there
pub next_event-stops : (image : LoadedImage) (h : HartState) (at : Stop) → hart_effect image h ≡ Stops at
    → next_event image h ≡ record { now = h; at = at }
unfolding next_event
next_event-stops image h at is =
    let left : image.limit - h.done + 1 ≡ suc (image.limit - h.done) = omega arith in
    ap (λ n. event_within image n h) left ∙ event_within_stops image (image.limit - h.done) h at is

-- a run where it stops
pub after_steps-stops : (image : LoadedImage) (n : ℕ) (h : HartState) (at : Stop) (memory : List ℕ) → hart_effect image h ≡ Stops at
    → after_steps image (suc n) h memory ≡ go_on (after_stop h memory at) (after_steps image n)
unfolding after_steps execute
after_steps-stops image n h at memory is = rw is refl

-- from a hart within the limit, `left` instructions are left of the epoch and one more turn, in which it stops
abbrev pub left : LoadedImage → HartState → ℕ
left image h = image.limit + 1 - h.done

-- at the end or a fault the outcome is there
pub outcome-stops : (image : LoadedImage) (h : HartState) (at : Stop) (memory : List ℕ) (outcome stopped : Progress)
    → hart_effect image h ≡ Stops at → h.done ≤ image.limit → go_on (after_stop h memory at) (after_steps image (image.limit - h.done)) ≡ stopped
    → after_steps image (left image h) h memory ≡ outcome → stopped ≡ outcome
outcome-stops image h at memory outcome stopped is within stop before =
    let one : left image h ≡ suc (image.limit - h.done) = omega arith in
    let step = ap (λ n. after_steps image n h memory) one ∙ after_steps-stops image (image.limit - h.done) h at memory is in
    sym (step ∙ stop) ∙ before

-- at its start the whole epoch is left
pub outcome-start : (image : LoadedImage) (epoch : ℕ) (memory : List ℕ)
    → after_steps image (left image (start_of image epoch)) (start_of image epoch) memory ≡ epoch_outcome image epoch memory
unfolding epoch_outcome
outcome-start image epoch memory =
    let all : image.limit + 1 - 0 ≡ image.limit + 1 = omega arith in ap (λ n. after_steps image n (start_of image epoch) memory) all
