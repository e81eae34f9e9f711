-- An epoch on its path: its next access, and that none comes after its end.
use Rattle.std.proofs.Common.{◌≡◌, ◌⊎◌, ℕ, zero, suc, ◌+◌, ◌-◌, ◌<◌, ◌≤◌, Bool, List, slice_index, Option, None, sym, ap, ◌∙◌, inl, inr, arith}
use Rattle.std.proofs.lemmas.Bool.{cases_lt}
use Rattle.rv32_image.specs.Image.{LoadedImage}
use Rattle.memory_bytes.specs.Maps.{stored}
use Rattle.memory_bytes.proofs.Bytes.{stored_within}
use Rattle.rv32_exec.specs.declared.stop.Stop.{Stop}
use Rattle.rv32_exec.specs.declared.stop.Stop.TheVariants as stop
use Rattle.rv32_exec.specs.Hart.{HartState, start_of}
use Rattle.rv32_exec.specs.Execute.{Effect, Stops, hart_effect}
use Rattle.rv32_exec.specs.NextEvent.{next_event}
use Rattle.rv32_exec.specs.Sequential.{Progress, Runs, Ends, Faults, after_steps, after_stop, execute, go_on}
use Rattle.rv32_exec.specs.Laws.{HasStopped}
use Rattle.rv32_exec.proofs.LawsOfRuns.{Accesses, after_steps-+, execute-stops, one_step}
use Rattle.spec_history.proofs.OneEntry.Progress.{event_does, no_steps}
use Rattle.epoch_paths.specs.Paths.{LoadsAt, Stores, StoresAt}
use Rattle.epoch_paths.specs.Kept.{IsMarked, IsAt}
use Rattle.epoch_paths.proofs.Paths.{quiet, to_event}

-- from a hart on, the next access of its path is its next event
module _ (image : LoadedImage) (epoch : ℕ) (memory : List ℕ) (h : HartState) (own : ℕ → Option ℕ) (at : IsAt image epoch memory h own) where
  quiet_from : (step : ℕ) (g : HartState) (after : List ℕ) (s : Stop) → h.done ≤ step → step < (next_event image h).now.done
      → after_steps image step (start_of image epoch) memory ≡ Runs g after → hart_effect image g ≡ Stops s → ⊥
  quiet_from step g after s from before runs stops =
      let sum : step ≡ h.done + (step - h.done) = omega (arith, from) in
      let there : after_steps image (step - h.done) h at.after ≡ Runs g after =
      sym (after_steps-+ image h.done (step - h.done) (start_of image epoch) memory ∙ ap (λ p. go_on p (after_steps image (step - h.done))) at.runs)
      ∙ (sym (ap (λ n. after_steps image n (start_of image epoch) memory) sum) ∙ runs) in
      quiet image (step - h.done) h g at.after after s (omega (arith, from, before)) there stops

  pub hart_there : (step : ℕ) (g : HartState) (after : List ℕ) → step ≡ (next_event image h).now.done
      → after_steps image step (start_of image epoch) memory ≡ Runs g after → (next_event image h).now ≡ g
  hart_there step g after is runs =
      let same : Runs (next_event image h).now at.after ≡ Runs g after = sym (to_event image epoch memory h own at) ∙ (sym (ap (λ n. after_steps image n (start_of image epoch) memory) is) ∙ runs) in cc

  -- a load from the hart on is not before the next event
  pub load_late : (a step : ℕ) → LoadsAt image epoch memory step a → h.done ≤ step → (next_event image h).now.done ≤ step
  load_late a step there from = elim (cases_lt step (next_event image h).now.done) [
    | inl before ↦ absurd (quiet_from step there.hart there.after (stop.Load there.address there.width there.signed there.rd) from before there.runs there.stops)
    | inr past ↦ past
  ]

  -- nor a store
  pub store_late : (a step : ℕ) → StoresAt image epoch memory step a → h.done ≤ step → (next_event image h).now.done ≤ step
  store_late a step there from = elim (cases_lt step (next_event image h).now.done) [
    | inl before ↦ absurd (quiet_from step there.hart there.after (stop.Store there.address there.width there.value) from before there.runs there.stops)
    | inr past ↦ past
  ]

-- what has stopped does not run on
pub stays : (image : LoadedImage) (n : ℕ) (p : Progress) (g : HartState) (memory : List ℕ) → HasStopped p → go_on p (after_steps image n) ≡ Runs g memory → ⊥
stays image n (Runs h m) g memory stopped is = stopped
stays image n (Ends h m) g memory stopped is = cc
stays image n (Faults cause pc m) g memory stopped is = cc

accesses_run : (h : HartState) (memory : List ℕ) (s : Stop) → Accesses s → HasStopped (after_stop h memory s) → ⊥
accesses_run h memory (stop.Load address width signed rd) access stopped = stopped
accesses_run h memory (stop.Store address width value) access stopped = stopped
accesses_run h memory stop.Ended access stopped = access
accesses_run h memory (stop.Fault cause pc) access stopped = access

-- where the next event is no access, none comes
stopped_by : (image : LoadedImage) (h g : HartState) (memory after : List ℕ) (p : Progress) (s : Stop) → execute image h memory ≡ p → HasStopped p → Accesses s
    → (j : ℕ) → after_steps image j h memory ≡ Runs g after → hart_effect image g ≡ Stops s → ⊥
stopped_by image h g memory after p s does stopped access zero runs stops =
    let same = no_steps image h g memory after runs in
    let here : hart_effect image h ≡ Stops s = ap (hart_effect image) same ∙ stops in
    accesses_run h memory s access (rw (sym does ∙ execute-stops image h s memory here) at stopped)
stopped_by image h g memory after p s does stopped access (suc j) runs stops =
    stays image j p g after stopped (sym (one_step image j h memory ∙ ap (λ q. go_on q (after_steps image j)) does) ∙ runs)

-- no access from the hart on, where it ends or faults next
module _ (image : LoadedImage) (epoch : ℕ) (memory : List ℕ) (h : HartState) (own : ℕ → Option ℕ) (at : IsAt image epoch memory h own)
    (stopped : HasStopped (after_stop (next_event image h).now at.after (next_event image h).at)) where
  none_from : (step : ℕ) (g : HartState) (after : List ℕ) (s : Stop) → Accesses s → h.done ≤ step → after_steps image step (start_of image epoch) memory ≡ Runs g after
      → hart_effect image g ≡ Stops s → ⊥
  none_from step g after s access from runs stops = elim (cases_lt step (next_event image h).now.done) [
    | inl before ↦ quiet_from image epoch memory h own at step g after s from before runs stops
    | inr past ↦
        (let sum : step ≡ (next_event image h).now.done + (step - (next_event image h).now.done) = omega (arith, past) in
        let j = after_steps-+ image (next_event image h).now.done (step - (next_event image h).now.done) (start_of image epoch) memory
        ∙ ap (λ p. go_on p (after_steps image (step - (next_event image h).now.done))) (to_event image epoch memory h own at) in
        stopped_by image (next_event image h).now g at.after after _ s (event_does image h at.after) stopped access (step - (next_event image h).now.done)
        (sym j ∙ (sym (ap (λ n. after_steps image n (start_of image epoch) memory) sum) ∙ runs)) stops)
  ]

  pub all_loaded : (a step : ℕ) → LoadsAt image epoch memory step a → step < h.done
  all_loaded a step there = elim (cases_lt step h.done) [
    | inl before ↦ before
    | inr from ↦ absurd (none_from step there.hart there.after (stop.Load there.address there.width there.signed there.rd) tt from there.runs there.stops)
  ]

  pub all_stored_early : (a step : ℕ) → StoresAt image epoch memory step a → step < h.done
  all_stored_early a step there = elim (cases_lt step h.done) [
    | inl before ↦ before
    | inr from ↦ absurd (none_from step there.hart there.after (stop.Store there.address there.width there.value) tt from there.runs there.stops)
  ]

  pub all_stored : (a : ℕ) → own a ≡ None → Stores image epoch memory a → ⊥
  all_stored a none stores = at.no_others a stores.step none (all_stored_early a stores.step stores.there) stores.there

-- ---- accesses of one hart

pub same_load : (e : Effect) (address width : ℕ) (signed : Bool) (rd address' width' : ℕ) (signed' : Bool) (rd' a : ℕ) → e ≡ Stops (stop.Load address width signed rd)
    → e ≡ Stops (stop.Load address' width' signed' rd') → address' ≤ a → a < address' + width' → (address ≤ a) × (a < address + width)
same_load e address width signed rd address' width' signed' rd' a is is' from below =
    let same_address : address' ≡ address = cc in
    let same_width : width' ≡ width = cc in (omega (arith, from, same_address), omega (arith, below, same_address, same_width))

-- a byte that a store leaves as it was lies before or past those of the store
pub outside : (address width value a : ℕ) → stored address width value a ≡ None → (a < address) ⊎ (address + width ≤ a)
outside address width value a none = elim (cases_lt a address) [
  | inl below ↦ inl below
  | inr from ↦ elim (cases_lt a (address + width)) [
    | inl below ↦ (let some = stored_within address width value a from below in absurd cc)
    | inr past ↦ inr past
  ]
]

pub unmarked : (writers writers' : List ℕ) (address width writer value a : ℕ) → IsMarked writers writers' address width writer → stored address width value a ≡ None
    → slice_index writers' a ≡ slice_index writers a
unmarked writers writers' address width writer value a marked none = elim (outside address width value a none) [
  | inl below ↦ marked.below a below
  | inr past ↦ marked.past a past
]

pub no_both : (e : Effect) (address width value address' width' : ℕ) (signed : Bool) (rd : ℕ) → e ≡ Stops (stop.Store address width value)
    → e ≡ Stops (stop.Load address' width' signed rd) → ⊥
no_both e address width value address' width' signed rd is is' = cc
