-- On each machine a loop does the same in order, and a history replays to the same state: its machine has no part in that.
use Rattle.std.proofs.Common.{◌≡◌, ℕ, zero, suc, ◌+◌, ◌-◌, Bool, not, ◌==◌, ◌&&◌, nat_le, List, [], ◌∷◌, Option, Some, None, is_some, Result, Ok, Err, refl, ap, ◌∙◌, if◌then◌else◌}
use Rattle.rv32_decode.specs.declared.instr.Instr.{Instr}
use Rattle.rv32_decode.specs.declared.instr.Instr.TheVariants.{Fence}
use Rattle.rv32_decode.specs.declared.refused.Refused.{Refused}
use Rattle.rv32_decode.specs.declared.refused.Refused.TheVariants.{Illegal, System}
use Rattle.memory_bytes.specs.Maps.{over, stored}
use Rattle.rv32_image.specs.declared.machine.Machine.{Machine}
use Rattle.rv32_image.specs.Image.{LoadedImage}
use Rattle.rv32_exec.specs.declared.sequential.End.TheVariants as end
use Rattle.rv32_exec.specs.declared.stop.Stop.TheVariants as stop
use Rattle.rv32_exec.specs.Execute.{Stops, hart_effect, instruction_effect, match_effect, word_effect}
use Rattle.rv32_exec.specs.Faults.{fetch_outside_code, instruction_limit}
use Rattle.rv32_exec.specs.Arrival.{after_number}
use Rattle.rv32_exec.specs.Hart.{HartState, epoch_end, start_of, stepped}
use Rattle.rv32_exec.specs.NextEvent.{Event, event_within, next_event}
use Rattle.rv32_exec.specs.Sequential.{Progress, Runs, Ends, Faults, after_steps, after_stop, epoch_outcome, execute, first_epochs, go_on, result_of, sequential_result, then_epoch}
use Rattle.spec_history.specs.declared.entry.Entry.{Entry}
use Rattle.spec_history.specs.declared.entry.What.{What}
use Rattle.spec_history.specs.declared.entry.What.TheVariants as what
use Rattle.spec_history.specs.declared.illegal.Illegal.TheVariants.{Over, NotThere, NotNext, NotHomefree, WrongValue, HurtMissing, NotCancelled}
use Rattle.spec_history.specs.Effect.{after_load, after_store, by_core, effect, effect_idle, effect_on, with_core, with_running}
use Rattle.spec_history.specs.FlatState.{CoreState, FlatState, end_after, first_state}
use Rattle.spec_history.specs.Refusal.{changes_unseen, has, is_an_exit, is_homefree, is_next, is_that_fault, is_that_load, is_that_store, is_the_end, is_there, is_value, misses_a_cancel, misses_a_hurt, next_is, other_runs, refusal_of}
use Rattle.spec_history.specs.Replay.{replay, replay_from, where_legal}

module _ (image : LoadedImage) (machine : Machine) where
  abbrev on : LoadedImage
  on = record image { machine = machine }

  -- ---- in order

  instruction_same : (h : HartState) (x : ℕ → ℕ) (instr : Instr) → instruction_effect on h x instr ≡ instruction_effect image h x instr
  unfolding instruction_effect
  instruction_same h x Fence = refl
  instruction_same h x instr = refl

  word_same : (h : HartState) (read : Result Instr Refused) → word_effect on h read ≡ word_effect image h read
  word_same h (Ok instr) = instruction_same h _ instr
  word_same h (Err Illegal) = refl
  word_same h (Err System) = refl

  hart_same : (h : HartState) → hart_effect on h ≡ hart_effect image h
  unfolding hart_effect
  hart_same h =
      ap (λ e. if h.pc == epoch_end then Stops stop.Ended else if nat_le image.limit h.done then Stops (stop.Fault instruction_limit h.pc)
      else if nat_le image.code h.pc then Stops (stop.Fault fetch_outside_code h.pc) else e) (word_same h _)

  event_within_same : (n : ℕ) (h : HartState) → event_within on n h ≡ event_within image n h
  unfolding event_within
  event_within_same zero h = refl
  event_within_same (suc n) h = λ i. match_effect (hart_same h i) (λ after. event_within_same n after i) (λ at. record { now = h; at = at })

  event_same : (h : HartState) → next_event on h ≡ next_event image h
  unfolding next_event
  event_same h = event_within_same (image.limit - h.done + 1) h

  execute_same : (h : HartState) (memory : List ℕ) → execute on h memory ≡ execute image h memory
  unfolding execute
  execute_same h memory = λ i. match_effect (hart_same h i) (λ after. Runs after memory) (after_stop h memory)

  steps_same : (n : ℕ) (h : HartState) (memory : List ℕ) → after_steps on n h memory ≡ after_steps image n h memory
  unfolding after_steps
  steps_same zero h memory = refl
  steps_same (suc n) h memory = λ i. go_on (execute_same h memory i) (λ after bytes. steps_same n after bytes i)

  epoch_same : (epoch : ℕ) (memory : List ℕ) → epoch_outcome on epoch memory ≡ epoch_outcome image epoch memory
  unfolding epoch_outcome
  epoch_same epoch memory = steps_same (image.limit + 1) (start_of image epoch) memory

  result_same : (epoch : ℕ) (p : Progress) → result_of on epoch p ≡ result_of image epoch p
  result_same epoch (Runs h memory) = refl
  result_same epoch (Ends h memory) = refl
  result_same epoch (Faults cause pc memory) = refl

  epochs_same : (k : ℕ) → first_epochs on k ≡ first_epochs image k
  unfolding first_epochs
  epochs_same zero = refl
  epochs_same (suc k) =
      λ i. then_epoch (epochs_same k i) (epochs_same k i).end (λ memory. (result_same k (epoch_outcome on k memory) ∙ ap (result_of image k) (epoch_same k memory)) i)

  pub sequential_same : sequential_result on ≡ sequential_result image
  unfolding sequential_result
  sequential_same = epochs_same image.epochs

  -- ---- a history

  idle_same : (s : FlatState) (by : ℕ) (w : What) → effect_idle on s by w ≡ effect_idle image s by w
  idle_same s by (what.Start epoch) = refl
  idle_same s by (what.Load address width value) = refl
  idle_same s by (what.Store address width value) = refl
  idle_same s by (what.Hurt epoch) = refl
  idle_same s by (what.Cancel epoch) = refl
  idle_same s by what.Restart = refl
  idle_same s by what.Publish = refl
  idle_same s by what.Commit = refl
  idle_same s by (what.Fault cause pc) = refl

  on_same : (s : FlatState) (by : ℕ) (core : CoreState) (w : What) → effect_on on s by core w ≡ effect_on image s by core w
  on_same s by core (what.Start epoch) = refl
  on_same s by core (what.Load address width value) =
      ap (λ (event : Event). with_running s by (after_load s.committed address width (after_number event.now event.at value) core)) (event_same core.hart)
  on_same s by core (what.Store address width value) =
      ap (λ (event : Event). with_running (record s { committed = if core.straight then over (stored address width value) s.committed else s.committed }) by
      (after_store address width value (stepped event.now) core)) (event_same core.hart)
  on_same s by core (what.Hurt epoch) = refl
  on_same s by core (what.Cancel epoch) = refl
  on_same s by core what.Restart = refl
  on_same s by core what.Publish = refl
  on_same s by core what.Commit =
      ap (λ (event : Event). record s {
        committed = over core.own s.committed;
        homefree = s.homefree + 1;
        published = 0;
        end = end_after image event.now s.homefree;
        cores = with_core s.cores by None;
      }) (event_same core.hart)
  on_same s by core (what.Fault cause pc) =
      ap (λ (event : Event). record s { committed = over core.own s.committed; published = event.now.done; end = Some (end.Fault core.epoch cause pc) })
      (event_same core.hart)

  effect_same : (s : FlatState) (entry : Entry) → effect on s entry ≡ effect image s entry
  unfolding effect
  effect_same s entry =
      λ i. by_core (s.cores entry.by) (idle_same s entry.by entry.what i) (λ core. on_same s entry.by core entry.what i)

  next_same : (core : Option CoreState) (test : Event → Bool) → next_is on core test ≡ next_is image core test
  next_same core test = λ i. has core (λ c. test (event_same c.hart i))

  is_next_same : (s : FlatState) (by : ℕ) (w : What) → is_next on s by w ≡ is_next image s by w
  is_next_same s by (what.Start epoch) = refl
  is_next_same s by (what.Load address width value) = next_same (s.cores by) (λ event. is_that_load address width event.at)
  is_next_same s by (what.Store address width value) = next_same (s.cores by) (λ event. is_that_store address width value event.at)
  is_next_same s by (what.Hurt epoch) = refl
  is_next_same s by (what.Cancel epoch) = next_same (s.cores by) (is_an_exit image)
  is_next_same s by what.Restart = refl
  is_next_same s by what.Publish = refl
  is_next_same s by what.Commit = next_same (s.cores by) (λ event. is_the_end event.at)
  is_next_same s by (what.Fault cause pc) = next_same (s.cores by) (λ event. is_that_fault cause pc event.at)

  hurt_same : (count : ℕ) (s : FlatState) (entry : Entry) → misses_a_hurt on count s entry ≡ misses_a_hurt image count s entry
  hurt_same count s entry = ap (λ (t : FlatState). changes_unseen image.size count s entry.by t.committed) (effect_same s entry)

  cancel_same : (count : ℕ) (s : FlatState) (by : ℕ) (w : What) → misses_a_cancel on count s by w ≡ misses_a_cancel image count s by w
  cancel_same count s by (what.Start epoch) = refl
  cancel_same count s by (what.Load address width value) = refl
  cancel_same count s by (what.Store address width value) = refl
  cancel_same count s by (what.Hurt epoch) = refl
  cancel_same count s by (what.Cancel epoch) = refl
  cancel_same count s by what.Restart = refl
  cancel_same count s by what.Publish = refl
  cancel_same count s by what.Commit = ap (λ exits. exits && other_runs count s by) (next_same (s.cores by) (is_an_exit image))
  cancel_same count s by (what.Fault cause pc) = refl

  refusal_same : (count : ℕ) (s : FlatState) (entry : Entry) → refusal_of on count s entry ≡ refusal_of image count s entry
  unfolding refusal_of
  refusal_same count s entry = λ i.
      if is_some s.end then Some Over
      else if not (is_there count s entry.by entry.what) then Some NotThere
      else if not (is_next_same s entry.by entry.what i) then Some NotNext
      else if not (is_homefree s entry.by entry.what) then Some NotHomefree
      else if not (is_value s entry.by entry.what) then Some WrongValue
      else if hurt_same count s entry i then Some HurtMissing
      else if cancel_same count s entry.by entry.what i then Some NotCancelled
      else None

  from_same : (count : ℕ) (s : FlatState) (entries : List Entry) → replay_from on count s entries ≡ replay_from image count s entries
  unfolding replay_from
  from_same count s [] = refl
  from_same count s (entry ∷ entries) =
      let rest : replay_from on count (effect on s entry) entries ≡ replay_from image count (effect image s entry) entries =
      ap (λ t. replay_from on count t entries) (effect_same s entry) ∙ from_same count (effect image s entry) entries in
      λ i. where_legal (refusal_same count s entry i) (rest i)

  pub replay_same : (count : ℕ) (entries : List Entry) → replay on count entries ≡ replay image count entries
  unfolding replay
  replay_same count entries = from_same count (first_state image) entries
