-- Proofs of the laws.
use Rattle.std.proofs.Common.{◌≡◌, ℕ, zero, suc, ◌+◌, ◌-◌, ◌<◌, ◌≤◌, ◌==◌, nat_le, Bool, true, false, cond, List, [], refl, sym, ap, ◌∙◌, arith}
use Rattle.std.proofs.lemmas.Bool.Decides.{nat_tests}
use Rattle.rv32_exec.specs.Hart.{epoch_end}
use Rattle.rv32_exec.specs.declared.stop.Stop.{Stop}
use Rattle.rv32_exec.specs.declared.stop.Stop.TheVariants.{Load, Store, Ended, Fault}
use Rattle.rv32_image.specs.Image.{LoadedImage}
use Rattle.rv32_exec.specs.Hart.{HartState, start_of}
use Rattle.rv32_exec.specs.Execute.{Effect, Executes, Stops, hart_effect}
use Rattle.rv32_exec.specs.NextEvent.{event_within, next_event}
use Rattle.rv32_exec.specs.Sequential.{Progress, Runs, Ends, Faults, execute, after_steps, after_stop, epoch_outcome, go_on}
use Rattle.rv32_exec.specs.Laws.{HasStopped, Reaches}
use Rattle.rv32_exec.proofs.Steps.{executes_counts, executes_below}
use Rattle.rv32_exec.proofs.Runs.{event_within_executes, event_within_stops}

-- ---- runs add up

go_on_go_on : (p : Progress) (f g : HartState → List ℕ → Progress) → go_on (go_on p f) g ≡ go_on p (λ h m. go_on (f h m) g)
go_on_go_on (Runs h memory) f g = refl
go_on_go_on (Ends e memory) f g = refl
go_on_go_on (Faults cause pc memory) f g = refl

-- two continuations that agree are one
go_on_same : (p : Progress) (f g : HartState → List ℕ → Progress) → ((h : HartState) (m : List ℕ) → f h m ≡ g h m) → go_on p f ≡ go_on p g
go_on_same (Runs h memory) f g same = same h memory
go_on_same (Ends e memory) f g same = refl
go_on_same (Faults cause pc memory) f g same = refl

pub one_step : (image : LoadedImage) (n : ℕ) (h : HartState) (memory : List ℕ) → after_steps image (suc n) h memory ≡ go_on (execute image h memory) (after_steps image n)
unfolding after_steps
one_step image n h memory = refl

pub no_step : (image : LoadedImage) (h : HartState) (memory : List ℕ) → after_steps image 0 h memory ≡ Runs h memory
unfolding after_steps
no_step image h memory = refl

pub after_steps-+ : (image : LoadedImage) (m n : ℕ) (h : HartState) (memory : List ℕ)
    → after_steps image (m + n) h memory ≡ go_on (after_steps image m h memory) (after_steps image n)
after_steps-+ image zero n h memory =
    let none : 0 + n ≡ n = omega arith in
    ap (λ k. after_steps image k h memory) none ∙ sym (ap (λ p. go_on p (after_steps image n)) (no_step image h memory))
after_steps-+ image (suc m) n h memory =
    let more : suc m + n ≡ suc (m + n) = omega arith in
    ap (λ k. after_steps image k h memory) more
    ∙ (one_step image (m + n) h memory
    ∙ (go_on_same (execute image h memory) (after_steps image (m + n)) (λ h' m'. go_on (after_steps image m h' m') (after_steps image n)) (λ h' m'. after_steps-+ image m n h' m')
    ∙ (sym (go_on_go_on (execute image h memory) (after_steps image m) (after_steps image n))
    ∙ sym (ap (λ p. go_on p (after_steps image n)) (one_step image m h memory)))))

-- ---- the next event

-- which effect it is
data Seen (image : LoadedImage) (h : HartState) : Type 0 where
  saw_executes : (after : HartState) → hart_effect image h ≡ Executes after → Seen image h
  saw_stops : (at : Stop) → hart_effect image h ≡ Stops at → Seen image h

saw : (image : LoadedImage) (h : HartState) (e : Effect) → hart_effect image h ≡ e → Seen image h
saw image h (Executes after) is = saw_executes after is
saw image h (Stops at) is = saw_stops at is

pub execute-stops : (image : LoadedImage) (h : HartState) (at : Stop) (memory : List ℕ) → hart_effect image h ≡ Stops at → execute image h memory ≡ after_stop h memory at
unfolding execute
execute-stops image h at memory is = rw is refl

pub execute-executes : (image : LoadedImage) (h after : HartState) (memory : List ℕ) → hart_effect image h ≡ Executes after → execute image h memory ≡ Runs after memory
unfolding execute
execute-executes image h after memory is = rw is refl

reached_here : (image : LoadedImage) (n : ℕ) (h : HartState) (memory : List ℕ) (at : Stop) → hart_effect image h ≡ Stops at
    → Reaches image h memory (event_within image (suc n) h)
reached_here image n h memory at is = rw (event_within_stops image n h at is) (record {
  steps = 0;
  counted = omega arith;
  runs = no_step image h memory;
  does = execute-stops image h at memory is;
})

reached_later : (image : LoadedImage) (n : ℕ) (h after : HartState) (memory : List ℕ) → hart_effect image h ≡ Executes after
    → Reaches image after memory (event_within image n after) → Reaches image h memory (event_within image (suc n) h)
reached_later image n h after memory is later = rw (event_within_executes image n h after is) (record {
  steps = suc later.steps;
  counted = omega (arith, later.counted, executes_counts image h after is);
  runs = one_step image later.steps h memory ∙ (ap (λ p. go_on p (after_steps image later.steps)) (execute-executes image h after memory is) ∙ later.runs);
  does = later.does;
})

reached_by : (image : LoadedImage) (n : ℕ) (h : HartState) (memory : List ℕ) → image.limit < h.done + suc n → Seen image h
    → ((after : HartState) → 0 < n → image.limit < after.done + n → Reaches image after memory (event_within image n after))
    → Reaches image h memory (event_within image (suc n) h)
reached_by image n h memory enough (saw_stops at is) later = reached_here image n h memory at is
reached_by image n h memory enough (saw_executes after is) later =
    let counted = executes_counts image h after is in
    let room = executes_below image h after is in
    reached_later image n h after memory is (later after (omega arith) (omega arith))

reached : (image : LoadedImage) (n : ℕ) (h : HartState) (memory : List ℕ) → 0 < n → image.limit < h.done + n → Reaches image h memory (event_within image n h)
reached image zero h memory some enough = absurd (omega arith)
reached image (suc n) h memory some enough =
    reached_by image n h memory enough (saw image h (hart_effect image h) refl) (λ after some' enough'. reached image n after memory some' enough')

pub next_event_reached : (image : LoadedImage) (h : HartState) (memory : List ℕ) → Reaches image h memory (next_event image h)
unfolding next_event
next_event_reached image h memory = reached image (image.limit - h.done + 1) h memory (omega arith) (omega arith)

-- it comes no earlier than the hart
pub later_event : (image : LoadedImage) (h : HartState) → h.done ≤ (next_event image h).now.done
later_event image h = let counted = (next_event_reached image h []).counted in omega (arith, counted)

-- ---- an epoch stops

-- a load or a store
abbrev pub Accesses : Stop → Type 0
Accesses (Load address width signed rd) = Unit {0}
Accesses (Store address width value) = Unit {0}
Accesses Ended = ⊥
Accesses (Fault cause pc) = ⊥

within_limit : (limit done : ℕ) (b : Bool) (cause pc : ℕ) (e : Effect) (at : Stop) → nat_le limit done ≡ b
    → cond b (Stops (Fault cause pc)) e ≡ Stops at → Accesses at → done < limit
within_limit limit done true cause pc e at le is access = let same : at ≡ Fault cause pc = cc in absurd (rw same at access)
within_limit limit done false cause pc e at le is access = grind (arith, nat_tests)

before_end : (b : Bool) (e : Effect) (at : Stop) → cond b (Stops Ended) e ≡ Stops at → Accesses at → e ≡ Stops at
before_end true e at is access = let same : at ≡ Ended = cc in absurd (rw same at access)
before_end false e at is access = is

-- a hart that stops at an access is below the limit
pub accesses_below : (image : LoadedImage) (h : HartState) (at : Stop) → hart_effect image h ≡ Stops at → Accesses at → h.done < image.limit
unfolding hart_effect
accesses_below image h at is access =
    within_limit image.limit h.done (nat_le image.limit h.done) _ _ _ at refl (before_end (h.pc == epoch_end) _ at is access) access

-- what leads on was counted, and there was room for it
abbrev pub LeadsOn : LoadedImage → HartState → Progress → Type 0
LeadsOn image h (Runs after memory) = (after.done ≡ h.done + 1) × (h.done < image.limit)
LeadsOn image h (Ends e memory) = Unit {0}
LeadsOn image h (Faults cause pc memory) = Unit {0}

stop_leads_on : (image : LoadedImage) (h : HartState) (memory : List ℕ) (at : Stop) → hart_effect image h ≡ Stops at → LeadsOn image h (after_stop h memory at)
stop_leads_on image h memory (Load address width signed rd) is = (refl, accesses_below image h _ is tt)
stop_leads_on image h memory (Store address width value) is = (refl, accesses_below image h _ is tt)
stop_leads_on image h memory Ended is = tt
stop_leads_on image h memory (Fault cause pc) is = tt

seen_leads_on : (image : LoadedImage) (h : HartState) (memory : List ℕ) → Seen image h → LeadsOn image h (execute image h memory)
seen_leads_on image h memory (saw_stops at is) = rw (execute-stops image h at memory is) (stop_leads_on image h memory at is)
seen_leads_on image h memory (saw_executes after is) =
    rw (execute-executes image h after memory is) (executes_counts image h after is, executes_below image h after is)

pub execute_leads_on : (image : LoadedImage) (h : HartState) (memory : List ℕ) → LeadsOn image h (execute image h memory)
execute_leads_on image h memory = seen_leads_on image h memory (saw image h (hart_effect image h) refl)

stops_by : (image : LoadedImage) (n : ℕ) (h : HartState) (p : Progress) → image.limit < h.done + suc n → LeadsOn image h p
    → ((after : HartState) (memory : List ℕ) → after.done ≤ image.limit → image.limit < after.done + n → HasStopped (after_steps image n after memory))
    → HasStopped (go_on p (after_steps image n))
stops_by image n h (Runs after memory) enough on later = later after memory (omega (arith, on.0, on.1)) (omega (arith, on.0, on.1))
stops_by image n h (Ends e memory) enough on later = tt
stops_by image n h (Faults cause pc memory) enough on later = tt

stops : (image : LoadedImage) (n : ℕ) (h : HartState) (memory : List ℕ) → h.done ≤ image.limit → image.limit < h.done + n → HasStopped (after_steps image n h memory)
stops image zero h memory within enough = absurd (omega arith)
stops image (suc n) h memory within enough =
    rw (one_step image n h memory) (stops_by image n h (execute image h memory) enough (execute_leads_on image h memory) (λ after memory' within' enough'. stops image n after memory' within' enough'))

pub epoch_stops : (image : LoadedImage) (epoch : ℕ) (memory : List ℕ) → HasStopped (epoch_outcome image epoch memory)
unfolding epoch_outcome
epoch_stops image epoch memory = stops image (image.limit + 1) (start_of image epoch) memory (omega arith) (omega arith)
