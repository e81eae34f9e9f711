-- How far an epoch has come, and what comes of its next event.
use Rattle.std.proofs.Common.{◌≡◌, ℕ, zero, suc, ◌+◌, ◌-◌, ◌≤◌, List, Some, refl, sym, ap, ◌∙◌, arith, eq-eqb}
use Rattle.rv32_exec.specs.declared.sequential.End.TheVariants.{Done, Exit}
use Rattle.rv32_image.specs.Image.{LoadedImage}
use Rattle.rv32_exec.specs.Hart.{HartState, start_of}
use Rattle.rv32_exec.specs.NextEvent.{next_event}
use Rattle.rv32_exec.specs.Sequential.{Progress, Runs, Ends, Faults, execute, after_steps, after_stop, epoch_outcome, go_on, first_epochs, sequential_memory, published_memory}
use Rattle.rv32_exec.specs.Laws.{HasStopped}
use Rattle.rv32_exec.proofs.LawsOfRuns.{after_steps-+, next_event_reached, execute_leads_on, LeadsOn, one_step}

pub record Counted (image : LoadedImage) (h : HartState) (n : ℕ) (g : HartState) : Type 0 where
  pub count : g.done ≡ h.done + n
  pub most : h.done ≤ image.limit → g.done ≤ image.limit

-- a run of no steps is at the hart that it was at
pub no_steps : (image : LoadedImage) (h g : HartState) (memory memory' : List ℕ) → after_steps image 0 h memory ≡ Runs g memory' → h ≡ g
unfolding after_steps
no_steps image h g memory memory' runs = cc

-- and it goes on to nothing
pub none_left : (image : LoadedImage) (p : Progress) → go_on p (after_steps image 0) ≡ p
unfolding after_steps
none_left image (Runs h memory) = refl
none_left image (Ends e memory) = refl
none_left image (Faults cause pc memory) = refl

last_step : (image : LoadedImage) (h : HartState) (memory : List ℕ) (p : Progress) → execute image h memory ≡ p → after_steps image 1 h memory ≡ p
last_step image h memory p is = one_step image 0 h memory ∙ (ap (λ q. go_on q (after_steps image 0)) is ∙ none_left image p)

counted_by : (image : LoadedImage) (n : ℕ) (h g : HartState) (memory' : List ℕ) (p : Progress) → LeadsOn image h p
    → go_on p (after_steps image n) ≡ Runs g memory'
    → ((after : HartState) (memory : List ℕ) → after_steps image n after memory ≡ Runs g memory' → Counted image after n g)
    → Counted image h (suc n) g
counted_by image n h g memory' (Runs after memory) on runs later =
    let rest = later after memory runs in
    record { count = omega (arith, on.0, rest.count); most = λ within. rest.most (omega (arith, on.0, on.1)) }
counted_by image n h g memory' (Ends e memory) on runs later = absurd cc
counted_by image n h g memory' (Faults cause pc memory) on runs later = absurd cc

pub counted : (image : LoadedImage) (n : ℕ) (h g : HartState) (memory memory' : List ℕ) → after_steps image n h memory ≡ Runs g memory' → Counted image h n g
counted image zero h g memory memory' runs =
    let same = no_steps image h g memory memory' runs in
    rw (← same) (record { count = omega arith; most = λ within. within })
counted image (suc n) h g memory memory' runs =
    counted_by image n h g memory' (execute image h memory) (execute_leads_on image h memory) (sym (one_step image n h memory) ∙ runs)
    (λ after m is. counted image n after g m memory' is)

-- a run that has come to a hart comes to its next event, with the same memory
pub comes_to_event : (image : LoadedImage) (from h : HartState) (memory memory' : List ℕ) → from.done ≡ 0
    → after_steps image h.done from memory ≡ Runs h memory'
    → after_steps image (next_event image h).now.done from memory ≡ Runs (next_event image h).now memory'
comes_to_event image from h memory memory' none runs =
    let there = next_event_reached image h memory' in
    ap (λ n. after_steps image n from memory) there.counted
    ∙ (after_steps-+ image h.done there.steps from memory ∙ (ap (λ p. go_on p (after_steps image there.steps)) runs ∙ there.runs))

pub event_does : (image : LoadedImage) (h : HartState) (memory : List ℕ)
    → execute image (next_event image h).now memory ≡ after_stop (next_event image h).now memory (next_event image h).at
event_does image h memory = (next_event_reached image h memory).does

-- and, by the access that is its next event, to the hart after it
pub comes_past_access : (image : LoadedImage) (from h after : HartState) (memory memory' memory'' : List ℕ) → from.done ≡ 0
    → after_steps image h.done from memory ≡ Runs h memory'
    → after_stop (next_event image h).now memory' (next_event image h).at ≡ Runs after memory''
    → after.done ≡ (next_event image h).now.done + 1
    → after_steps image after.done from memory ≡ Runs after memory''
comes_past_access image from h after memory memory' memory'' none runs access count =
    let at_event = comes_to_event image from h memory memory' none runs in
    let does = event_does image h memory' ∙ access in
    ap (λ n. after_steps image n from memory) count
    ∙ (after_steps-+ image (next_event image h).now.done 1 from memory
    ∙ (ap (λ p. go_on p (after_steps image 1)) at_event ∙ last_step image (next_event image h).now memory' (Runs after memory'') does))

stays : (image : LoadedImage) (n : ℕ) (p : Progress) → HasStopped p → go_on p (after_steps image n) ≡ p
stays image n (Runs h memory) stop = absurd stop
stays image n (Ends e memory) stop = refl
stays image n (Faults cause pc memory) stop = refl

-- an epoch that has come to a hart whose next event stops it has that outcome
pub outcome_there : (image : LoadedImage) (epoch : ℕ) (h : HartState) (memory memory' : List ℕ) (p : Progress)
    → after_steps image h.done (start_of image epoch) memory ≡ Runs h memory'
    → after_stop (next_event image h).now memory' (next_event image h).at ≡ p → HasStopped p
    → epoch_outcome image epoch memory ≡ p
unfolding epoch_outcome
outcome_there image epoch h memory memory' p runs is stop =
    let event = next_event image h in
    let from = start_of image epoch in
    let at_event = comes_to_event image from h memory memory' refl runs in
    let most : event.now.done ≤ image.limit = (counted image event.now.done from event.now memory memory' at_event).most (omega arith) in
    let all : image.limit + 1 ≡ event.now.done + (1 + (image.limit - event.now.done)) = omega arith in
    let does = event_does image h memory' ∙ is in
    ap (λ n. after_steps image n from memory) all
    ∙ (after_steps-+ image event.now.done (1 + (image.limit - event.now.done)) from memory
    ∙ (ap (λ q. go_on q (after_steps image (1 + (image.limit - event.now.done)))) at_event
    ∙ (after_steps-+ image 1 (image.limit - event.now.done) event.now memory'
    ∙ (ap (λ q. go_on q (after_steps image (image.limit - event.now.done))) (last_step image event.now memory' p does) ∙ stays image _ p stop))))

-- published memory, where the epochs before are done
pub published_memory-is : (image : LoadedImage) (homefree k : ℕ) (before memory : List ℕ) (h : HartState)
    → first_epochs image homefree ≡ record { end = Done homefree; bytes = before }
    → after_steps image k (start_of image homefree) before ≡ Runs h memory
    → published_memory image homefree k ≡ Some memory
unfolding published_memory sequential_memory
published_memory-is image homefree k before memory h done runs = rw done (rw runs refl)

-- published memory, where the epoch before exited
pub published_memory-exit : (image : LoadedImage) (epoch : ℕ) (memory : List ℕ) → first_epochs image (epoch + 1) ≡ record { end = Exit epoch; bytes = memory }
    → published_memory image (epoch + 1) 0 ≡ Some memory
unfolding published_memory sequential_memory after_steps
published_memory-exit image epoch memory is = rw (is, eq-eqb (epoch + 1) (epoch + 1) refl) refl
