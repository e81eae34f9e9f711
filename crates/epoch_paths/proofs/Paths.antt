-- Where an epoch is on its path, and how its next event takes it on.
use Rattle.std.proofs.Common.{◌≡◌, ◌⊎◌, ℕ, zero, suc, ◌+◌, ◌-◌, ◌<◌, ◌≤◌, Bool, List, length, slice_index, Option, Some, None, refl, sym, ap, ◌∙◌, inl, inr, arith}
use Rattle.std.proofs.lemmas.Bool.{cases_lt}
use Rattle.rv32_exec.specs.declared.stop.Stop.{Stop}
use Rattle.rv32_exec.specs.declared.stop.Stop.TheVariants as stop
use Rattle.memory_bytes.specs.Bytes.{number_at, with_number}
use Rattle.memory_bytes.specs.Maps.{first_of, joined, nothing, over, stored}
use Rattle.memory_bytes.proofs.Bytes.{number_at_same, over-joined, stored_below, stored_past, stored_within}
use Rattle.rv32_image.specs.Image.{LoadedImage}
use Rattle.rv32_exec.specs.Hart.{HartState, start_of, stepped}
use Rattle.rv32_exec.specs.Execute.{Effect, Executes, Stops, hart_effect}
use Rattle.rv32_exec.specs.NextEvent.{Event, event_within, next_event}
use Rattle.rv32_exec.specs.Arrival.{after_number}
use Rattle.rv32_exec.specs.Sequential.{Runs, after_steps, execute, go_on}
use Rattle.rv32_exec.proofs.Steps.{executes_counts}
use Rattle.rv32_exec.proofs.Runs.{event_within_executes, event_within_stops, next_event-executes, next_event-stops}
use Rattle.rv32_exec.proofs.LawsOfRuns.{Accesses, after_steps-+, next_event_reached, one_step}
use Rattle.spec_history.proofs.OneEntry.Progress.{comes_to_event, comes_past_access, no_steps}
use Rattle.spec_history.proofs.OneEntry.Keeping.{start_runs}
use Rattle.spec_history.proofs.OneEntry.Accesses.{load_goes_on, load_counts, store_goes_on, store_within, holds_stored}
use Rattle.epoch_paths.specs.Kept.{IsAt}
use Rattle.epoch_paths.specs.Paths.{LoadsAt, ReadsOutside, Stores, StoresAt}
use Rattle.epoch_paths.proofs.SmallFacts.{no_store_at_load}

-- ---- the next event

no_event : (image : LoadedImage) (h : HartState) → Accesses (event_within image 0 h).at → ⊥
unfolding event_within
no_event image h access = access

stops_by : (image : LoadedImage) (n : ℕ) (h : HartState) (e : Effect) → hart_effect image h ≡ e → Accesses (event_within image (suc n) h).at
    → ((after : HartState) → Accesses (event_within image n after).at → hart_effect image (event_within image n after).now ≡ Stops (event_within image n after).at)
    → hart_effect image (event_within image (suc n) h).now ≡ Stops (event_within image (suc n) h).at
stops_by image n h (Executes after) is access later =
    let same = event_within_executes image n h after is in rw same (later after (rw same at access))
stops_by image n h (Stops at) is access later = rw (event_within_stops image n h at is) is

event_stops : (image : LoadedImage) (n : ℕ) (h : HartState) → Accesses (event_within image n h).at
    → hart_effect image (event_within image n h).now ≡ Stops (event_within image n h).at
event_stops image zero h access = absurd (no_event image h access)
event_stops image (suc n) h access = stops_by image n h (hart_effect image h) refl access (λ after a. event_stops image n after a)

-- an access that is the next event is what the instruction there does
pub access_stops : (image : LoadedImage) (h : HartState) → Accesses (next_event image h).at → hart_effect image (next_event image h).now ≡ Stops (next_event image h).at
unfolding next_event
access_stops image h access = event_stops image (image.limit - h.done + 1) h access

executed : (image : LoadedImage) (h after : HartState) (memory : List ℕ) → hart_effect image h ≡ Executes after → execute image h memory ≡ Runs after memory
unfolding execute
executed image h after memory is = rw is refl

here_done : (image : LoadedImage) (h : HartState) (at : Stop) → hart_effect image h ≡ Stops at → (next_event image h).now.done ≡ h.done
here_done image h at is = ap (λ (e : Event). e.now.done) (next_event-stops image h at is)

quiet_by : (image : LoadedImage) (j : ℕ) (h g : HartState) (memory memory' : List ℕ) (e : Effect) → hart_effect image h ≡ e
    → h.done + suc j < (next_event image h).now.done → after_steps image (suc j) h memory ≡ Runs g memory'
    → ((x : HartState) → x.done + j < (next_event image x).now.done → after_steps image j x memory ≡ Runs g memory' → ⊥) → ⊥
quiet_by image j h g memory memory' (Stops at) is before runs later = let there = here_done image h at is in omega (arith, before, there)
quiet_by image j h g memory memory' (Executes x) is before runs later =
    let counted = executes_counts image h x is in
    let event : (next_event image h).now.done ≡ (next_event image x).now.done = ap (λ (e : Event). e.now.done) (next_event-executes image h x is) in
    let step : after_steps image (suc j) h memory ≡ after_steps image j x memory =
    one_step image j h memory ∙ ap (λ p. go_on p (after_steps image j)) (executed image h x memory is) in
    later x (omega (arith, before, counted, event)) (sym step ∙ runs)

-- between a hart and its next event it stops nowhere
pub quiet : (image : LoadedImage) (j : ℕ) (h g : HartState) (memory memory' : List ℕ) (at : Stop) → h.done + j < (next_event image h).now.done
    → after_steps image j h memory ≡ Runs g memory' → hart_effect image g ≡ Stops at → ⊥
quiet image zero h g memory memory' at before runs stops =
    let there = here_done image h at (ap (hart_effect image) (no_steps image h g memory memory' runs) ∙ stops) in omega (arith, before, there)
quiet image (suc j) h g memory memory' at before runs stops =
    quiet_by image j h g memory memory' (hart_effect image h) refl before runs (λ x b r. quiet image j x g memory memory' at b r stops)

-- ---- on the path

-- so the path stores these bytes
pub path_stores : {image : LoadedImage} {epoch : ℕ} {memory : List ℕ} {h : HartState} {own : ℕ → Option ℕ} → IsAt image epoch memory h own
    → (a byte : ℕ) → own a ≡ Some byte → Stores image epoch memory a
path_stores at a byte is = let there = at.early a byte is in record { step = there.0; there = there.2 }

pub at_start : (image : LoadedImage) (epoch : ℕ) (memory : List ℕ) → length memory ≡ image.size → IsAt image epoch memory (start_of image epoch) nothing
at_start image epoch memory long = record {
  after = memory;
  runs = start_runs image epoch memory;
  holds = record { long = long; bytes = λ a. refl };
  early = λ a byte is. absurd cc;
  no_others = λ a step none before there. absurd (omega (arith, before));
}

pub start_after : (image : LoadedImage) (epoch : ℕ) (memory : List ℕ) (long : length memory ≡ image.size) → (at_start image epoch memory long).after ≡ memory
unfolding at_start
start_after image epoch memory long = refl

module _ (image : LoadedImage) (epoch : ℕ) (memory : List ℕ) (h : HartState) (own : ℕ → Option ℕ) (at : IsAt image epoch memory h own) where
  pub to_event : after_steps image (next_event image h).now.done (start_of image epoch) memory ≡ Runs (next_event image h).now at.after
  to_event = comes_to_event image (start_of image epoch) h memory at.after refl at.runs

  run_from : (j : ℕ) → after_steps image (h.done + j) (start_of image epoch) memory ≡ after_steps image j h at.after
  run_from j = after_steps-+ image h.done j (start_of image epoch) memory ∙ ap (λ p. go_on p (after_steps image j)) at.runs

  -- up to the next event nothing more is stored
  pub before_event : (a step : ℕ) → own a ≡ None → step < (next_event image h).now.done → StoresAt image epoch memory step a → ⊥
  before_event a step none before there = elim (cases_lt step h.done) [
    | inl low ↦ at.no_others a step none low there
    | inr high ↦
        (let sum : step ≡ h.done + (step - h.done) = omega (arith, high) in
        let runs = sym (run_from (step - h.done)) ∙ (sym (ap (λ n. after_steps image n (start_of image epoch) memory) sum) ∙ there.runs) in
        quiet image (step - h.done) h there.hart at.after there.after (stop.Store there.address there.width there.value) (omega (arith, high, before)) runs there.stops)
  ]

  -- a store where the next event is, is that event
  event_is : (a step : ℕ) → step ≡ (next_event image h).now.done → (there : StoresAt image epoch memory step a)
      → hart_effect image (next_event image h).now ≡ Stops (stop.Store there.address there.width there.value)
  event_is a step is there =
      let same : Runs (next_event image h).now at.after ≡ Runs there.hart there.after =
      sym to_event ∙ (sym (ap (λ n. after_steps image n (start_of image epoch) memory) is) ∙ there.runs) in
      let hart : (next_event image h).now ≡ there.hart = cc in ap (hart_effect image) hart ∙ there.stops

  stop_is_load : (address width : ℕ) (signed : Bool) (rd : ℕ) → (next_event image h).at ≡ stop.Load address width signed rd
      → hart_effect image (next_event image h).now ≡ Stops (stop.Load address width signed rd)
  stop_is_load address width signed rd is = access_stops image h (rw is tt) ∙ ap Stops is

  stop_is_store : (address width value : ℕ) → (next_event image h).at ≡ stop.Store address width value
      → hart_effect image (next_event image h).now ≡ Stops (stop.Store address width value)
  stop_is_store address width value is = access_stops image h (rw is tt) ∙ ap Stops is

  pub loads_there : (address width : ℕ) (signed : Bool) (rd a : ℕ) → (next_event image h).at ≡ stop.Load address width signed rd
      → address ≤ a → a < address + width → LoadsAt image epoch memory (next_event image h).now.done a
  loads_there address width signed rd a is from below = record {
    hart = (next_event image h).now;
    after = at.after;
    address = address;
    width = width;
    signed = signed;
    rd = rd;
    runs = to_event;
    stops = stop_is_load address width signed rd is;
    from = from;
    below = below;
  }

  pub stores_there : (address width value a : ℕ) → (next_event image h).at ≡ stop.Store address width value
      → address ≤ a → a < address + width → StoresAt image epoch memory (next_event image h).now.done a
  stores_there address width value a is from below = record {
    hart = (next_event image h).now;
    after = at.after;
    address = address;
    width = width;
    value = value;
    runs = to_event;
    stops = stop_is_store address width value is;
    from = from;
    below = below;
  }

  -- a byte that it loads now, and has not stored
  pub reads_there : (address width : ℕ) (signed : Bool) (rd a : ℕ) → (next_event image h).at ≡ stop.Load address width signed rd
      → address ≤ a → a < address + width → own a ≡ None → ReadsOutside image epoch memory a
  reads_there address width signed rd a is from below none = record {
    step = (next_event image h).now.done;
    there = loads_there address width signed rd a is from below;
    exposed = λ step before stores. before_event a step none before stores;
  }

-- both are there with the hart
pub load_hart : (image : LoadedImage) (epoch : ℕ) (memory : List ℕ) (h : HartState) (own : ℕ → Option ℕ) (at : IsAt image epoch memory h own)
    → (address width : ℕ) (signed : Bool) (rd a : ℕ) → (is : (next_event image h).at ≡ stop.Load address width signed rd) → (from : address ≤ a) → (below : a < address + width)
    → (loads_there image epoch memory h own at address width signed rd a is from below).hart ≡ (next_event image h).now
unfolding loads_there
load_hart image epoch memory h own at address width signed rd a is from below = refl

pub store_hart : (image : LoadedImage) (epoch : ℕ) (memory : List ℕ) (h : HartState) (own : ℕ → Option ℕ) (at : IsAt image epoch memory h own)
    → (address width value a : ℕ) → (is : (next_event image h).at ≡ stop.Store address width value) → (from : address ≤ a) → (below : a < address + width)
    → (stores_there image epoch memory h own at address width value a is from below).hart ≡ (next_event image h).now
unfolding stores_there
store_hart image epoch memory h own at address width value a is from below = refl

-- what is before a hart is before its next event
further : (image : LoadedImage) (epoch : ℕ) (memory : List ℕ) (h : HartState) (own : ℕ → Option ℕ) → IsAt image epoch memory h own
    → (step : ℕ) → step < h.done → (done : ℕ) → done ≡ (next_event image h).now.done + 1 → step < done
further image epoch memory h own at step before done is =
    let there = next_event_reached image h memory in
    let counted = there.counted in omega (arith, before, is, counted)

-- and at that step
pub now_step : (image : LoadedImage) (epoch : ℕ) (memory : List ℕ) (h : HartState) (own : ℕ → Option ℕ) (at : IsAt image epoch memory h own)
    → (address width : ℕ) (signed : Bool) (rd a : ℕ) → (is : (next_event image h).at ≡ stop.Load address width signed rd)
    → (from : address ≤ a) → (below : a < address + width) → (none : own a ≡ None)
    → (reads_there image epoch memory h own at address width signed rd a is from below none).step < (next_event image h).now.done + 1
unfolding reads_there
now_step image epoch memory h own at address width signed rd a is from below none = omega arith

-- past a load nothing more is stored
past_load_none : (image : LoadedImage) (epoch : ℕ) (memory : List ℕ) (h : HartState) (own : ℕ → Option ℕ) → IsAt image epoch memory h own
    → (address width : ℕ) (signed : Bool) (rd : ℕ) → (next_event image h).at ≡ stop.Load address width signed rd
    → (a step : ℕ) → own a ≡ None → step < (next_event image h).now.done + 1 → StoresAt image epoch memory step a → ⊥
past_load_none image epoch memory h own at address width signed rd is a step none before there = elim (cases_lt step (next_event image h).now.done) [
  | inl low ↦ before_event image epoch memory h own at a step none low there
  | inr high ↦ no_store_at_load (hart_effect image (next_event image h).now) address width signed rd there.address there.width there.value
      (stop_is_load image epoch memory h own at address width signed rd is)
      (event_is image epoch memory h own at a step (omega (arith, before, high)) there)
]

-- the load that is the next event gives the number that the path has there
pub past_load : (image : LoadedImage) (epoch : ℕ) (memory : List ℕ) (h : HartState) (own : ℕ → Option ℕ) (address width : ℕ) (signed : Bool) (rd value : ℕ)
    → IsAt image epoch memory h own → (next_event image h).at ≡ stop.Load address width signed rd
    → number_at (over own (λ a. slice_index memory a)) address width ≡ value
    → IsAt image epoch memory (after_number (next_event image h).now (next_event image h).at value) own
past_load image epoch memory h own address width signed rd value at is number =
    let loads = number_at_same (λ a. slice_index at.after a) (over own (λ a. slice_index memory a)) address width (λ a low high. sym (at.holds.bytes a)) ∙ number in
    let count = load_counts image h address width signed rd value is in record {
      after = at.after;
      runs = comes_past_access image (start_of image epoch) h _ memory at.after at.after refl at.runs (load_goes_on image h address width signed rd value at.after is loads) count;
      holds = at.holds;
      early = λ a byte is. let there = at.early a byte is in (there.0, further image epoch memory h own at there.0 there.1 _ count, there.2);
      no_others = λ a step none before. past_load_none image epoch memory h own at address width signed rd is a step none (omega (arith, before, count));
    }

pub load_after : (image : LoadedImage) (epoch : ℕ) (memory : List ℕ) (h : HartState) (own : ℕ → Option ℕ) (address width : ℕ) (signed : Bool) (rd value : ℕ)
    → (at : IsAt image epoch memory h own) → (is : (next_event image h).at ≡ stop.Load address width signed rd)
    → (number : number_at (over own (λ a. slice_index memory a)) address width ≡ value)
    → (past_load image epoch memory h own address width signed rd value at is number).after ≡ at.after
unfolding past_load
load_after image epoch memory h own address width signed rd value at is number = refl

-- ---- stores

pub neither : (first second : Option ℕ) → first_of first second ≡ None → (first ≡ None) × (second ≡ None)
neither None second is = (refl, is)
neither (Some byte) second is = absurd cc

pub either : (first second : Option ℕ) (byte : ℕ) → first_of first second ≡ Some byte → ((b : ℕ) × (first ≡ Some b)) ⊎ (second ≡ Some byte)
either None second byte is = inr is
either (Some b) second byte is = inl (b, refl)

-- the bytes of a store are those that it covers
pub covered : (address width value a byte : ℕ) → stored address width value a ≡ Some byte → (address ≤ a) × (a < address + width)
covered address width value a byte is = elim (cases_lt a address) [
  | inl low ↦ (let none = stored_below address width value a low in absurd cc)
  | inr from ↦ elim (cases_lt a (address + width)) [
    | inl below ↦ (from, below)
    | inr past ↦ (let none = stored_past address width value a past in absurd cc)
  ]
]

pub same_store : (e : Effect) (address width value address' width' value' a : ℕ) → e ≡ Stops (stop.Store address width value)
    → e ≡ Stops (stop.Store address' width' value') → address' ≤ a → a < address' + width' → (address ≤ a) × (a < address + width)
same_store e address width value address' width' value' a is is' from below =
    let same_address : address' ≡ address = cc in
    let same_width : width' ≡ width = cc in (omega (arith, from, same_address), omega (arith, below, same_address, same_width))

past_store_none : (image : LoadedImage) (epoch : ℕ) (memory : List ℕ) (h : HartState) (own : ℕ → Option ℕ) → IsAt image epoch memory h own
    → (address width value : ℕ) → (next_event image h).at ≡ stop.Store address width value
    → (a step : ℕ) → stored address width value a ≡ None → own a ≡ None → step < (next_event image h).now.done + 1 → StoresAt image epoch memory step a → ⊥
past_store_none image epoch memory h own at address width value is a step unstored none before there = elim (cases_lt step (next_event image h).now.done) [
  | inl low ↦ before_event image epoch memory h own at a step none low there
  | inr high ↦
      (let within = same_store (hart_effect image (next_event image h).now) address width value there.address there.width there.value a
      (stop_is_store image epoch memory h own at address width value is)
      (event_is image epoch memory h own at a step (omega (arith, before, high)) there) there.from there.below in
      let some = stored_within address width value a within.0 within.1 in cc)
]

stores_by : (image : LoadedImage) (epoch : ℕ) (memory : List ℕ) (h : HartState) (own : ℕ → Option ℕ) → IsAt image epoch memory h own
    → (address width value : ℕ) → (next_event image h).at ≡ stop.Store address width value → (a byte : ℕ)
    → ((b : ℕ) × (stored address width value a ≡ Some b)) ⊎ (own a ≡ Some byte)
    → (step : ℕ) × (step < (next_event image h).now.done + 1) × StoresAt image epoch memory step a
stores_by image epoch memory h own at address width value is a byte (inl now) =
    let within = covered address width value a now.0 now.1 in
    ((next_event image h).now.done, omega arith, stores_there image epoch memory h own at address width value a is within.0 within.1)
stores_by image epoch memory h own at address width value is a byte (inr before) =
    let there = at.early a byte before in (there.0, further image epoch memory h own at there.0 there.1 _ refl, there.2)

-- the store that is the next event is the path's
pub past_store : (image : LoadedImage) (epoch : ℕ) (memory : List ℕ) (h : HartState) (own : ℕ → Option ℕ) (address width value : ℕ)
    → IsAt image epoch memory h own → (next_event image h).at ≡ stop.Store address width value
    → IsAt image epoch memory (stepped (next_event image h).now) (joined (stored address width value) own)
past_store image epoch memory h own address width value at is =
    let holds = holds_stored image _ address width value at.after (store_within image h address width value is) at.holds in record {
      after = with_number at.after address width value;
      runs = comes_past_access image (start_of image epoch) h _ memory at.after _ refl at.runs (store_goes_on image h address width value at.after is) refl;
      holds = record {
        long = holds.long;
        bytes = λ a. over-joined (stored address width value) own (λ b. slice_index memory b) a ∙ holds.bytes a;
      };
      early = λ a byte some. stores_by image epoch memory h own at address width value is a byte (either (stored address width value a) (own a) byte some);
      no_others = λ a step none before.
          let parts = neither (stored address width value a) (own a) none in
          past_store_none image epoch memory h own at address width value is a step parts.0 parts.1 before;
    }

pub store_after : (image : LoadedImage) (epoch : ℕ) (memory : List ℕ) (h : HartState) (own : ℕ → Option ℕ) (address width value : ℕ)
    → (at : IsAt image epoch memory h own) → (is : (next_event image h).at ≡ stop.Store address width value)
    → (past_store image epoch memory h own address width value at is).after ≡ with_number at.after address width value
unfolding past_store
store_after image epoch memory h own address width value at is = refl
