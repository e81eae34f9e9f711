-- An epoch over two memories that agree in all that it reads from outside over the first: it does the same over both.
use Rattle.std.proofs.Common.{◌≡◌, ◌⊎◌, ℕ, zero, suc, ◌+◌, ◌<◌, ◌≤◌, Bool, List, length, slice_index, Option, Some, None, unwrap_or, refl, sym, ap, subst, ◌∙◌, inl, inr, arith, add-one}
use Rattle.std.proofs.lemmas.Bool.{cases_eq}
use Rattle.rv32_exec.specs.declared.stop.Stop.{Stop}
use Rattle.rv32_exec.specs.declared.stop.Stop.TheVariants as stop
use Rattle.memory_bytes.specs.Bytes.{number_at, with_number}
use Rattle.memory_bytes.specs.Maps.{joined, nothing, over, stored}
use Rattle.memory_bytes.proofs.Bytes.{number_at_same, over-joined, stored_within}
use Rattle.memory_bytes.proofs.SmallFacts.{seen_by}
use Rattle.rv32_image.specs.Image.{LoadedImage}
use Rattle.rv32_exec.specs.Hart.{HartState, start_of, stepped}
use Rattle.rv32_exec.specs.Execute.{Effect, Executes, Stops, IsStore, after_load, hart_effect}
use Rattle.rv32_exec.specs.Sequential.{Progress, Runs, Ends, Faults, after_steps, execute, go_on}
use Rattle.rv32_exec.specs.Laws.{HasStopped}
use Rattle.rv32_exec.proofs.Accesses.{stop_of_effect}
use Rattle.rv32_exec.proofs.LawsOfRuns.{after_steps-+, execute-executes, execute-stops, one_step}
use Rattle.spec_history.specs.Laws.{Holds}
use Rattle.spec_history.proofs.OneEntry.Keeping.{start_runs}
use Rattle.spec_history.proofs.OneEntry.Accesses.{holds_stored}
use Rattle.spec_history.proofs.OneEntry.Progress.{none_left}
use Rattle.epoch_paths.specs.Paths.{ReadsOutside, Stores, StoresAt}
use Rattle.epoch_paths.proofs.Paths.{covered, either, neither, same_store}
use Rattle.epoch_paths.proofs.SmallFacts.{no_store_at_load}

-- ---- one instruction

-- one instruction more
one_more : (image : LoadedImage) (n : ℕ) (from : HartState) (memory : List ℕ) (p : Progress) → after_steps image n from memory ≡ p
    → after_steps image (n + 1) from memory ≡ go_on p (after_steps image 1)
one_more image n from memory p is = after_steps-+ image n 1 from memory ∙ ap (λ q. go_on q (after_steps image 1)) is

one_instruction : (image : LoadedImage) (n : ℕ) (from h : HartState) (memory after : List ℕ) → after_steps image n from memory ≡ Runs h after
    → after_steps image (n + 1) from memory ≡ execute image h after
one_instruction image n from h memory after is = one_more image n from memory (Runs h after) is ∙ (one_step image 0 h after ∙ none_left image (execute image h after))

no_run_here : (e : Effect) (after : HartState) (at : Stop) → e ≡ Executes after → e ≡ Stops at → ⊥
no_run_here e after at is is' = cc

-- ---- both runs

-- both have come to this hart, and have stored the same bytes
pub record BothRun (image : LoadedImage) (epoch : ℕ) (first second : List ℕ) (n : ℕ) (h : HartState) (own : ℕ → Option ℕ) : Type 0 where
  pub after : List ℕ
  pub after' : List ℕ
  pub runs : after_steps image n (start_of image epoch) first ≡ Runs h after
  pub runs' : after_steps image n (start_of image epoch) second ≡ Runs h after'
  pub holds : Holds image (over own (λ a. slice_index first a)) after
  pub holds' : Holds image (over own (λ a. slice_index second a)) after'
  pub stores : (a byte : ℕ) → own a ≡ Some byte → Stores image epoch first a
  pub no_others : (a step : ℕ) → own a ≡ None → step < n → StoresAt image epoch first step a → ⊥

-- or both have stopped, and of memory has changed what is stored alone
pub record BothStop (image : LoadedImage) (epoch : ℕ) (first second : List ℕ) (n : ℕ) : Type 0 where
  pub stopped : HasStopped (after_steps image n (start_of image epoch) first)
  pub stopped' : HasStopped (after_steps image n (start_of image epoch) second)
  pub changed : (h : HartState) (after : List ℕ) → after_steps image n (start_of image epoch) second ≡ Ends h after
      → (length after ≡ image.size) × ((a : ℕ) → (slice_index after a ≡ slice_index second a) ⊎ Stores image epoch first a)

pub data Alike (image : LoadedImage) (epoch : ℕ) (first second : List ℕ) (n : ℕ) : Type 0 where
  run_alike : (h : HartState) (own : ℕ → Option ℕ) → BothRun image epoch first second n h own → Alike image epoch first second n
  stop_alike : BothStop image epoch first second n → Alike image epoch first second n

-- a store at the last step is what the hart does there
last_store : (image : LoadedImage) (epoch : ℕ) (first second : List ℕ) (n : ℕ) (h : HartState) (own : ℕ → Option ℕ) → BothRun image epoch first second n h own
    → (a : ℕ) → (there : StoresAt image epoch first n a) → hart_effect image h ≡ Stops (stop.Store there.address there.width there.value)
last_store image epoch first second n h own both a there =
    let same : Runs h both.after ≡ Runs there.hart there.after = sym both.runs ∙ there.runs in
    let hart : h ≡ there.hart = cc in ap (hart_effect image) hart ∙ there.stops

-- a step more that stores nothing of a byte
one_step_more : (image : LoadedImage) (epoch : ℕ) (first second : List ℕ) (n : ℕ) (h : HartState) (own : ℕ → Option ℕ) → BothRun image epoch first second n h own
    → (a step : ℕ) → own a ≡ None → step < n + 1 → ((there : StoresAt image epoch first n a) → ⊥) → StoresAt image epoch first step a → ⊥
one_step_more image epoch first second n h own both a step none before not_now there = elim (cases_eq step n) [
  | inl e ↦ not_now (rw e at there)
  | inr other ↦ both.no_others a step none (omega (arith, before, other)) there
]

module _ (image : LoadedImage) (epoch : ℕ) (first second : List ℕ) (n : ℕ) (h : HartState) (own : ℕ → Option ℕ) (both : BothRun image epoch first second n h own) where
  both_execute : (after : HartState) → hart_effect image h ≡ Executes after → BothRun image epoch first second (n + 1) after own
  both_execute after is = record {
    after = both.after;
    after' = both.after';
    runs = one_instruction image n (start_of image epoch) h first both.after both.runs ∙ execute-executes image h after both.after is;
    runs' = one_instruction image n (start_of image epoch) h second both.after' both.runs' ∙ execute-executes image h after both.after' is;
    holds = both.holds;
    holds' = both.holds';
    stores = both.stores;
    no_others = λ a step none before. one_step_more image epoch first second n h own both a step none before
        (λ there. no_run_here (hart_effect image h) after _ is (last_store image epoch first second n h own both a there));
  }

  both_load : ((a : ℕ) → ReadsOutside image epoch first a → slice_index first a ≡ slice_index second a) → (address width : ℕ) (signed : Bool) (rd : ℕ)
      → hart_effect image h ≡ Stops (stop.Load address width signed rd)
      → BothRun image epoch first second (n + 1) (after_load h width signed rd (number_at (λ a. slice_index both.after a) address width)) own
  both_load same address width signed rd is =
      let bytes : (a : ℕ) → address ≤ a → a < address + width → slice_index both.after' a ≡ slice_index both.after a =
      λ a from below. sym (both.holds'.bytes a) ∙ (seen_by (own a) (slice_index second a) (slice_index first a) (λ none. sym (same a (record {
        step = n;
        there = record { hart = h; after = both.after; address = address; width = width; signed = signed; rd = rd; runs = both.runs; stops = is; from = from; below = below };
        exposed = λ step before. both.no_others a step none before;
      }))) ∙ both.holds.bytes a) in
      let number = number_at_same (λ a. slice_index both.after' a) (λ a. slice_index both.after a) address width bytes in record {
        after = both.after;
        after' = both.after';
        runs = one_instruction image n (start_of image epoch) h first both.after both.runs ∙ execute-stops image h _ both.after is;
        runs' = one_instruction image n (start_of image epoch) h second both.after' both.runs' ∙ (execute-stops image h _ both.after' is
            ∙ ap (λ m. Runs (after_load h width signed rd m) both.after') number);
        holds = both.holds;
        holds' = both.holds';
        stores = both.stores;
        no_others = λ a step none before. one_step_more image epoch first second n h own both a step none before
            (λ there. no_store_at_load (hart_effect image h) address width signed rd there.address there.width there.value is
            (last_store image epoch first second n h own both a there));
      }

  store_held : (memory after : List ℕ) (address width value : ℕ) → hart_effect image h ≡ Stops (stop.Store address width value)
      → Holds image (over own (λ a. slice_index memory a)) after
      → Holds image (over (joined (stored address width value) own) (λ a. slice_index memory a)) (with_number after address width value)
  store_held memory after address width value is holds =
      let store : IsStore image h address width value = stop_of_effect image h _ is in
      let later = holds_stored image _ address width value after store.access.within holds in record {
        long = later.long;
        bytes = λ a. over-joined (stored address width value) own (λ b. slice_index memory b) a ∙ later.bytes a;
      }

  stored_or : (address width value : ℕ) → hart_effect image h ≡ Stops (stop.Store address width value) → (a byte : ℕ)
      → ((b : ℕ) × (stored address width value a ≡ Some b)) ⊎ (own a ≡ Some byte) → Stores image epoch first a
  stored_or address width value is a byte (inl now) =
      let within = covered address width value a now.0 now.1 in record {
        step = n;
        there = record { hart = h; after = both.after; address = address; width = width; value = value; runs = both.runs; stops = is; from = within.0; below = within.1 };
      }
  stored_or address width value is a byte (inr before) = both.stores a byte before

  both_store : (address width value : ℕ) → hart_effect image h ≡ Stops (stop.Store address width value)
      → BothRun image epoch first second (n + 1) (stepped h) (joined (stored address width value) own)
  both_store address width value is = record {
    after = with_number both.after address width value;
    after' = with_number both.after' address width value;
    runs = one_instruction image n (start_of image epoch) h first both.after both.runs ∙ execute-stops image h _ both.after is;
    runs' = one_instruction image n (start_of image epoch) h second both.after' both.runs' ∙ execute-stops image h _ both.after' is;
    holds = store_held first both.after address width value is both.holds;
    holds' = store_held second both.after' address width value is both.holds';
    stores = λ a byte some. stored_or address width value is a byte (either (stored address width value a) (own a) byte some);
    no_others = λ a step none before.
        let parts = neither (stored address width value a) (own a) none in
        one_step_more image epoch first second n h own both a step parts.1 before
        (λ there. let within = same_store (hart_effect image h) address width value there.address there.width there.value a is
        (last_store image epoch first second n h own both a there) there.from there.below in
        let some = stored_within address width value a within.0 within.1 in let none' = parts.0 in cc);
  }

  not_stored_by : (a : ℕ) (o : Option ℕ) → own a ≡ o → (slice_index both.after' a ≡ slice_index second a) ⊎ Stores image epoch first a
  not_stored_by a None is = inl (sym (both.holds'.bytes a) ∙ ap (λ o. unwrap_or o (slice_index second a)) is)
  not_stored_by a (Some byte) is = inr (both.stores a byte is)

  both_end : (p p' : Progress) → execute image h both.after ≡ p → execute image h both.after' ≡ p' → HasStopped p → HasStopped p'
      → ((g : HartState) (memory : List ℕ) → p' ≡ Ends g memory → memory ≡ both.after') → BothStop image epoch first second (n + 1)
  both_end p p' is is' stopped stopped' ends =
      let one = one_instruction image n (start_of image epoch) h first both.after both.runs ∙ is in
      let two = one_instruction image n (start_of image epoch) h second both.after' both.runs' ∙ is' in record {
        stopped = rw one stopped;
        stopped' = rw two stopped';
        changed = λ g memory end.
            let same : memory ≡ both.after' = ends g memory (sym two ∙ end) in
            rw same (both.holds'.long, λ a. not_stored_by a (own a) refl);
      }

  both_by : ((a : ℕ) → ReadsOutside image epoch first a → slice_index first a ≡ slice_index second a) → (e : Effect) → hart_effect image h ≡ e
      → Alike image epoch first second (n + 1)
  both_by same (Executes after) is = run_alike after own (both_execute after is)
  both_by same (Stops (stop.Load address width signed rd)) is = run_alike _ own (both_load same address width signed rd is)
  both_by same (Stops (stop.Store address width value)) is = run_alike (stepped h) (joined (stored address width value) own) (both_store address width value is)
  both_by same (Stops stop.Ended) is =
      stop_alike (both_end (Ends h both.after) (Ends h both.after') (execute-stops image h stop.Ended both.after is) (execute-stops image h stop.Ended both.after' is) tt tt (λ g memory end. cc))
  both_by same (Stops (stop.Fault cause pc)) is =
      stop_alike (both_end (Faults cause pc both.after) (Faults cause pc both.after') (execute-stops image h _ both.after is) (execute-stops image h _ both.after' is) tt tt
      (λ g memory end. absurd cc))

stays_stopped : (image : LoadedImage) (p : Progress) → HasStopped p → go_on p (after_steps image 1) ≡ p
stays_stopped image (Runs h memory) stopped = absurd stopped
stays_stopped image (Ends h memory) stopped = refl
stays_stopped image (Faults cause pc memory) stopped = refl

stop_on : (image : LoadedImage) (epoch : ℕ) (first second : List ℕ) (n : ℕ) → BothStop image epoch first second n → BothStop image epoch first second (n + 1)
stop_on image epoch first second n both =
    let one = one_more image n (start_of image epoch) first _ refl ∙ stays_stopped image _ both.stopped in
    let two = one_more image n (start_of image epoch) second _ refl ∙ stays_stopped image _ both.stopped' in record {
      stopped = rw one both.stopped;
      stopped' = rw two both.stopped';
      changed = λ g memory end. both.changed g memory (sym two ∙ end);
    }

more_alike : (image : LoadedImage) (epoch : ℕ) (first second : List ℕ) (n : ℕ) → ((a : ℕ) → ReadsOutside image epoch first a → slice_index first a ≡ slice_index second a)
    → Alike image epoch first second n → Alike image epoch first second (n + 1)
more_alike image epoch first second n same (run_alike h own both) = both_by image epoch first second n h own both same (hart_effect image h) refl
more_alike image epoch first second n same (stop_alike both) = stop_alike (stop_on image epoch first second n both)

-- after so many instructions both are alike
pub alike : (image : LoadedImage) (epoch : ℕ) (first second : List ℕ) → length first ≡ image.size → length second ≡ image.size
    → ((a : ℕ) → ReadsOutside image epoch first a → slice_index first a ≡ slice_index second a) → (n : ℕ) → Alike image epoch first second n
alike image epoch first second long long' same zero = run_alike (start_of image epoch) nothing (record {
  after = first;
  after' = second;
  runs = start_runs image epoch first;
  runs' = start_runs image epoch second;
  holds = record { long = long; bytes = λ a. refl };
  holds' = record { long = long'; bytes = λ a. refl };
  stores = λ a byte is. absurd cc;
  no_others = λ a step none before there. absurd (omega (arith, before));
})
alike image epoch first second long long' same (suc n) =
    subst (λ k. Alike image epoch first second k) (add-one n) (more_alike image epoch first second n same (alike image epoch first second long long' same n))
