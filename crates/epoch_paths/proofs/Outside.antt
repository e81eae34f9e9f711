-- What an epoch has read from outside up to its next event, and how it ends.
use Rattle.std.proofs.Common.{◌≡◌, ◌⊎◌, ℕ, suc, ◌+◌, ◌<◌, ◌≤◌, Bool, true, false, List, [], ◌∷◌, ◌++◌, length, slice_index, Option, Some, None, refl, sym, ap, subst, ◌∙◌, inl, inr, arith, add-one, not}
use Rattle.std.proofs.lemmas.Bool.{cases_lt}
use Rattle.std.proofs.lemmas.List.{get_or_append_left, get_or_push}
use Rattle.rv32_image.specs.Image.{LoadedImage}
use Rattle.memory_bytes.specs.Bytes.{number_at, with_number}
use Rattle.memory_bytes.specs.Maps.{joined, nothing, over, stored}
use Rattle.memory_bytes.proofs.Bytes.{number_at_same}
use Rattle.rv32_exec.specs.declared.stop.Stop.{Stop}
use Rattle.rv32_exec.specs.declared.stop.Stop.TheVariants as stop
use Rattle.rv32_exec.specs.declared.sequential.End.TheVariants as end
use Rattle.rv32_exec.specs.Hart.{HartState, start_of, stepped}
use Rattle.rv32_exec.specs.Execute.{Stops, hart_effect}
use Rattle.rv32_exec.specs.NextEvent.{next_event}
use Rattle.rv32_exec.specs.Arrival.{after_number}
use Rattle.rv32_exec.specs.Sequential.{SequentialResult, Runs, Ends, Faults, after_steps, after_stop, exits, first_epochs, result_of}
use Rattle.rv32_exec.specs.Laws.{HasStopped}
use Rattle.rv32_exec.proofs.Epochs.{first_epochs-ends, first_epochs-exits, one_more_epoch}
use Rattle.spec_history.proofs.OneEntry.Progress.{event_does, outcome_there}
use Rattle.epoch_paths.specs.Paths.{ReadsOutside}
use Rattle.epoch_paths.specs.InOrder.{IsInOrder, memory_before}
use Rattle.epoch_paths.specs.Kept.{IsNext, next_runs, IsAt}
use Rattle.epoch_paths.specs.Lengths.{Lasts}
use Rattle.epoch_paths.proofs.Paths.{access_stops, at_start, load_after, past_load, past_store, start_after, store_after, to_event}
use Rattle.epoch_paths.proofs.Following.{hart_there, load_late, no_both, same_load}

module _ (image : LoadedImage) (epoch : ℕ) (memory : List ℕ) (h : HartState) (own : ℕ → Option ℕ) (at : IsAt image epoch memory h own) where
  outside_by : (a : ℕ) (reads : ReadsOutside image epoch memory a) → h.done ≤ reads.step → (o : Option ℕ) → own a ≡ o → own a ≡ None
  outside_by a reads from (Some byte) is =
      let stored = at.early a byte is in
      let early = stored.1 in absurd (reads.exposed stored.0 (omega (arith, early, from)) stored.2)
  outside_by a reads from None is = is

  -- it has been read before, or the load that is the next event reads it
  pub read_by_load : (address width : ℕ) (signed : Bool) (rd a : ℕ) → (next_event image h).at ≡ stop.Load address width signed rd
      → (reads : ReadsOutside image epoch memory a) → reads.step < (next_event image h).now.done + 1
      → (reads.step < h.done) ⊎ ((address ≤ a) × (a < address + width) × (own a ≡ None))
  read_by_load address width signed rd a is reads low = elim (cases_lt reads.step h.done) [
    | inl before ↦ inl before
    | inr from ↦
        (let past = load_late image epoch memory h own at a reads.step reads.there from in
        let here = hart_there image epoch memory h own at reads.step reads.there.hart reads.there.after (omega (arith, past, low)) reads.there.runs in
        let covers = same_load (hart_effect image (next_event image h).now) address width signed rd reads.there.address reads.there.width reads.there.signed
        reads.there.rd a (access_stops image h (rw is tt) ∙ ap Stops is) (ap (hart_effect image) here ∙ reads.there.stops) reads.there.from reads.there.below in
        inr (covers.0, covers.1, outside_by a reads from (own a) refl))
  ]

  -- a store reads nothing
  pub read_by_store : (address width value a : ℕ) → (next_event image h).at ≡ stop.Store address width value
      → (reads : ReadsOutside image epoch memory a) → reads.step < (next_event image h).now.done + 1 → reads.step < h.done
  read_by_store address width value a is reads low = elim (cases_lt reads.step h.done) [
    | inl before ↦ before
    | inr from ↦
        (let past = load_late image epoch memory h own at a reads.step reads.there from in
        let here = hart_there image epoch memory h own at reads.step reads.there.hart reads.there.after (omega (arith, past, low)) reads.there.runs in
        absurd (no_both (hart_effect image (next_event image h).now) address width value reads.there.address reads.there.width reads.there.signed reads.there.rd
        (access_stops image h (rw is tt) ∙ ap Stops is) (ap (hart_effect image) here ∙ reads.there.stops)))
  ]

-- ---- over memory

-- the epoch runs over memory, from this hart on
pub record OnPath (image : LoadedImage) (epoch : ℕ) (memory now : List ℕ) (h : HartState) : Type 0 where
  pub own : ℕ → Option ℕ
  pub at : IsAt image epoch memory h own
  pub is : at.after ≡ now

pub path_start : (image : LoadedImage) (epoch : ℕ) (memory : List ℕ) → length memory ≡ image.size → OnPath image epoch memory memory (start_of image epoch)
path_start image epoch memory long = record { own = nothing; at = at_start image epoch memory long; is = start_after image epoch memory long }

pub seen_now : (image : LoadedImage) (epoch : ℕ) (memory now : List ℕ) (h : HartState) (own : ℕ → Option ℕ) (at : IsAt image epoch memory h own) → at.after ≡ now
    → (address width value : ℕ) → number_at (λ a. slice_index now a) address width ≡ value → number_at (over own (λ a. slice_index memory a)) address width ≡ value
seen_now image epoch memory now h own at is address width value number =
    number_at_same (over own (λ a. slice_index memory a)) (λ a. slice_index now a) address width (λ a low high. at.holds.bytes a ∙ ap (λ m. slice_index m a) is) ∙ number

pub path_load : (image : LoadedImage) (epoch : ℕ) (memory now : List ℕ) (h : HartState) → OnPath image epoch memory now h
    → (address width : ℕ) (signed : Bool) (rd value : ℕ) → (next_event image h).at ≡ stop.Load address width signed rd
    → number_at (λ a. slice_index now a) address width ≡ value
    → OnPath image epoch memory now (after_number (next_event image h).now (next_event image h).at value)
path_load image epoch memory now h x address width signed rd value is number =
    let seen = seen_now image epoch memory now h x.own x.at x.is address width value number in record {
      own = x.own;
      at = past_load image epoch memory h x.own address width signed rd value x.at is seen;
      is = load_after image epoch memory h x.own address width signed rd value x.at is seen ∙ x.is;
    }

pub path_store : (image : LoadedImage) (epoch : ℕ) (memory now : List ℕ) (h : HartState) → OnPath image epoch memory now h
    → (address width value : ℕ) → (next_event image h).at ≡ stop.Store address width value
    → OnPath image epoch memory (with_number now address width value) (stepped (next_event image h).now)
path_store image epoch memory now h x address width value is = record {
  own = joined (stored address width value) x.own;
  at = past_store image epoch memory h x.own address width value x.at is;
  is = store_after image epoch memory h x.own address width value x.at is ∙ ap (λ m. with_number m address width value) x.is;
}

-- ---- its end

pub done_before : (image : LoadedImage) (epoch : ℕ) (memory : List ℕ) → first_epochs image epoch ≡ record { end = end.Done epoch; bytes = memory }
    → first_epochs image epoch ≡ record { end = end.Done epoch; bytes = memory_before image epoch }
done_before image epoch memory done =
    done ∙ sym (ap (λ (m : List ℕ). let r : SequentialResult = record { end = end.Done epoch; bytes = m } in r) (ap (λ (r : SequentialResult). r.bytes) done))

module _ (image : LoadedImage) (epoch : ℕ) (memory now : List ℕ) (h : HartState) (x : OnPath image epoch memory now h)
    (done : first_epochs image epoch ≡ record { end = end.Done epoch; bytes = memory }) where
  pub ends_so : (next_event image h).at ≡ stop.Ended → exits image (next_event image h).now ≡ false
      → first_epochs image (epoch + 1) ≡ record { end = end.Done (epoch + 1); bytes = now }
  ends_so is goes_on =
      let outcome = outcome_there image epoch h memory x.at.after (Ends (next_event image h).now x.at.after) x.at.runs (rw is refl) tt in
      first_epochs-ends image epoch (next_event image h).now memory x.at.after done (sym outcome) goes_on
      ∙ ap (λ (m : List ℕ). let r : SequentialResult = record { end = end.Done (epoch + 1); bytes = m } in r) x.is

  -- after its exit or fault no other one runs
  pub no_exit : (next_event image h).at ≡ stop.Ended → exits image (next_event image h).now ≡ true → IsInOrder image (epoch + 1) → ⊥
  no_exit is exit order =
      let outcome = outcome_there image epoch h memory x.at.after (Ends (next_event image h).now x.at.after) x.at.runs (rw is refl) tt in
      let whole = first_epochs-exits image epoch (next_event image h).now memory x.at.after done (sym outcome) exit in
      let next : IsInOrder image (suc epoch) = subst (λ n. IsInOrder image n) (add-one epoch) order in
      let other : end.Exit epoch ≡ end.Done (suc epoch) = sym (ap (λ (r : SequentialResult). r.end) whole) ∙ next in cc

  pub no_fault : (cause pc : ℕ) → (next_event image h).at ≡ stop.Fault cause pc → IsInOrder image (epoch + 1) → ⊥
  no_fault cause pc is order =
      let outcome = outcome_there image epoch h memory x.at.after (Faults cause pc x.at.after) x.at.runs (rw is refl) tt in
      let whole = one_more_epoch image epoch epoch memory done ∙ ap (result_of image epoch) outcome in
      let next : IsInOrder image (suc epoch) = subst (λ n. IsInOrder image n) (add-one epoch) order in
      let other : end.Fault epoch cause pc ≡ end.Done (suc epoch) = sym (ap (λ (r : SequentialResult). r.end) whole) ∙ next in cc

  next_end : (b : Bool) → exits image (next_event image h).now ≡ b → (next_event image h).at ≡ stop.Ended → IsNext image (epoch + 1) now (not b)
  next_end false goes_on is = ends_so is goes_on
  next_end true exit is = no_exit is exit

  next_by : (s : Stop) → (next_event image h).at ≡ s → HasStopped (after_stop (next_event image h).now x.at.after s)
      → IsNext image (epoch + 1) now (next_runs image (next_event image h).now s)
  next_by (stop.Load address width signed rd) is stopped = absurd stopped
  next_by (stop.Store address width value) is stopped = absurd stopped
  next_by stop.Ended is stopped = next_end (exits image (next_event image h).now) refl is
  next_by (stop.Fault cause pc) is stopped = no_fault cause pc is

  goes_on_by : (b : Bool) → exits image (next_event image h).now ≡ b → (next_event image h).at ≡ stop.Ended → IsInOrder image (epoch + 1)
      → first_epochs image (epoch + 1) ≡ record { end = end.Done (epoch + 1); bytes = now }
  goes_on_by false goes_on is order = ends_so is goes_on
  goes_on_by true exit is order = absurd (no_exit is exit order)

  pub goes_on : (next_event image h).at ≡ stop.Ended → IsInOrder image (epoch + 1) → first_epochs image (epoch + 1) ≡ record { end = end.Done (epoch + 1); bytes = now }
  goes_on is order = goes_on_by (exits image (next_event image h).now) refl is order

  -- whether the next epoch runs
  pub next_so : HasStopped (after_stop (next_event image h).now x.at.after (next_event image h).at)
      → IsNext image (epoch + 1) now (next_runs image (next_event image h).now (next_event image h).at)
  next_so stopped = next_by (next_event image h).at refl stopped

-- after so many instructions it ends or faults
pub lasts : (image : LoadedImage) (epoch : ℕ) (memory now : List ℕ) (h : HartState) (x : OnPath image epoch memory now h) → memory ≡ memory_before image epoch
    → HasStopped (after_stop (next_event image h).now x.at.after (next_event image h).at) → Lasts image epoch (next_event image h).now.done
lasts image epoch memory now h x same stopped = record {
  hart = (next_event image h).now;
  after = x.at.after;
  runs = subst (λ m. after_steps image (next_event image h).now.done (start_of image epoch) m ≡ Runs (next_event image h).now x.at.after) same (to_event image epoch memory h x.own x.at);
  stops = rw (event_does image h x.at.after) stopped;
}

-- and one more does
pub lasts_more : (image : LoadedImage) (epoch count : ℕ) (old new : List ℕ) → new ≡ old ++ count ∷ [] → length old ≡ epoch → Lasts image epoch count
    → ((k : ℕ) → k < epoch → Lasts image k (slice_index old k)) → (k : ℕ) → k < epoch + 1 → Lasts image k (slice_index new k)
lasts_more image epoch count old new is long one each k low = elim (cases_lt k epoch) [
  | inl before ↦ subst (Lasts image k) (sym (ap (λ (s : List ℕ). slice_index s k) is ∙ get_or_append_left old (count ∷ []) 0 k (omega (arith, before, long)))) (each k before)
  | inr from ↦
      (let here : k ≡ length old = omega (arith, low, from, long) in
      let same : k ≡ epoch = here ∙ long in
      subst (Lasts image k) (sym (ap (λ (s : List ℕ). slice_index s k) is ∙ get_or_push old count 0 k (sym here))) (subst (λ n. Lasts image n count) (sym same) one))
]
