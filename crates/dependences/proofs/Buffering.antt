-- One epoch and the buffers of the caches: the lines that it touches, and in which it stores.
use Rattle.std.proofs.Common.{◌≡◌, ◌≢◌, ◌⊎◌, ℕ, ◌+◌, ◌-◌, ◌==◌, ◌&&◌, ◌<◌, ◌≤◌, ◌%◌, ◌^◌, not, Bool, true, false, List, All, length, get_or, slice_index, Option, Some, None, refl, sym, ap, subst, ◌∙◌, inl, inr, true≢false, arith, eq-eqb, eqb-true}
use Rattle.std.proofs.lemmas.Bool.{and_parts, cases_Bool, cases_eq, cases_lt, and_right}
use Rattle.std.proofs.lemmas.Bool.Decides.{nat_tests}
use Rattle.std.proofs.lemmas.Option.{slice_get-get_or}
use Rattle.std.proofs.Math.Nat.{div-le_self}
use Rattle.memory_bytes.specs.Bytes.{IsWidth, number_at, with_number}
use Rattle.memory_bytes.specs.Maps.{first_of, joined, nothing, stored}
use Rattle.memory_bytes.proofs.Bytes.{stored_within}
use Rattle.memory_bytes.proofs.SmallFacts.{starts_inside}
use Rattle.rv32_image.specs.Image.{LoadedImage, IsImage}
use Rattle.rv32_image.specs.Places.{place}
use Rattle.rv32_image.proofs.Places.{places-few}
use Rattle.rv32_exec.specs.declared.stop.Stop.TheVariants as stop
use Rattle.rv32_exec.specs.Hart.{HartState, start_of, stepped}
use Rattle.rv32_exec.specs.Execute.{Stops, hart_effect}
use Rattle.rv32_exec.specs.NextEvent.{next_event}
use Rattle.rv32_exec.specs.Arrival.{after_number}
use Rattle.rv32_exec.specs.Sequential.{after_stop}
use Rattle.rv32_exec.specs.Laws.{HasStopped}
use Rattle.spec_history.specs.Conflict.{line_number, line_count}
use Rattle.spec_history.specs.Searches.{count_below}
use Rattle.spec_history.proofs.OneEntry.Accesses.{load_counts}
use Rattle.spec_history.proofs.Searches.Lines.{number_counted}
use Rattle.epoch_paths.specs.Paths.{LoadsAt, Stores, StoresAt, Touches}
use Rattle.epoch_paths.specs.InOrder.{IsInOrder}
use Rattle.dependences.specs.Conflict.{AreBeside, AreFalling, StoresIn, first_beside, run_memory}
use Rattle.dependences.specs.Shared.{IsShared, RunBeside, SharedOverflowInOrder, TouchesIn}
use Rattle.dependences.specs.KeptLines.{AreLines, AreLinesMarked, IsLastOf, LastTwo, StoresInLine}
use Rattle.dependences.specs.KeptTouches.{AreShares, AreSoMany, AreTouches, AreTouchesKept, IsCount, IsEarly, IsInside, IsNear, IsSharedLine, StoresBefore, Touched, TouchesBefore, TouchesInLine, after_store, after_touch}
use Rattle.dependences.specs.KeptWatch.{InBuffers, SharesSoFar, StoredSoFar, TouchedSoFar}
use Rattle.epoch_paths.proofs.Paths.{access_stops, at_start, covered, either, load_after, loads_there, past_load, past_store, path_stores, same_store, start_after, store_after, stores_there}
use Rattle.epoch_paths.proofs.Cores.{count_more}
use Rattle.dependences.proofs.Meetings.{passing}
use Rattle.epoch_paths.proofs.InOrder.{all_in_order}
use Rattle.epoch_paths.proofs.Following.{all_loaded, all_stored, all_stored_early, hart_there, load_late, no_both, same_load, store_late}
use Rattle.epoch_paths.proofs.Outside.{seen_now}
use Rattle.dependences.proofs.Lining.{among, last_low}
use Rattle.dependences.proofs.Words.{marked_word}
use Rattle.dependences.proofs.Counting.{count_past, falling_few}
use Rattle.dependences.proofs.Sharing.{count_few, shares_so, shares_stored, shares_touched, store_again, store_counts_long, store_here, store_long, store_others, store_two, touch_again, touch_before_long, touch_counts_long, touch_last, touch_last_long, touch_others, touch_stored}
use Rattle.dependences.proofs.SmallFacts.{either_some}

-- what is read of a list
pub read_other : (xs : List ℕ) (i r n : ℕ) → i < length xs → r ≡ get_or xs i r → r ≢ n → slice_index xs i ≢ n
read_other xs i r n within is other same =
    let one = slice_get-get_or xs i r within in
    let zeroed = slice_get-get_or xs i 0 within in
    let equal : get_or xs i r ≡ get_or xs i 0 = cc in other (is ∙ (equal ∙ same))

-- ---- what this epoch has touched so far, and in which lines it has stored

-- of a list whose entry of one line changes to this epoch
module _ (A : ℕ → ℕ → Type 0) (epoch line : ℕ) (old new : List ℕ) (here : slice_index new line ≡ epoch + 1) (others : (l : ℕ) → l ≢ line → slice_index new l ≡ slice_index old l) where
  so_far_old : (l d : ℕ) → A l d ⊎ ((d ≡ epoch) × (slice_index old l ≡ epoch + 1)) → A l d ⊎ ((d ≡ epoch) × (slice_index new l ≡ epoch + 1))
  so_far_old l d (inl before) = inl before
  so_far_old l d (inr now) = inr (
    now.0,
    elim (cases_eq l line) [
      | inl same ↦ subst (λ n. slice_index new n ≡ epoch + 1) (sym same) here
      | inr other ↦ others l other ∙ now.1
    ],
  )

  so_far_new : (l d : ℕ) → A l d ⊎ ((d ≡ epoch) × (slice_index new l ≡ epoch + 1)) → (A l d ⊎ ((d ≡ epoch) × (slice_index old l ≡ epoch + 1))) ⊎ ((l ≡ line) × (d ≡ epoch))
  so_far_new l d (inl before) = inl (inl before)
  so_far_new l d (inr now) = elim (cases_eq l line) [
    | inl same ↦ inr (same, now.0)
    | inr other ↦ inl (inr (now.0, sym (others l other) ∙ now.1))
  ]

same_list : (A : ℕ → ℕ → Type 0) (epoch : ℕ) (old new : List ℕ) → new ≡ old → (l d : ℕ) → A l d ⊎ ((d ≡ epoch) × (slice_index old l ≡ epoch + 1)) → A l d ⊎ ((d ≡ epoch) × (slice_index new l ≡ epoch + 1))
same_list A epoch old new same l d (inl before) = inl before
same_list A epoch old new same l d (inr now) = inr (now.0, ap (λ (s : List ℕ). slice_index s l) same ∙ now.1)

module _ (image : LoadedImage) (cores epoch line : ℕ) (t : Touched) (inside : IsInside t epoch line) (x : SharesSoFar image cores epoch t) where
  -- it touches a line
  pub touch_so_far : SharesSoFar image cores epoch (after_touch t image.machine.buffer_lines cores epoch line)
  touch_so_far = elim (cases_eq (slice_index t.two.last line) (epoch + 1)) [
    | inl again ↦ subst (λ (u : Touched). SharesSoFar image cores epoch u) (sym (touch_again t image.machine.buffer_lines cores epoch line inside again)) x
    | inr fresh ↦ fresh_touch fresh
  ]
    where
      fresh_touch : slice_index t.two.last line ≢ epoch + 1 → SharesSoFar image cores epoch (after_touch t image.machine.buffer_lines cores epoch line)
      fresh_touch fresh =
          let limit = image.machine.buffer_lines in
          let new = after_touch t limit cores epoch line in
          let here = touch_last t limit cores epoch line inside in
          let others = touch_others t limit cores epoch line inside in
          let stored = touch_stored t limit cores epoch line inside in
          shares_so (line_count image) cores limit (epoch + 1) (epoch + 1) (TouchedSoFar image cores epoch new.two.last) (StoredSoFar image cores epoch t.stored)
          (TouchedSoFar image cores epoch new.two.last) (StoredSoFar image cores epoch new.stored) new (omega arith) (λ l d is. is) (λ l d is. is)
          (same_list (StoresBefore image cores epoch) epoch t.stored new.stored stored) (same_list (StoresBefore image cores epoch) epoch new.stored t.stored (sym stored))
          (shares_touched (line_count image) cores limit epoch (TouchedSoFar image cores epoch t.two.last) (StoredSoFar image cores epoch t.stored)
          (TouchedSoFar image cores epoch new.two.last) t x line inside fresh
          (so_far_old (TouchesBefore image cores epoch) epoch line t.two.last new.two.last here others) (inr (refl, here))
          (so_far_new (TouchesBefore image cores epoch) epoch line t.two.last new.two.last here others))

  -- it stores in a line that it touches
  pub store_so_far : line < line_count image → slice_index t.two.last line ≡ epoch + 1 → SharesSoFar image cores epoch (after_store t image.machine.buffer_lines cores epoch line)
  store_so_far below touched = elim (cases_eq (slice_index t.stored line) (epoch + 1)) [
    | inl again ↦ subst (λ (u : Touched). SharesSoFar image cores epoch u) (sym (store_again t image.machine.buffer_lines cores epoch line inside again)) x
    | inr fresh ↦ fresh_store fresh
  ]
    where
      fresh_store : slice_index t.stored line ≢ epoch + 1 → SharesSoFar image cores epoch (after_store t image.machine.buffer_lines cores epoch line)
      fresh_store fresh =
          let limit = image.machine.buffer_lines in
          let new = after_store t limit cores epoch line in
          let here = store_here t limit cores epoch line inside in
          let others = store_others t limit cores epoch line inside in
          let last = ap (λ (s : LastTwo). s.last) (store_two t limit cores epoch line inside) in
          shares_so (line_count image) cores limit (epoch + 1) (epoch + 1) (TouchedSoFar image cores epoch t.two.last) (StoredSoFar image cores epoch new.stored)
          (TouchedSoFar image cores epoch new.two.last) (StoredSoFar image cores epoch new.stored) new (omega arith)
          (same_list (TouchesBefore image cores epoch) epoch t.two.last new.two.last last) (same_list (TouchesBefore image cores epoch) epoch new.two.last t.two.last (sym last))
          (λ l d is. is) (λ l d is. is)
          (shares_stored (line_count image) cores limit epoch (TouchedSoFar image cores epoch t.two.last) (StoredSoFar image cores epoch t.stored)
          (StoredSoFar image cores epoch new.stored) t x line inside below touched fresh
          (so_far_old (StoresBefore image cores epoch) epoch line t.stored new.stored here others) (inr (refl, here))
          (so_far_new (StoresBefore image cores epoch) epoch line t.stored new.stored here others))

-- ---- while the epoch runs

-- at first nobody has touched a line
pub kept_first : (image : LoadedImage) (cores : ℕ) (t : Touched) → AreLines image t.two → length t.stored ≡ line_count image → length t.counts ≡ image.epochs
    → ((l : ℕ) → slice_index t.two.last l ≡ 0) → ((l : ℕ) → slice_index t.stored l ≡ 0) → ((e : ℕ) → slice_index t.counts e ≡ 0) → t.full ≡ false → AreTouchesKept image cores 0 t
kept_first image cores t lines stored counts no_last no_stored no_count clear = record {
  long = record { lines = lines; stored = stored; counts = counts; few = λ e. let none = no_count e in omega (arith, none) };
  shares = record {
    last = λ l. subst (λ w. IsLastOf (TouchesBefore image cores 0 l) 0 w) (sym (no_last l)) (λ d low p. omega (arith, low));
    before = λ l d is. let none = no_last l in absurd (omega (arith, none, is));
    stored = λ l d is stores. let none = no_last l in absurd (omega (arith, none, is));
    stores_so = λ l d is. let none = no_stored l in absurd (omega (arith, none, is));
    low = λ l d is. let low = is.0 in omega (arith, low);
    touched = λ l d is. let low = is.0 in absurd (omega (arith, low));
    within = λ l d is. let low = is.0 in absurd (omega (arith, low));
    counts = λ e. inr (λ early. (let low = early.stored.0 in omega (arith, low)), no_count e);
    above = λ full. absurd (true≢false (sym full ∙ clear));
    most = λ out e. let none = no_count e in omega (arith, none);
  };
  clear = clear;
}

-- no epoch from this one on has touched a line yet
module _ (image : LoadedImage) (cores epoch : ℕ) (t : Touched) (kept : AreTouchesKept image cores epoch t) where
  last_before : (line : ℕ) → slice_index t.two.last line ≢ epoch + 1
  last_before line = let low = last_low (TouchesBefore image cores epoch line) epoch (slice_index t.two.last line) (kept.shares.last line) in omega (arith, low)

  stored_before : (line : ℕ) → slice_index t.stored line ≢ epoch + 1
  stored_before line is = let low = (kept.shares.stores_so line epoch is).0 in omega (arith, low)

  start_so_far : SharesSoFar image cores epoch t
  start_so_far =
      shares_so (line_count image) cores image.machine.buffer_lines epoch (epoch + 1) (TouchesBefore image cores epoch) (StoresBefore image cores epoch)
      (TouchedSoFar image cores epoch t.two.last) (StoredSoFar image cores epoch t.stored) t (omega arith) (λ l d is. inl is) touched_back (λ l d is. inl is) stored_back kept.shares
    where
      touched_back : (l d : ℕ) → TouchedSoFar image cores epoch t.two.last l d → TouchesBefore image cores epoch l d
      touched_back l d (inl before) = before
      touched_back l d (inr now) = absurd (last_before l now.1)

      stored_back : (l d : ℕ) → StoredSoFar image cores epoch t.stored l d → StoresBefore image cores epoch l d
      stored_back l d (inl before) = before
      stored_back l d (inr now) = absurd (stored_before l now.1)

  pub buffers_start : (memory : List ℕ) → length memory ≡ image.size → InBuffers image cores epoch memory memory t (start_of image epoch)
  buffers_start memory long = record {
    stored = nothing;
    at = at_start image epoch memory long;
    is = start_after image epoch memory long;
    long = kept.long;
    shares = start_so_far;
    touched = λ line is. absurd (last_before line is);
    all_touched = λ a step before there. absurd (omega (arith, before));
    noted = λ line is. absurd (stored_before line is);
    all = λ a byte is. absurd cc;
  }

-- ---- the lists

-- there are no more lines than places, and fewer than a word counts
pub lines_few : (image : LoadedImage) → IsImage image → line_count image < 2 ^ 32 - 1
lines_few image is =
    let few = places-few image.machine image.size is.machine_allowed is.size_most in
    let lines : line_count image ≤ place image.machine image.size image.size = div-le_self (place image.machine image.size image.size) image.machine.line_length in
    omega (arith, few, lines)

pub inside_at : (image : LoadedImage) (epoch line : ℕ) (t : Touched) → IsImage image → AreTouches image t → epoch < image.epochs → line < line_count image → IsInside t epoch line
inside_at image epoch number t is long within line =
    let most = is.epochs_most in
    let small = lines_few image is in record {
      last = omega (arith, line, long.lines.last);
      before = omega (arith, line, long.lines.before);
      stored = omega (arith, line, long.stored);
      counts = omega (arith, within, long.counts);
      short = omega (arith, within, most);
      few = λ e. let few = long.few e in omega (arith, few, small);
    }

inside_of : (image : LoadedImage) (epoch a : ℕ) (t : Touched) → IsImage image → AreTouches image t → epoch < image.epochs → a < image.size
    → IsInside t epoch (line_number image a)
inside_of image epoch a t is long within below = inside_at image epoch (line_number image a) t is long within (number_counted image a is.machine_allowed below)

module _ (image : LoadedImage) (cores epoch line : ℕ) (t : Touched) (inside : IsInside t epoch line) (long : AreTouches image t) where
  pub touch_long : SharesSoFar image cores epoch (after_touch t image.machine.buffer_lines cores epoch line) → AreTouches image (after_touch t image.machine.buffer_lines cores epoch line)
  touch_long shares = record {
    lines = record {
      last = touch_last_long t image.machine.buffer_lines cores epoch line inside ∙ long.lines.last;
      before = touch_before_long t image.machine.buffer_lines cores epoch line inside ∙ long.lines.before;
    };
    stored = ap length (touch_stored t image.machine.buffer_lines cores epoch line inside) ∙ long.stored;
    counts = touch_counts_long t image.machine.buffer_lines cores epoch line inside ∙ long.counts;
    few = λ e. count_few (line_count image) cores _ _ e _ (shares.counts e);
  }

  pub store_long_so : SharesSoFar image cores epoch (after_store t image.machine.buffer_lines cores epoch line) → AreTouches image (after_store t image.machine.buffer_lines cores epoch line)
  store_long_so shares = record {
    lines = subst (λ (s : LastTwo). AreLines image s) (sym (store_two t image.machine.buffer_lines cores epoch line inside)) long.lines;
    stored = store_long t image.machine.buffer_lines cores epoch line inside ∙ long.stored;
    counts = store_counts_long t image.machine.buffer_lines cores epoch line inside ∙ long.counts;
    few = λ e. count_few (line_count image) cores _ _ e _ (shares.counts e);
  }

module _ (image : LoadedImage) (cores epoch : ℕ) (memory now : List ℕ) (t : Touched) (h : HartState) (x : InBuffers image cores epoch memory now t h) where
  -- ---- what is touched up to the next event

  load_by_load : (address width : ℕ) (signed : Bool) (rd a step : ℕ) → (next_event image h).at ≡ stop.Load address width signed rd → h.done ≤ step
      → step < (next_event image h).now.done + 1 → LoadsAt image epoch memory step a → (address ≤ a) × (a < address + width)
  load_by_load address width signed rd a step is from low there =
      let past = load_late image epoch memory h x.stored x.at a step there from in
      let here = hart_there image epoch memory h x.stored x.at step there.hart there.after (omega (arith, past, low)) there.runs in
      same_load (hart_effect image (next_event image h).now) address width signed rd there.address there.width there.signed there.rd a
      (access_stops image h (rw is tt) ∙ ap Stops is) (ap (hart_effect image) here ∙ there.stops) there.from there.below

  store_by_load : (address width : ℕ) (signed : Bool) (rd a step : ℕ) → (next_event image h).at ≡ stop.Load address width signed rd → h.done ≤ step
      → step < (next_event image h).now.done + 1 → StoresAt image epoch memory step a → ⊥
  store_by_load address width signed rd a step is from low there =
      let past = store_late image epoch memory h x.stored x.at a step there from in
      let here = hart_there image epoch memory h x.stored x.at step there.hart there.after (omega (arith, past, low)) there.runs in
      no_both (hart_effect image (next_event image h).now) there.address there.width there.value address width signed rd
      (ap (hart_effect image) here ∙ there.stops) (access_stops image h (rw is tt) ∙ ap Stops is)

  load_by_store : (address width value a step : ℕ) → (next_event image h).at ≡ stop.Store address width value → h.done ≤ step
      → step < (next_event image h).now.done + 1 → LoadsAt image epoch memory step a → ⊥
  load_by_store address width value a step is from low there =
      let past = load_late image epoch memory h x.stored x.at a step there from in
      let here = hart_there image epoch memory h x.stored x.at step there.hart there.after (omega (arith, past, low)) there.runs in
      no_both (hart_effect image (next_event image h).now) address width value there.address there.width there.signed there.rd
      (access_stops image h (rw is tt) ∙ ap Stops is) (ap (hart_effect image) here ∙ there.stops)

  store_by_store : (address width value a step : ℕ) → (next_event image h).at ≡ stop.Store address width value → h.done ≤ step
      → step < (next_event image h).now.done + 1 → StoresAt image epoch memory step a → (address ≤ a) × (a < address + width)
  store_by_store address width value a step is from low there =
      let past = store_late image epoch memory h x.stored x.at a step there from in
      let here = hart_there image epoch memory h x.stored x.at step there.hart there.after (omega (arith, past, low)) there.runs in
      same_store (hart_effect image (next_event image h).now) address width value there.address there.width there.value a
      (access_stops image h (rw is tt) ∙ ap Stops is) (ap (hart_effect image) here ∙ there.stops) there.from there.below

  touch_here : (last : List ℕ) (address width a : ℕ) → AreLinesMarked image t.two.last last epoch address width → (address ≤ a) × (a < address + width)
      → slice_index last (line_number image a) ≡ epoch + 1
  touch_here last address width a noted (from, below) =
      let place : address + (a - address) ≡ a = omega (arith, from) in
      subst (λ b. slice_index last (line_number image b) ≡ epoch + 1) place (noted.here (a - address) (omega (arith, from, below)))

  touch_still : (last : List ℕ) (address width line : ℕ) → AreLinesMarked image t.two.last last epoch address width → slice_index t.two.last line ≡ epoch + 1
      → slice_index last line ≡ epoch + 1
  touch_still last address width line noted is = elim (among image line address width) [
    | inl one ↦ ap (slice_index last) one.2 ∙ noted.here one.0 one.1
    | inr none ↦ noted.others line none ∙ is
  ]

  touched_by : (last : List ℕ) (address width line : ℕ) → AreLinesMarked image t.two.last last epoch address width
      → ((i : ℕ) → i < width → Touches image epoch memory (address + i)) → slice_index last line ≡ epoch + 1 → TouchesIn image epoch memory line
  touched_by last address width line noted touches is = elim (among image line address width) [
    | inl one ↦ record { at = address + one.0; in_line = sym one.2; touches = touches one.0 one.1 }
    | inr none ↦ x.touched line (sym (noted.others line none) ∙ is)
  ]

  loaded_by : (last : List ℕ) (address width : ℕ) (signed : Bool) (rd a step : ℕ) → (next_event image h).at ≡ stop.Load address width signed rd
      → AreLinesMarked image t.two.last last epoch address width → step < (next_event image h).now.done + 1
      → LoadsAt image epoch memory step a ⊎ StoresAt image epoch memory step a → slice_index last (line_number image a) ≡ epoch + 1
  loaded_by last address width signed rd a step is noted low there = elim (cases_lt step h.done) [
    | inl before ↦ touch_still last address width (line_number image a) noted (x.all_touched a step before there)
    | inr from ↦ elim there [
      | inl loads ↦ touch_here last address width a noted (load_by_load address width signed rd a step is from low loads)
      | inr stores ↦ absurd (store_by_load address width signed rd a step is from low stores)
    ]
  ]

  stored_by : (last : List ℕ) (address width value a step : ℕ) → (next_event image h).at ≡ stop.Store address width value
      → AreLinesMarked image t.two.last last epoch address width → step < (next_event image h).now.done + 1
      → LoadsAt image epoch memory step a ⊎ StoresAt image epoch memory step a → slice_index last (line_number image a) ≡ epoch + 1
  stored_by last address width value a step is noted low there = elim (cases_lt step h.done) [
    | inl before ↦ touch_still last address width (line_number image a) noted (x.all_touched a step before there)
    | inr from ↦ elim there [
      | inl loads ↦ absurd (load_by_store address width value a step is from low loads)
      | inr stores ↦ touch_here last address width a noted (store_by_store address width value a step is from low stores)
    ]
  ]

  -- ---- an access

  module _ (is_image : IsImage image) (within : epoch < image.epochs) (address width : ℕ) (wide : IsWidth width) (aligned : address % width ≡ 0) (room : address + width ≤ image.size) where
    abbrev limit : ℕ
    limit = image.machine.buffer_lines

    pub below : address < image.size
    below = starts_inside address width image.size wide room

    abbrev touched_now : Touched
    touched_now = after_touch t limit cores epoch (line_number image address)

    abbrev stored_now : Touched
    stored_now = after_store touched_now limit cores epoch (line_number image address)

    inside : IsInside t epoch (line_number image address)
    inside = inside_of image epoch address t is_image x.long within below

    touched_shares : SharesSoFar image cores epoch touched_now
    touched_shares = touch_so_far image cores epoch (line_number image address) t inside x.shares

    pub touched_long : AreTouches image touched_now
    touched_long = touch_long image cores epoch (line_number image address) t inside x.long touched_shares

    touch_marks : AreLinesMarked image t.two.last touched_now.two.last epoch address width
    touch_marks =
        marked_word image is_image address width (line_number image address) wide aligned refl t.two.last touched_now.two.last epoch
        (touch_last t limit cores epoch (line_number image address) inside) (touch_others t limit cores epoch (line_number image address) inside)

    pub buffers_load : (signed : Bool) (rd value : ℕ) → (next_event image h).at ≡ stop.Load address width signed rd → number_at (λ a. slice_index now a) address width ≡ value
        → InBuffers image cores epoch memory now touched_now (after_number (next_event image h).now (next_event image h).at value)
    buffers_load signed rd value is number =
        let seen = seen_now image epoch memory now h x.stored x.at x.is address width value number in
        let counts = load_counts image h address width signed rd value is in
        let same = touch_stored t limit cores epoch (line_number image address) inside in record {
          stored = x.stored;
          at = past_load image epoch memory h x.stored address width signed rd value x.at is seen;
          is = load_after image epoch memory h x.stored address width signed rd value x.at is seen ∙ x.is;
          long = touched_long;
          shares = touched_shares;
          touched = λ l here. touched_by touched_now.two.last address width l touch_marks
              (λ i low. record { step = (next_event image h).now.done; there = inl (loads_there image epoch memory h x.stored x.at address width signed rd (address + i) is (omega arith) (omega (arith, low))) })
              here;
          all_touched = λ a step before there. loaded_by touched_now.two.last address width signed rd a step is touch_marks (omega (arith, before, counts)) there;
          noted = λ l here. x.noted l (sym (ap (λ (s : List ℕ). slice_index s l) same) ∙ here);
          all = λ a byte some. ap (λ (s : List ℕ). slice_index s (line_number image a)) same ∙ x.all a byte some;
        }

    -- ---- a store

    inside_touched : IsInside touched_now epoch (line_number image address)
    inside_touched = inside_of image epoch address touched_now is_image touched_long within below

    stored_shares : SharesSoFar image cores epoch stored_now
    stored_shares =
        store_so_far image cores epoch (line_number image address) touched_now inside_touched touched_shares (number_counted image address is_image.machine_allowed below)
        (touch_last t limit cores epoch (line_number image address) inside)

    store_marks : AreLinesMarked image t.stored stored_now.stored epoch address width
    store_marks =
        marked_word image is_image address width (line_number image address) wide aligned refl t.stored stored_now.stored epoch
        (store_here touched_now limit cores epoch (line_number image address) inside_touched)
        (λ l other. store_others touched_now limit cores epoch (line_number image address) inside_touched l other
        ∙ ap (λ (s : List ℕ). slice_index s l) (touch_stored t limit cores epoch (line_number image address) inside))

    last_same : stored_now.two.last ≡ touched_now.two.last
    last_same = ap (λ (s : LastTwo). s.last) (store_two touched_now limit cores epoch (line_number image address) inside_touched)

    store_touches : AreLinesMarked image t.two.last stored_now.two.last epoch address width
    store_touches = subst (λ (s : List ℕ). AreLinesMarked image t.two.last s epoch address width) (sym last_same) touch_marks

    line_still : (l : ℕ) → slice_index t.stored l ≡ epoch + 1 → slice_index stored_now.stored l ≡ epoch + 1
    line_still l is = elim (among image l address width) [
      | inl one ↦ ap (slice_index stored_now.stored) one.2 ∙ store_marks.here one.0 one.1
      | inr none ↦ store_marks.others l none ∙ is
    ]

    noted_by : (value l : ℕ) → slice_index stored_now.stored l ≡ epoch + 1
        → (a : ℕ) × (byte : ℕ) × (line_number image a ≡ l) × (joined (stored address width value) x.stored a ≡ Some byte)
    noted_by value l is = elim (among image l address width) [
      | inl one ↦
          (let low = one.1 in
          (address + one.0, _, sym one.2, ap (λ o. first_of o (x.stored (address + one.0))) (stored_within address width value (address + one.0) (omega arith) (omega (arith, low)))))
      | inr none ↦
          (let before = x.noted l (sym (store_marks.others l none) ∙ is) in
          let some = either_some (stored address width value before.0) (x.stored before.0) before.1 before.3 in (before.0, some.0, before.2, some.1))
    ]

    all_by : (value a byte : ℕ) → ((b : ℕ) × (stored address width value a ≡ Some b)) ⊎ (x.stored a ≡ Some byte) → slice_index stored_now.stored (line_number image a) ≡ epoch + 1
    all_by value a byte (inl some) =
        let inside_it = covered address width value a some.0 some.1 in
        let from = inside_it.0 in
        let low = inside_it.1 in
        let place : address + (a - address) ≡ a = omega (arith, from) in
        subst (λ b. slice_index stored_now.stored (line_number image b) ≡ epoch + 1) place (store_marks.here (a - address) (omega (arith, from, low)))
    all_by value a byte (inr before) = line_still (line_number image a) (x.all a byte before)

    pub buffers_store : (value : ℕ) → (next_event image h).at ≡ stop.Store address width value
        → InBuffers image cores epoch memory (with_number now address width value) stored_now (stepped (next_event image h).now)
    buffers_store value is = record {
      stored = joined (stored address width value) x.stored;
      at = past_store image epoch memory h x.stored address width value x.at is;
      is = store_after image epoch memory h x.stored address width value x.at is ∙ ap (λ m. with_number m address width value) x.is;
      long = store_long_so image cores epoch (line_number image address) touched_now inside_touched touched_long stored_shares;
      shares = stored_shares;
      touched = λ l here. touched_by stored_now.two.last address width l store_touches
          (λ i low. record { step = (next_event image h).now.done; there = inr (stores_there image epoch memory h x.stored x.at address width value (address + i) is (omega arith) (omega (arith, low))) })
          here;
      all_touched = λ a step before there. stored_by stored_now.two.last address width value a step is store_touches before there;
      noted = λ l here. noted_by value l here;
      all = λ a byte some. all_by value a byte (either (stored address width value a) (x.stored a) byte some);
    }

-- ---- the lines of a count, one of them aside

line_differs_by : (b : Bool) (k line : ℕ) → (k == line) ≡ b → not b ≡ true → k ≢ line
line_differs_by true k line is other = absurd cc
line_differs_by false k line is other = grind (arith, nat_tests)

-- those that are so, but for this one
abbrev other_line : (ℕ → Bool) → ℕ → ℕ → Bool
other_line which line k = not (k == line) && which k

other_so : (which : ℕ → Bool) (line k : ℕ) → k ≢ line → other_line which line k ≡ which k
other_so which line k other = by_same (k == line) refl
  where
    by_same : (b : Bool) → (k == line) ≡ b → (not b && which k) ≡ which k
    by_same true is = absurd (other (eqb-true k line is))
    by_same false is = refl

other_none : (which : ℕ → Bool) (line : ℕ) → other_line which line line ≡ false
other_none which line = ap (λ b. not b && which line) (eq-eqb line line refl)

one_fewer : (lines : ℕ) (P : ℕ → Type 0) (n line : ℕ) → P line → (x : AreSoMany lines P n) → n ≡ count_below lines (other_line x.which line) + 1
one_fewer lines P n line p x =
    let here = x.all line p in
    x.count ∙ count_more lines line (other_line x.which line) x.which here.0 (λ k other. other_so x.which line k other) (other_none x.which line) here.1

-- as many others as fall are fewer
few_others : (lines : ℕ) (P : ℕ → Type 0) (n line bound : ℕ) (others : List ℕ) → P line → (x : AreSoMany lines P n) → AreFalling bound others → All (λ k. (k ≢ line) × P k) others
    → length others + 1 ≤ n
few_others lines P n line bound others p x falling each =
    let few = falling_few (other_line x.which line) bound others falling
    (λ k d below. let one = each k d below in other_so x.which line _ one.0 ∙ (x.all _ one.1).1) in
    let past = count_past bound lines (other_line x.which line) (λ k past. past_none k past (cases_Bool (x.which k))) in
    let fewer = one_fewer lines P n line p x in omega (arith, few, past, fewer)
  where
    past_none : (k : ℕ) → lines ≤ k → (x.which k ≡ true) ⊎ (x.which k ≡ false) → other_line x.which line k ≡ false
    past_none k past (inl is) = let low = (x.all k (x.some k is)).0 in absurd (omega (arith, past, low))
    past_none k past (inr is) = and_right (not (k == line)) (x.which k) is

-- ---- the end

module _ (image : LoadedImage) (cores epoch : ℕ) (memory now : List ℕ) (t : Touched) (h : HartState) (x : InBuffers image cores epoch memory now t h)
    (stopped : HasStopped (after_stop (next_event image h).now x.at.after (next_event image h).at)) (same : memory ≡ run_memory image cores epoch) where
  early : (step a : ℕ) → LoadsAt image epoch memory step a ⊎ StoresAt image epoch memory step a → step < h.done
  early step a (inl loads) = all_loaded image epoch memory h x.stored x.at stopped a step loads
  early step a (inr stores) = all_stored_early image epoch memory h x.stored x.at stopped a step stores

  touches_last : (line : ℕ) → TouchesInLine image cores line epoch → slice_index t.two.last line ≡ epoch + 1
  touches_last line p =
      let touches : Touches image epoch memory p.at = subst (λ n. Touches image epoch n p.at) (sym same) p.touches in
      sym (ap (slice_index t.two.last) p.in_line) ∙ x.all_touched p.at touches.step (early touches.step p.at touches.there) touches.there

  stores_in : (line : ℕ) → slice_index t.stored line ≡ epoch + 1 → StoresInLine image cores line epoch
  stores_in line is =
      let one = x.noted line is in
      record { at = one.0; in_line = one.2; stores = subst (λ n. Stores image epoch n one.0) same (path_stores x.at one.0 one.1 one.3) }

  stamped_by : (line : ℕ) → (p : StoresInLine image cores line epoch) → (o : Option ℕ) → x.stored p.at ≡ o → slice_index t.stored line ≡ epoch + 1
  stamped_by line p (Some byte) is = sym (ap (slice_index t.stored) p.in_line) ∙ x.all p.at byte is
  stamped_by line p None is =
      absurd (all_stored image epoch memory h x.stored x.at stopped p.at is (subst (λ n. Stores image epoch n p.at) (sym same) p.stores))

  touched_next : (l d : ℕ) → TouchedSoFar image cores epoch t.two.last l d → TouchesBefore image cores (epoch + 1) l d
  touched_next l d (inl before) = let low = before.0 in (omega (arith, low), before.1)
  touched_next l d (inr now) =
      let same_epoch = now.0 in
      (omega (arith, same_epoch), subst (λ n. TouchesInLine image cores l n) (sym same_epoch) (subst (λ n. TouchesIn image epoch n l) same (x.touched l now.1)))

  touched_back : (l d : ℕ) → TouchesBefore image cores (epoch + 1) l d → TouchedSoFar image cores epoch t.two.last l d
  touched_back l d before = elim (cases_eq d epoch) [
    | inl same_epoch ↦ inr (same_epoch, touches_last l (subst (λ n. TouchesInLine image cores l n) same_epoch before.1))
    | inr other ↦ (let low = before.0 in inl (omega (arith, low, other), before.1))
  ]

  stored_next : (l d : ℕ) → StoredSoFar image cores epoch t.stored l d → StoresBefore image cores (epoch + 1) l d
  stored_next l d (inl before) = let low = before.0 in (omega (arith, low), before.1)
  stored_next l d (inr now) = let same_epoch = now.0 in (omega (arith, same_epoch), subst (λ n. StoresInLine image cores l n) (sym same_epoch) (stores_in l now.1))

  stored_back : (l d : ℕ) → StoresBefore image cores (epoch + 1) l d → StoredSoFar image cores epoch t.stored l d
  stored_back l d before = elim (cases_eq d epoch) [
    | inl same_epoch ↦ (let p = subst (λ n. StoresInLine image cores l n) same_epoch before.1 in inr (same_epoch, stamped_by l p (x.stored p.at) refl))
    | inr other ↦ (let low = before.0 in inl (omega (arith, low, other), before.1))
  ]

  shares_next : AreShares (line_count image) cores image.machine.buffer_lines (epoch + 1) (TouchesBefore image cores (epoch + 1)) (StoresBefore image cores (epoch + 1)) t
  shares_next =
      shares_so (line_count image) cores image.machine.buffer_lines (epoch + 1) (epoch + 1) (TouchedSoFar image cores epoch t.two.last) (StoredSoFar image cores epoch t.stored)
      (TouchesBefore image cores (epoch + 1)) (StoresBefore image cores (epoch + 1)) t (omega arith) touched_next touched_back stored_next stored_back x.shares

  pub buffers_kept : t.full ≡ false → AreTouchesKept image cores (epoch + 1) t
  buffers_kept clear = record { long = x.long; shares = shares_next; clear = clear }

  -- ---- overflows

  near_beside : epoch < image.epochs → IsInOrder image (first_beside cores epoch) → (e f : ℕ) → IsNear cores e f → f < epoch + 1 → AreBeside image cores e f
  near_beside within starts e f near low = record {
    from = near.0;
    before = near.1;
    within = omega (arith, low, within);
    starts = all_in_order image (first_beside cores epoch) (first_beside cores f) starts (omega (arith, low));
  }

  shared_of : epoch < image.epochs → IsInOrder image (first_beside cores epoch) → (d l : ℕ) → d < epoch + 1
      → IsSharedLine cores (TouchesBefore image cores (epoch + 1)) (StoresBefore image cores (epoch + 1)) d l → IsShared image cores (run_memory image cores) d l
  shared_of within starts d l low y = record { other = y.other; beside = by_near y.near; touches = y.touched.1 }
    where
      by_near : IsNear cores y.other d ⊎ IsNear cores d y.other → RunBeside image cores y.other d
      by_near (inl near) = inl (near_beside within starts y.other d near low)
      by_near (inr near) = inr (near_beside within starts d y.other near y.touched.0)

  overflow_by : epoch < image.epochs → IsInOrder image (first_beside cores epoch) → (d n : ℕ) → image.machine.buffer_lines < n
      → IsCount (line_count image) cores (TouchesBefore image cores (epoch + 1)) (StoresBefore image cores (epoch + 1)) d n
      → (o : SharedOverflowInOrder image cores) × (o.later ≤ epoch)
  overflow_by within starts d n less (inr y) = let none = y.1 in absurd (omega (arith, less, none))
  overflow_by within starts d n less (inl y) =
      let one = y.0 in
      let low = one.stored.0 in
      let lines = passing (λ k. (k ≢ one.line) × StoresIn image d (run_memory image cores d) k × IsShared image cores (run_memory image cores) d k) (other_line y.1.which one.line)
      (λ k is. let parts = and_parts (not (k == one.line)) (y.1.which k) is in
      let shared = y.1.some k parts.1 in
      (line_differs_by (k == one.line) k one.line refl parts.0, shared.stored.1, shared_of within starts d k low shared)) (line_count image) in
      let fewer = one_fewer (line_count image) _ n one.line (record { other = one.earlier; near = inl one.near; stored = one.stored; touched = one.touched }) y.1 in
      let long = lines.long in (
        record {
          earlier = one.earlier;
          later = d;
          line = one.line;
          others = lines.list;
          bound = line_count image;
          beside = near_beside within starts one.earlier d one.near low;
          touches = one.touched.1;
          stores = one.stored.1;
          apart = lines.falling;
          full = omega (arith, less, fewer, long);
          each = lines.each;
        },
        omega (arith, low),
      )

  pub buffer_conflict : epoch < image.epochs → IsInOrder image (first_beside cores epoch) → t.full ≡ true → (o : SharedOverflowInOrder image cores) × (o.later ≤ epoch)
  buffer_conflict within starts full = let one = shares_next.above full in overflow_by within starts one.0 _ one.1 (shares_next.counts one.0)

-- ---- where none has stored in too many

-- where no epoch from this one on is beside another, nothing overflows
module _ (image : LoadedImage) (cores bound : ℕ) (t : Touched) (kept : AreTouchesKept image cores bound t) (alone : (e f : ℕ) → AreBeside image cores e f → f < bound) where
  abbrev T : ℕ → ℕ → Type 0
  T = TouchesBefore image cores bound

  abbrev S : ℕ → ℕ → Type 0
  S = StoresBefore image cores bound

  shared_before : (d l : ℕ) → d < bound → StoresInLine image cores l d → IsShared image cores (run_memory image cores) d l → IsSharedLine cores T S d l
  shared_before d l low stores y = by_beside y.beside
    where
      by_beside : RunBeside image cores y.other d → IsSharedLine cores T S d l
      by_beside (inl b) = let before = b.before in record { other = y.other; near = inl (b.from, b.before); stored = (low, stores); touched = (omega (arith, before, low), y.touches) }
      by_beside (inr b) = record { other = y.other; near = inr (b.from, b.before); stored = (low, stores); touched = (alone d y.other b, y.touches) }

  overflow_none : (o : SharedOverflowInOrder image cores) (n : ℕ) → n ≤ image.machine.buffer_lines → IsCount (line_count image) cores T S o.later n → ⊥
  overflow_none o n most count =
      let low = alone o.earlier o.later o.beside in
      let before = o.beside.before in
      let early : IsEarly cores T S o.later = record {
        line = o.line;
        earlier = o.earlier;
        near = (o.beside.from, o.beside.before);
        stored = (low, o.stores);
        touched = (omega (arith, before, low), o.touches);
      } in
      by_count low early count
    where
      by_count : o.later < bound → IsEarly cores T S o.later → IsCount (line_count image) cores T S o.later n → ⊥
      by_count low early (inr y) = y.0 early
      by_count low early (inl y) =
          let before = o.beside.before in
          let less = few_others (line_count image) (IsSharedLine cores T S o.later) n o.line o.bound o.others
          (record { other = o.earlier; near = inl (o.beside.from, o.beside.before); stored = (low, o.stores); touched = (omega (arith, before, low), o.touches) }) y.1 o.apart
          (λ k d below. let one = o.each k d below in (one.0, shared_before o.later _ low one.1 one.2)) in
          let full = o.full in omega (arith, less, full, most)

  pub no_overflow : SharedOverflowInOrder image cores → ⊥
  no_overflow o = overflow_none o (slice_index t.counts o.later) (kept.shares.most kept.clear o.later) (kept.shares.counts o.later)
