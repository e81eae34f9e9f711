-- One epoch in order: what is kept while it runs, and when it ends.
use Rattle.std.proofs.Common.{◌≡◌, ◌≢◌, ◌⊎◌, ℕ, zero, suc, ◌+◌, ◌-◌, ◌<◌, ◌≤◌, Bool, List, length, slice_index, Option, Some, None, refl, sym, ap, subst, ◌∙◌, inl, inr, arith, add-one}
use Rattle.std.proofs.lemmas.Bool.{cases_eq, cases_lt}
use Rattle.rv32_image.specs.Image.{LoadedImage}
use Rattle.memory_bytes.specs.Bytes.{number_at, with_number}
use Rattle.memory_bytes.specs.Maps.{joined, nothing, over, stored}
use Rattle.memory_bytes.proofs.Bytes.{number_at_same}
use Rattle.rv32_exec.specs.declared.stop.Stop.TheVariants as stop
use Rattle.rv32_exec.specs.declared.sequential.End.TheVariants as end
use Rattle.rv32_exec.specs.Hart.{HartState, start_of, stepped}
use Rattle.rv32_exec.specs.Execute.{Stops, hart_effect}
use Rattle.rv32_exec.specs.NextEvent.{next_event}
use Rattle.rv32_exec.specs.Arrival.{after_number}
use Rattle.rv32_exec.specs.Sequential.{SequentialResult, after_stop, first_epochs}
use Rattle.rv32_exec.specs.Laws.{HasStopped}
use Rattle.rv32_exec.proofs.LawsOfRuns.{later_event}
use Rattle.spec_history.proofs.OneEntry.Accesses.{load_counts}
use Rattle.epoch_paths.specs.Paths.{Stores}
use Rattle.epoch_paths.specs.InOrder.{IsInOrder, memory_before}
use Rattle.dependences.specs.Nearest.{Depends, IsNearest}
use Rattle.epoch_paths.specs.Kept.{IsMarked}
use Rattle.dependences.specs.Kept.{AreKept, DependsBefore, IsLastWriter, IsLeast, behind, load_behind}
use Rattle.dependences.specs.KeptRun.{DependsUpTo, Following, before_it, by_it}
use Rattle.epoch_paths.proofs.Paths.{access_stops, at_start, covered, either, load_after, neither, now_step, past_load, past_store, path_stores, reads_there, start_after, store_after}
use Rattle.dependences.proofs.Writers.{IsBehind, behind_is, is_behind, least_so, load_least}
use Rattle.epoch_paths.proofs.Following.{same_load, unmarked, no_both, hart_there, load_late, all_loaded, all_stored}

-- ---- who wrote last

last_below : (image : LoadedImage) (epoch a writer : ℕ) → IsLastWriter image epoch a writer → writer ≤ epoch + 1
last_below image epoch a zero last = omega arith
last_below image epoch a (suc writer) last = let before = last.0 in omega (arith, before)

pub writers_below : (image : LoadedImage) (epoch : ℕ) (memory writers : List ℕ) (h : HartState) (nearest : Option ℕ) → Following image epoch memory writers h nearest
    → (a : ℕ) → slice_index writers a ≤ epoch + 1
writers_below image epoch memory writers h nearest x a = by_own (x.own a) refl
  where
    by_own : (o : Option ℕ) → x.own a ≡ o → slice_index writers a ≤ epoch + 1
    by_own (Some byte) is = let mine = x.mine a byte is in omega (arith, mine)
    by_own None is = last_below image epoch a (slice_index writers a) (x.others a is)

-- ---- the start

start_back : (image : LoadedImage) (epoch k : ℕ) → DependsUpTo image epoch 0 k → DependsBefore image epoch k
start_back image epoch k (before_it x) = x
start_back image epoch k (by_it earlier apart depends none) = absurd (omega (arith, none))

pub following_start : (image : LoadedImage) (epoch : ℕ) (memory writers : List ℕ) (nearest : Option ℕ) → length memory ≡ image.size
    → first_epochs image epoch ≡ record { end = end.Done epoch; bytes = memory } → AreKept image epoch writers nearest
    → Following image epoch memory writers (start_of image epoch) nearest
following_start image epoch memory writers nearest long done kept =
    let bytes : memory_before image epoch ≡ memory = ap (λ (r : SequentialResult). r.bytes) done in
    let long' : length (memory_before image epoch) ≡ image.size = ap (λ m. length m) bytes ∙ long in record {
      own = nothing;
      at = at_start image epoch (memory_before image epoch) long';
      is = start_after image epoch (memory_before image epoch) long' ∙ bytes;
      long = kept.long;
      mine = λ a byte is. absurd cc;
      others = λ a none. kept.writer a;
      least = least_so (DependsBefore image epoch) (DependsUpTo image epoch 0) (λ k x. before_it x) (λ k x. (k, omega arith, start_back image epoch k x)) nearest kept.least;
    }

-- ---- a load

widen : (image : LoadedImage) (epoch done done' k : ℕ) → done ≤ done' → DependsUpTo image epoch done k → DependsUpTo image epoch done' k
widen image epoch done done' k more (before_it x) = before_it x
widen image epoch done done' k more (by_it earlier apart depends low) = by_it earlier apart depends (omega (arith, low, more))

-- the last writer of a byte that somebody wrote
pub last_of : (image : LoadedImage) (epoch a writer : ℕ) → IsLastWriter image epoch a writer → writer ≢ 0
    → (d : ℕ) × (writer ≡ d + 1) × (d < epoch) × Stores image d (memory_before image d) a
last_of image epoch a zero last some = absurd (some refl)
last_of image epoch a (suc d) last some = (d, omega arith, last.0, last.1)

-- and it is no earlier than any other
pub last_most : (image : LoadedImage) (epoch a writer d : ℕ) → IsLastWriter image epoch a writer → d < epoch → Stores image d (memory_before image d) a
    → (writer ≢ 0) × (writer ≢ epoch + 1) × (d + 1 ≤ writer)
last_most image epoch a zero d last low stores = absurd (last d low stores)
last_most image epoch a (suc e) d last low stores = let most = last.2 d low stores in let less = last.0 in (omega arith, omega (arith, less), omega (arith, most))

module _ (image : LoadedImage) (epoch : ℕ) (memory writers : List ℕ) (h : HartState) (nearest : Option ℕ) (x : Following image epoch memory writers h nearest)
    (order : IsInOrder image epoch) (in_loop : epoch < image.epochs) where
  depends_now : (address width : ℕ) (signed : Bool) (rd i k : ℕ) → (next_event image h).at ≡ stop.Load address width signed rd → i < width
      → behind epoch (slice_index writers (address + i)) ≡ Some k → (o : Option ℕ) → x.own (address + i) ≡ o → DependsUpTo image epoch ((next_event image h).now.done + 1) k
  depends_now address width signed rd i k is within far (Some byte) own =
      let other = (behind_is epoch (slice_index writers (address + i)) k far).1 in absurd (other (x.mine (address + i) byte own))
  depends_now address width signed rd i k is within far None own =
      let parts = behind_is epoch (slice_index writers (address + i)) k far in
      let last = last_of image epoch (address + i) (slice_index writers (address + i)) (x.others (address + i) own) parts.0 in
      let number = last.1 in
      let less = last.2 in
      let distance = parts.2 in
      by_it last.0 (omega (arith, number, less, distance)) (record {
        byte = address + i;
        before = less;
        within = in_loop;
        in_order = order;
        stores = last.3;
        reads = reads_there image epoch (memory_before image epoch) h x.own x.at address width signed rd (address + i) is (omega arith) (omega (arith, within)) own;
      }) (now_step image epoch (memory_before image epoch) h x.own x.at address width signed rd (address + i) is (omega arith) (omega (arith, within)) own)

  load_to : (address width : ℕ) (signed : Bool) (rd k done : ℕ) → (next_event image h).at ≡ stop.Load address width signed rd → done ≡ (next_event image h).now.done + 1 → h.done ≤ done
      → DependsUpTo image epoch h.done k ⊎ IsBehind writers epoch address width k → DependsUpTo image epoch done k
  load_to address width signed rd k done is count later (inl before) = widen image epoch h.done done k later before
  load_to address width signed rd k done is count later (inr q) =
      subst (λ n. DependsUpTo image epoch n k) (sym count) (depends_now address width signed rd q.i k is q.within q.far (x.own (address + q.i)) refl)

  behind_now : (address width : ℕ) (signed : Bool) (rd earlier k : ℕ) → (next_event image h).at ≡ stop.Load address width signed rd → epoch ≡ earlier + k
      → (depends : Depends image earlier epoch) → h.done ≤ depends.reads.step → (address ≤ depends.byte) × (depends.byte < address + width)
      → (o : Option ℕ) → x.own depends.byte ≡ o → (j : ℕ) × (j ≤ k) × (DependsUpTo image epoch h.done j ⊎ IsBehind writers epoch address width j)
  behind_now address width signed rd earlier k is apart depends from covers (Some byte) own =
      let stored = x.at.early depends.byte byte own in
      let early = stored.1 in absurd (depends.reads.exposed stored.0 (omega (arith, early, from)) stored.2)
  behind_now address width signed rd earlier k is apart depends from covers None own =
      let last = last_most image epoch depends.byte (slice_index writers depends.byte) earlier (x.others depends.byte own) depends.before depends.stores in
      let low = covers.0 in
      let high = covers.1 in
      let most = last.2 in
      let place : address + (depends.byte - address) ≡ depends.byte = omega (arith, low) in (
        epoch + 1 - slice_index writers depends.byte,
        omega (arith, most, apart),
        inr (record {
          i = depends.byte - address;
          within = omega (arith, low, high);
          far = ap (λ a. behind epoch (slice_index writers a)) place ∙ is_behind epoch (slice_index writers depends.byte) last.0 last.1;
        }),
      )

  load_back : (address width : ℕ) (signed : Bool) (rd k done : ℕ) → (next_event image h).at ≡ stop.Load address width signed rd → done ≡ (next_event image h).now.done + 1
      → DependsUpTo image epoch done k → (j : ℕ) × (j ≤ k) × (DependsUpTo image epoch h.done j ⊎ IsBehind writers epoch address width j)
  load_back address width signed rd k done is count (before_it y) = (k, omega arith, inl (before_it y))
  load_back address width signed rd k done is count (by_it earlier apart depends low) = elim (cases_lt depends.reads.step h.done) [
    | inl before ↦ (k, omega arith, inl (by_it earlier apart depends before))
    | inr from ↦
        (let past = load_late image epoch (memory_before image epoch) h x.own x.at depends.byte depends.reads.step depends.reads.there from in
        let here = hart_there image epoch (memory_before image epoch) h x.own x.at depends.reads.step depends.reads.there.hart depends.reads.there.after
        (omega (arith, past, low, count)) depends.reads.there.runs in
        let covers = same_load (hart_effect image (next_event image h).now) address width signed rd depends.reads.there.address depends.reads.there.width depends.reads.there.signed
        depends.reads.there.rd depends.byte (access_stops image h (rw is tt) ∙ ap Stops is) (ap (hart_effect image) here ∙ depends.reads.there.stops)
        depends.reads.there.from depends.reads.there.below in
        behind_now address width signed rd earlier k is apart depends from covers (x.own depends.byte) refl)
  ]

  pub following_load : (address width : ℕ) (signed : Bool) (rd value : ℕ) → (next_event image h).at ≡ stop.Load address width signed rd
      → number_at (λ a. slice_index memory a) address width ≡ value
      → Following image epoch memory writers (after_number (next_event image h).now (next_event image h).at value) (load_behind writers epoch address width nearest)
  following_load address width signed rd value is number =
      let own = number_at_same (over x.own (λ a. slice_index (memory_before image epoch) a)) (λ a. slice_index memory a) address width
      (λ a low high. x.at.holds.bytes a ∙ ap (λ m. slice_index m a) x.is) ∙ number in
      let count = load_counts image h address width signed rd value is in
      let later = later_event image h in record {
        own = x.own;
        at = past_load image epoch (memory_before image epoch) h x.own address width signed rd value x.at is own;
        is = load_after image epoch (memory_before image epoch) h x.own address width signed rd value x.at is own ∙ x.is;
        long = x.long;
        mine = x.mine;
        others = x.others;
        least = least_so (λ k. DependsUpTo image epoch h.done k ⊎ IsBehind writers epoch address width k) (DependsUpTo image epoch _)
            (λ k either. load_to address width signed rd k _ is count (omega (arith, count, later)) either)
            (λ k y. load_back address width signed rd k _ is count y) (load_behind writers epoch address width nearest)
            (load_least (DependsUpTo image epoch h.done) writers epoch address nearest x.least width);
      }

-- ---- a store

module _ (image : LoadedImage) (epoch : ℕ) (memory writers : List ℕ) (h : HartState) (nearest : Option ℕ) (x : Following image epoch memory writers h nearest) where
  mine_by : (writers' : List ℕ) (address width value a byte : ℕ) → IsMarked writers writers' address width (epoch + 1) → (o : Option ℕ) → stored address width value a ≡ o
      → ((b : ℕ) × (stored address width value a ≡ Some b)) ⊎ (x.own a ≡ Some byte) → slice_index writers' a ≡ epoch + 1
  mine_by writers' address width value a byte marked (Some b) is either = let within = covered address width value a b is in marked.here a within.0 within.1
  mine_by writers' address width value a byte marked None is (inl now) = let some = now.1 in absurd cc
  mine_by writers' address width value a byte marked None is (inr before) = unmarked writers writers' address width (epoch + 1) value a marked is ∙ x.mine a byte before

  store_back : (address width value k : ℕ) → (next_event image h).at ≡ stop.Store address width value → DependsUpTo image epoch ((next_event image h).now.done + 1) k
      → (j : ℕ) × (j ≤ k) × DependsUpTo image epoch h.done j
  store_back address width value k is (before_it y) = (k, omega arith, before_it y)
  store_back address width value k is (by_it earlier apart depends low) = elim (cases_lt depends.reads.step h.done) [
    | inl before ↦ (k, omega arith, by_it earlier apart depends before)
    | inr from ↦
        (let past = load_late image epoch (memory_before image epoch) h x.own x.at depends.byte depends.reads.step depends.reads.there from in
        let here = hart_there image epoch (memory_before image epoch) h x.own x.at depends.reads.step depends.reads.there.hart depends.reads.there.after
        (omega (arith, past, low)) depends.reads.there.runs in
        absurd (no_both (hart_effect image (next_event image h).now) address width value depends.reads.there.address depends.reads.there.width depends.reads.there.signed
        depends.reads.there.rd (access_stops image h (rw is tt) ∙ ap Stops is) (ap (hart_effect image) here ∙ depends.reads.there.stops)))
  ]

  pub following_store : (writers' : List ℕ) (address width value : ℕ) → (next_event image h).at ≡ stop.Store address width value
      → length writers' ≡ length writers → IsMarked writers writers' address width (epoch + 1)
      → Following image epoch (with_number memory address width value) writers' (stepped (next_event image h).now) nearest
  following_store writers' address width value is long marked = record {
    own = joined (stored address width value) x.own;
    at = past_store image epoch (memory_before image epoch) h x.own address width value x.at is;
    is = store_after image epoch (memory_before image epoch) h x.own address width value x.at is ∙ ap (λ m. with_number m address width value) x.is;
    long = long ∙ x.long;
    mine = λ a byte some. mine_by writers' address width value a byte marked (stored address width value a) refl (either (stored address width value a) (x.own a) byte some);
    others = λ a none. let parts = neither (stored address width value a) (x.own a) none in
        subst (λ w. IsLastWriter image epoch a w) (sym (unmarked writers writers' address width (epoch + 1) value a marked parts.0)) (x.others a parts.1);
    least = least_so (DependsUpTo image epoch h.done) (DependsUpTo image epoch ((next_event image h).now.done + 1))
        (λ k y. let later = later_event image h in widen image epoch h.done ((next_event image h).now.done + 1) k (omega (arith, later)) y)
        (λ k y. store_back address width value k is y) nearest x.least;
  }

-- ---- the end

last_on : (image : LoadedImage) (epoch a writer : ℕ) → IsLastWriter image epoch a writer → (Stores image epoch (memory_before image epoch) a → ⊥) → IsLastWriter image (epoch + 1) a writer
last_on image epoch a zero last none = λ d low stores. elim (cases_eq d epoch) [
  | inl e ↦ none (subst (λ n. Stores image n (memory_before image n) a) e stores)
  | inr other ↦ last d (omega (arith, low, other)) stores
]
last_on image epoch a (suc w) last none =
    let less = last.0 in (
      omega (arith, less),
      last.1,
      λ d low stores. elim (cases_eq d epoch) [
        | inl e ↦ absurd (none (subst (λ n. Stores image n (memory_before image n) a) e stores))
        | inr other ↦ last.2 d (omega (arith, low, other)) stores
      ],
    )

-- where all epochs that depend on another are before this one, it is the least distance
pub nearest_of : (image : LoadedImage) (n : ℕ) (o : Option ℕ) → ((earlier later : ℕ) → Depends image earlier later → later < n) → IsLeast (DependsBefore image n) o → IsNearest image o
nearest_of image n None all least = λ earlier later depends.
    let before = depends.before in
    least (later - earlier) (record { earlier = earlier; later = later; apart = omega (arith, before); before = all earlier later depends; depends = depends })
nearest_of image n (Some k) all least =
    let one = least.0 in (
      (one.earlier, subst (λ l. Depends image one.earlier l) one.apart one.depends),
      λ earlier later depends. let before = depends.before in
          let most = least.1 (later - earlier) (record { earlier = earlier; later = later; apart = omega (arith, before); before = all earlier later depends; depends = depends }) in
          omega (arith, most, before),
    )

up_to : (image : LoadedImage) (epoch done k : ℕ) → DependsUpTo image epoch done k → DependsBefore image (epoch + 1) k
up_to image epoch done k (before_it y) =
    let before = y.before in record { earlier = y.earlier; later = y.later; apart = y.apart; before = omega (arith, before); depends = y.depends }
up_to image epoch done k (by_it earlier apart depends low) = record { earlier = earlier; later = epoch; apart = apart; before = omega arith; depends = depends }

module _ (image : LoadedImage) (epoch : ℕ) (old memory writers : List ℕ) (h : HartState) (nearest : Option ℕ) (x : Following image epoch memory writers h nearest)
    (done : first_epochs image epoch ≡ record { end = end.Done epoch; bytes = old }) (in_loop : epoch < image.epochs) where
  up_from : HasStopped (after_stop (next_event image h).now x.at.after (next_event image h).at) → (k : ℕ) → DependsBefore image (epoch + 1) k
      → (j : ℕ) × (j ≤ k) × DependsUpTo image epoch h.done j
  up_from stopped k y = elim (cases_eq y.later epoch) [
    | inl e ↦
        (let depends : Depends image y.earlier epoch = subst (λ l. Depends image y.earlier l) e y.depends in (
          k,
          omega arith,
          by_it y.earlier (sym e ∙ y.apart) depends
              (all_loaded image epoch (memory_before image epoch) h x.own x.at stopped depends.byte depends.reads.step depends.reads.there),
        ))
    | inr other ↦
        (let before = y.before in
        (k, omega arith, before_it (record { earlier = y.earlier; later = y.later; apart = y.apart; before = omega (arith, before, other); depends = y.depends })))
  ]

  least_after : HasStopped (after_stop (next_event image h).now x.at.after (next_event image h).at) → IsLeast (DependsBefore image (epoch + 1)) nearest
  least_after stopped =
      least_so (DependsUpTo image epoch h.done) (DependsBefore image (epoch + 1)) (λ k y. up_to image epoch h.done k y) (λ k y. up_from stopped k y) nearest x.least

  writer_by : HasStopped (after_stop (next_event image h).now x.at.after (next_event image h).at) → (a : ℕ) (o : Option ℕ) → x.own a ≡ o
      → IsLastWriter image (epoch + 1) a (slice_index writers a)
  writer_by stopped a (Some byte) is =
      subst (λ w. IsLastWriter image (epoch + 1) a w) (sym (x.mine a byte is ∙ add-one epoch))
      (omega arith, path_stores x.at a byte is, λ d low stores. omega (arith, low))
  writer_by stopped a None is =
      last_on image epoch a (slice_index writers a) (x.others a is) (all_stored image epoch (memory_before image epoch) h x.own x.at stopped a is)

  pub kept_after : HasStopped (after_stop (next_event image h).now x.at.after (next_event image h).at) → AreKept image (epoch + 1) writers nearest
  kept_after stopped = record { long = x.long; writer = λ a. writer_by stopped a (x.own a) refl; least = least_after stopped }
