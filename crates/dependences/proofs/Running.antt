-- What is kept of an epoch while it runs in order, at any of its harts.
use Rattle.std.proofs.Common.{◌≡◌, ◌⊎◌, ℕ, ◌+◌, ◌-◌, ◌<◌, ◌≤◌, Bool, false, List, length, length-append, ◌++◌, Option, Some, None, slice_index, refl, sym, ap, subst, ◌∙◌, ◌∷◌, [], inl, inr, arith}
use Rattle.memory_bytes.specs.Bytes.{number_at, with_number}
use Rattle.rv32_image.specs.Image.{LoadedImage}
use Rattle.rv32_exec.specs.declared.stop.Stop.{Stop}
use Rattle.rv32_exec.specs.declared.stop.Stop.TheVariants as stop
use Rattle.rv32_exec.specs.declared.sequential.End.TheVariants as end
use Rattle.rv32_exec.specs.Hart.{HartState, start_of, stepped}
use Rattle.rv32_exec.specs.Execute.{Executes, Stops, after_load, hart_effect}
use Rattle.rv32_exec.specs.Interpreter.{IsNoAccess}
use Rattle.rv32_exec.specs.NextEvent.{Event, next_event}
use Rattle.rv32_exec.specs.Arrival.{after_number}
use Rattle.rv32_exec.specs.Notes.{LoadsNext, StoresNext}
use Rattle.rv32_exec.specs.Sequential.{after_stop, first_epochs}
use Rattle.rv32_exec.specs.Laws.{HasStopped}
use Rattle.rv32_exec.proofs.Runs.{next_event-executes, next_event-stops}
use Rattle.dependences.specs.declared.flow.Dependence.{Dependence}
use Rattle.dependences.specs.declared.flow.Flow.{Flow}
use Rattle.epoch_paths.specs.InOrder.{memory_before, AreAll}
use Rattle.epoch_paths.specs.Kept.{CanRun, IsNext, next_runs}
use Rattle.dependences.specs.Kept.{AreKept, IsLeast, IsNearestOf, behind, load_behind, nearer}
use Rattle.dependences.specs.KeptStores.{AreMarked, AreStoresKept, IsNearest, IsNearestByte, IsNoted, Stores, nearest_after, noted, noted_at}
use Rattle.dependences.specs.Flow.{AreDependences}
use Rattle.epoch_paths.specs.Lengths.{Lasts}
use Rattle.dependences.specs.Nearest.{Depends, IsLaterAt, IsNearestLater}
use Rattle.dependences.specs.KeptRun.{IsLoadKept, Flowing, Following, HaveAllRun, IsFlowKept, IsKeptUpTo, IsRight, IsRunKept}
use Rattle.epoch_paths.proofs.InOrder.{runs_in_order}
use Rattle.dependences.proofs.Following.{following_load, following_start, following_store, kept_after, nearest_of, writers_below}
use Rattle.dependences.proofs.Flowing.{all_dependences, flowing_load, flowing_path, flowing_start, flowing_store, kept_on}
use Rattle.epoch_paths.proofs.Outside.{done_before, lasts, lasts_more, next_so}
use Rattle.dependences.proofs.Writers.{IsBehind, behind_is, is_behind, least_nearer, least_some, load_least}

-- ---- between loads and stores

pub still_right : {F : Type 0} (keeps : F → List Dependence → Type 0) (image : LoadedImage) (flow : Flow F) (h after : HartState) (memory : List ℕ)
    → hart_effect image h ≡ Executes after → IsRight keeps image flow h memory → IsRight keeps image flow after memory
still_right keeps image flow h after memory executes x = record {
  limits = x.limits;
  long = x.long;
  within = x.within;
  order = x.order;
  kept = λ room.
      let k = x.kept room in record {
        found = k.found;
        list = k.list;
        from = k.from;
        same = k.same ∙ next_event-executes image h after executes;
        flowing = k.flowing;
        following = k.following;
        later = k.later;
      };
}

-- ---- the nearest epoch

least_same : (P : ℕ → Type 0) (o o' : Option ℕ) → IsLeast P o → IsLeast P o' → o ≡ o'
least_same P None None one other = refl
least_same P None (Some m) one other = absurd (one m other.0)
least_same P (Some n) None one other = absurd (other n one.0)
least_same P (Some n) (Some m) one other = let low = one.1 m other.0 in let high = other.1 n one.0 in ap Some (omega (arith, low, high))

nearer_none : (o : Option ℕ) → nearer o None ≡ o
nearer_none None = refl
nearer_none (Some n) = refl

-- of the bytes of a load, the one of the latest earlier epoch is the nearest
behind_least : (writers : List ℕ) (epoch address width byte : ℕ) → ((a : ℕ) → slice_index writers a ≤ epoch + 1) → IsNearest writers epoch address width byte
    → IsLeast (IsBehind writers epoch address width) (Some (epoch + 1 - slice_index writers byte))
behind_least writers epoch address width byte below near = (
  record {
    i = byte - address;
    within = let low = near.from in let high = near.below in omega (arith, low, high);
    far =
        let same : address + (byte - address) ≡ byte = (let low = near.from in omega (arith, low)) in
        let some = near.some in
        let earlier = near.earlier in
        ap (λ a. behind epoch (slice_index writers a)) same
        ∙ is_behind epoch (slice_index writers byte) (λ none. omega (arith, none, some)) (λ own. omega (arith, own, earlier));
  },
  λ k other.
      let far = behind_is epoch (slice_index writers (address + other.i)) k other.far in
      let most = below (address + other.i) in
      let some = far.0 in
      let another = far.1 in
      let is = far.2 in
      let earlier : slice_index writers (address + other.i) ≤ epoch = omega (arith, most, another) in
      elim (near.nearest (address + other.i) (omega arith) (let within = other.within in omega (arith, within)) earlier) [
        | inl less ↦ omega (arith, less, is)
        | inr same ↦ (let e = same.0 in omega (arith, e, is))
      ],
)

behind_none : (writers : List ℕ) (epoch address width : ℕ) → ((a : ℕ) → slice_index writers a ≤ epoch + 1) → IsNearestByte writers epoch address width None
    → IsLeast (IsBehind writers epoch address width) None
behind_none writers epoch address width below none = λ k other.
    let far = behind_is epoch (slice_index writers (address + other.i)) k other.far in
    let most = below (address + other.i) in
    let some = far.0 in
    let another = far.1 in
    some (none (address + other.i) (omega arith) (let within = other.within in omega (arith, within)) (omega (arith, most, another)))

-- how near epochs depend on each other after a load
pub nearest_by : (writers : List ℕ) (epoch address width : ℕ) (byte nearest : Option ℕ) → ((a : ℕ) → slice_index writers a ≤ epoch + 1)
    → IsNearestByte writers epoch address width byte → load_behind writers epoch address width nearest ≡ nearest_after writers epoch byte nearest
nearest_by writers epoch address width (Some byte) nearest below near =
    least_same (λ k. (nearest ≡ Some k) ⊎ IsBehind writers epoch address width k) _ _
    (load_least (λ k. nearest ≡ Some k) writers epoch address nearest (least_some nearest) width)
    (least_nearer (λ k. nearest ≡ Some k) (IsBehind writers epoch address width) nearest (Some (epoch + 1 - slice_index writers byte)) (least_some nearest)
    (behind_least writers epoch address width byte below near))
nearest_by writers epoch address width None nearest below near =
    least_same (λ k. (nearest ≡ Some k) ⊎ IsBehind writers epoch address width k) _ _
    (load_least (λ k. nearest ≡ Some k) writers epoch address nearest (least_some nearest) width)
    (least_nearer (λ k. nearest ≡ Some k) (IsBehind writers epoch address width) nearest None (least_some nearest)
    (behind_none writers epoch address width below near))
    ∙ nearer_none nearest

-- ---- a load

noted_same : (s : Stores) (epoch : ℕ) (h : HartState) (byte : Option ℕ) (list : List Dependence) → noted_at s epoch h.pc h.done byte list ≡ noted s epoch h byte list
noted_same s epoch h None list = refl
noted_same s epoch h (Some byte) list = refl

kept_load : {F : Type 0} (keeps : F → List Dependence → Type 0) (image : LoadedImage) (old new : Flow F) (h : HartState) (memory : List ℕ) (address width : ℕ) (signed : Bool) (rd : ℕ)
    → IsRight keeps image old h memory → hart_effect image h ≡ Stops (stop.Load address width signed rd) → IsLoadKept keeps old new h.pc h.done address width
    → IsKeptUpTo keeps image new (after_load h width signed rd (number_at (λ a. slice_index memory a) address width)) memory
kept_load keeps image old new h memory address width signed rd x stops it =
    let k = x.kept it.room in
    let number = number_at (λ a. slice_index memory a) address width in
    let list' = noted_at old.stores old.epoch h.pc h.done it.byte k.found in
    let come : next_event image k.from ≡ record { now = h; at = stop.Load address width signed rd } = k.same ∙ next_event-stops image h _ stops in
    let is : (next_event image k.from).at ≡ stop.Load address width signed rd = ap (λ (e : Event). e.at) come in
    let note : IsNoted old.stores old.epoch (next_event image k.from).now address width k.found list' =
    subst (λ (g : HartState). IsNoted old.stores old.epoch g address width k.found list') (sym (ap (λ (e : Event). e.now) come))
    (record { byte = it.byte; nearest = it.near; list = noted_same old.stores old.epoch h it.byte k.found }) in
    let flowing = flowing_load image old.epoch memory old.stores k.from k.found k.flowing x.order x.within address width signed rd number list' is refl note in
    let following = following_load image old.epoch memory old.stores.writers k.from old.nearest k.following x.order x.within address width signed rd number is refl in
    let below = writers_below image old.epoch memory old.stores.writers k.from old.nearest k.following in
    let after = after_load h width signed rd number in
    record {
      found = list';
      list = it.found k.found k.list;
      from = after;
      same = refl;
      flowing = rw (it.epoch, it.stores) (subst (λ (e : Event). Flowing image old.epoch memory old.stores (after_number e.now e.at number) list') come flowing);
      following = rw (it.epoch, it.stores, it.nearest, ← nearest_by old.stores.writers old.epoch address width it.byte old.nearest below it.near)
          (subst (λ (e : Event). Following image old.epoch memory old.stores.writers (after_number e.now e.at number) (load_behind old.stores.writers old.epoch address width old.nearest)) come following);
      later = it.later k.found k.later;
    }

pub right_load : {F : Type 0} (keeps : F → List Dependence → Type 0) (image : LoadedImage) (old new : Flow F) (h : HartState) (memory : List ℕ) (pc done address width : ℕ) (signed : Bool) (rd : ℕ)
    → IsRight keeps image old h memory → LoadsNext image h pc done address width signed rd → new.epoch ≡ old.epoch → new.stores ≡ old.stores
    → (new.is_full ≡ false → IsLoadKept keeps old new pc done address width)
    → IsRight keeps image new (after_load h width signed rd (number_at (λ a. slice_index memory a) address width)) memory
right_load keeps image old new h memory pc done address width signed rd x next epoch stores it = record {
  limits = x.limits;
  long = rw stores x.long;
  within = rw epoch x.within;
  order = rw epoch x.order;
  kept = λ room. kept_load keeps image old new h memory address width signed rd x next.stops
      (subst (λ p. IsLoadKept keeps old new p h.done address width) (sym next.pc_is) (subst (λ d. IsLoadKept keeps old new pc d address width) (sym next.done_is) (it room)));
}

-- ---- a store

pub right_store : {F : Type 0} (keeps : F → List Dependence → Type 0) (image : LoadedImage) (old new : Flow F) (h : HartState) (memory : List ℕ) (pc done address width value : ℕ)
    → IsRight keeps image old h memory → StoresNext image h pc done address width value → new.epoch ≡ old.epoch → new.found ≡ old.found → new.nearest ≡ old.nearest → new.later ≡ old.later → new.is_full ≡ old.is_full
    → AreMarked old.stores new.stores address width (old.epoch + 1) done pc
    → IsRight keeps image new (stepped h) (with_number memory address width value)
right_store keeps image old new h memory pc done address width value x next epoch found nearest later full marked = record {
  limits = x.limits;
  long = record { writers = marked.writers_long ∙ x.long.writers; steps = marked.steps_long ∙ x.long.steps; pcs = marked.pcs_long ∙ x.long.pcs };
  within = rw epoch x.within;
  order = rw epoch x.order;
  kept = λ room.
      let k = x.kept (sym full ∙ room) in
      let come : next_event image k.from ≡ record { now = h; at = stop.Store address width value } = k.same ∙ next_event-stops image h _ next.stops in
      let is : (next_event image k.from).at ≡ stop.Store address width value = ap (λ (e : Event). e.at) come in
      let here : (next_event image k.from).now ≡ h = ap (λ (e : Event). e.now) come in
      let mark : AreMarked old.stores new.stores address width (old.epoch + 1) (next_event image k.from).now.done (next_event image k.from).now.pc = rw (here, next.pc_is, next.done_is) marked in
      record {
        found = k.found;
        list = rw found k.list;
        from = stepped h;
        same = refl;
        flowing = rw epoch (subst (λ (g : HartState). Flowing image old.epoch (with_number memory address width value) new.stores (stepped g) k.found) here
            (flowing_store image old.epoch memory old.stores k.from k.found k.flowing new.stores address width value is mark));
        following = rw (epoch, nearest) (subst (λ (g : HartState). Following image old.epoch (with_number memory address width value) new.stores.writers (stepped g) old.nearest) here
            (following_store image old.epoch memory old.stores.writers k.from old.nearest k.following new.stores.writers address width value is marked.writers_long marked.writers));
        later = rw (nearest, later) k.later;
      };
}

-- ---- the end

pub stopped_so : (h : HartState) (memory : List ℕ) (at : Stop) → IsNoAccess at → HasStopped (after_stop h memory at)
stopped_so h memory (stop.Load address width signed rd) none = absurd none
stopped_so h memory (stop.Store address width value) none = absurd none
stopped_so h memory stop.Ended none = tt
stopped_so h memory (stop.Fault cause pc) none = tt

-- what is kept of an epoch that has come to its end or fault
pub record IsEnded {F : Type 0} (keeps : F → List Dependence → Type 0) (image : LoadedImage) (flow : Flow F) (epoch : ℕ) (h : HartState) (at : Stop) (memory : List ℕ) : Type 0 where
  pub kept : IsFlowKept keeps image (epoch + 1) flow
  pub lasts : Lasts image epoch h.done
  pub next : IsNext image (epoch + 1) memory (next_runs image h at)

ended : {F : Type 0} (keeps : F → List Dependence → Type 0) (image : LoadedImage) (flow : Flow F) (h : HartState) (at : Stop) (first memory : List ℕ)
    → IsRight keeps image flow h memory → flow.is_full ≡ false → hart_effect image h ≡ Stops at → IsNoAccess at
    → first_epochs image flow.epoch ≡ record { end = end.Done flow.epoch; bytes = first } → IsEnded keeps image flow flow.epoch h at memory
ended keeps image flow h at first memory x room stops none before =
    let k = x.kept room in
    let come : next_event image k.from ≡ record { now = h; at = at } = k.same ∙ next_event-stops image h at stops in
    let path = flowing_path image flow.epoch memory flow.stores k.from k.found k.flowing in
    let stopped : HasStopped (after_stop (next_event image k.from).now path.at.after (next_event image k.from).at) =
    subst (λ (e : Event). HasStopped (after_stop e.now path.at.after e.at)) (sym come) (stopped_so h path.at.after at none) in
    record {
      kept = record {
        found = k.found;
        list = k.list;
        stores = kept_on image flow.epoch memory flow.stores k.from k.found k.flowing
            (subst (λ (e : Event). HasStopped (after_stop e.now k.flowing.at.after e.at)) (sym come) (stopped_so h k.flowing.at.after at none));
        writers = kept_after image flow.epoch first memory flow.stores.writers k.from flow.nearest k.following before x.within
            (subst (λ (e : Event). HasStopped (after_stop e.now k.following.at.after e.at)) (sym come) (stopped_so h k.following.at.after at none));
        later = k.later;
        room = room;
      };
      lasts = subst (λ (e : Event). Lasts image flow.epoch e.now.done) come (lasts image flow.epoch (memory_before image flow.epoch) memory k.from path refl stopped);
      next = subst (λ (e : Event). IsNext image (flow.epoch + 1) memory (next_runs image e.now e.at)) come
          (next_so image flow.epoch (memory_before image flow.epoch) memory k.from path (done_before image flow.epoch first before) stopped);
    }

pub ended_at : {F : Type 0} (keeps : F → List Dependence → Type 0) (image : LoadedImage) (flow : Flow F) (epoch : ℕ) (h : HartState) (at : Stop) (first memory : List ℕ) {was : ℕ}
    → was ≡ epoch → flow.epoch ∷ [] ≡ was ∷ [] → IsRight keeps image flow h memory → flow.is_full ≡ false → hart_effect image h ≡ Stops at → IsNoAccess at
    → first_epochs image epoch ≡ record { end = end.Done epoch; bytes = first } → IsEnded keeps image flow epoch h at memory
ended_at keeps image flow epoch h at first memory {was} is fixed x room stops none before =
    let same : flow.epoch ≡ was = cc in
    subst (λ n. IsEnded keeps image flow n h at memory) (same ∙ is)
    (ended keeps image flow h at first memory x room stops none (subst (λ n. first_epochs image n ≡ record { end = end.Done n; bytes = first }) (sym (same ∙ is)) before))

-- ---- the start

pub started_at : {F : Type 0} (keeps : F → List Dependence → Type 0) (image : LoadedImage) (flow : Flow F) (epoch : ℕ) (memory : List ℕ) → flow.epoch ≡ epoch → CanRun image epoch memory
    → first_epochs image epoch ≡ record { end = end.Done epoch; bytes = memory } → (found : List Dependence) → keeps flow.found found → AreStoresKept image epoch flow.stores found
    → AreKept image epoch flow.stores.writers flow.nearest → IsNearestOf found flow.nearest flow.later → IsRight keeps image flow (start_of image epoch) memory
started_at keeps image flow epoch memory is run before found list stores writers later = record {
  limits = run.limits;
  long = stores.long;
  within = rw is run.within;
  order = rw is (runs_in_order image epoch memory before);
  kept = λ room. record {
    found = found;
    list = list;
    from = start_of image epoch;
    same = refl;
    flowing = rw is (flowing_start image epoch memory flow.stores found run.size before stores);
    following = rw is (following_start image epoch memory flow.stores.writers flow.nearest run.size before writers);
    later = later;
  };
}

-- ---- the run

module _ {F : Type 0} (keeps : F → List Dependence → Type 0) (image : LoadedImage) where
  -- where no epoch has run
  pub run_begun : (flow : Flow F) (lengths : List ℕ) → IsFlowKept keeps image 0 flow → lengths ≡ [] → IsRunKept keeps image 0 flow lengths
  run_begun flow lengths kept none = record { kept = kept; long = ap length none; each = λ d low. absurd (omega (arith, low)) }

  -- one epoch more has run
  pub run_more : (epoch count : ℕ) (old : Flow F) (new : Flow F) (lengths lengths' : List ℕ) → IsRunKept keeps image epoch old lengths → IsFlowKept keeps image (epoch + 1) new → Lasts image epoch count
      → lengths' ≡ lengths ++ count ∷ [] → IsRunKept keeps image (epoch + 1) new lengths'
  run_more epoch count old new lengths lengths' was kept lasts is =
      let sum = length-append lengths (count ∷ []) in
      record { kept = kept; long = ap length is ∙ omega (arith, sum, was.long); each = lasts_more image epoch count lengths lengths' is was.long lasts was.each }

  -- all epochs have run
  pub all_run : (ran : ℕ) (flow : Flow F) (lengths : List ℕ) → AreAll image ran → IsRunKept keeps image ran flow lengths → HaveAllRun keeps image flow lengths
  all_run ran flow lengths all kept =
      let k = kept.kept in
      record {
        found = k.found;
        list = k.list;
        are = all_dependences image ran k.found all k.stores.list;
        later = k.later.later;
        nearest = nearest_of image ran flow.nearest (λ earlier later depends. all.no_more later depends.within depends.in_order) k.writers.least;
        lasts = record { all = subst (AreAll image) (sym kept.long) all; each = λ d low. kept.each d (subst (λ n. d < n) kept.long low) };
      }

-- ---- how near

-- the later epoch of a dependence depends on the earlier one
pub later_at : (image : LoadedImage) (found : List Dependence) (nearest : Option ℕ) (later : ℕ) → AreDependences image found → IsNearestLater found nearest later → IsLaterAt image nearest later
later_at image found None later are near = tt
later_at image found (Some distance) later are (place, one, at, apart, is) =
    let x = (are.each place one at).depends in
    let before = x.store.before in
    let depends : Depends image one.earlier one.later = record {
      byte = one.byte;
      before = before;
      within = x.within;
      in_order = x.in_order;
      stores = record { step = one.stored; there = x.store.there };
      reads = record { step = one.loaded; there = x.there; exposed = x.exposed };
    } in
    (one.earlier, subst (Depends image one.earlier) is depends, omega (arith, before, apart, is))
