-- One epoch in order: its loads that depend on earlier epochs, and the last store of each byte.
use Rattle.std.proofs.Common.{◌≡◌, ◌⊎◌, ℕ, zero, suc, ◌+◌, ◌-◌, ◌<◌, ◌≤◌, Bool, List, [], ◌∷◌, ◌++◌, length, slice_get, slice_index, Option, Some, None, refl, sym, ap, subst, ◌∙◌, inl, inr, arith, add-one}
use Rattle.std.proofs.lemmas.Bool.{cases_eq, cases_lt}
use Rattle.std.proofs.lemmas.Option.{slice_get_within}
use Rattle.rv32_image.specs.Image.{LoadedImage}
use Rattle.memory_bytes.specs.Bytes.{number_at, with_number}
use Rattle.memory_bytes.specs.Maps.{joined, nothing, stored}
use Rattle.memory_bytes.proofs.Bytes.{stored_within}
use Rattle.rv32_exec.specs.declared.stop.Stop.TheVariants as stop
use Rattle.rv32_exec.specs.declared.sequential.End.TheVariants as end
use Rattle.rv32_exec.specs.Hart.{HartState, start_of, stepped}
use Rattle.rv32_exec.specs.Execute.{Stops, hart_effect}
use Rattle.rv32_exec.specs.NextEvent.{next_event}
use Rattle.rv32_exec.specs.Arrival.{after_number}
use Rattle.rv32_exec.specs.Sequential.{SequentialResult, after_stop, first_epochs}
use Rattle.rv32_exec.specs.Laws.{HasStopped}
use Rattle.rv32_exec.proofs.LawsOfRuns.{later_event}
use Rattle.spec_history.proofs.OneEntry.Accesses.{load_counts}
use Rattle.dependences.specs.declared.flow.Dependence.{Dependence}
use Rattle.epoch_paths.specs.Paths.{LoadsAt, ReadsOutside, StoresAt}
use Rattle.epoch_paths.specs.InOrder.{IsInOrder, memory_before, AreAll}
use Rattle.epoch_paths.specs.Flow.{DependsAt, LastStore}
use Rattle.dependences.specs.Flow.{AreDependences, IsBefore, IsDependence}
use Rattle.dependences.specs.Nearest.{IsNearestLater}
use Rattle.dependences.specs.KeptStores.{AreBefore, AreMarked, IsNearest, IsNearestByte, IsNoted, IsStoredLast, Stores, AreStoresKept, dependence_of, noted}
use Rattle.epoch_paths.specs.Kept.{IsAt}
use Rattle.dependences.specs.KeptRun.{Flowing, IsMine}
use Rattle.epoch_paths.proofs.Paths.{access_stops, at_start, before_event, covered, either, load_after, load_hart, loads_there, neither, past_load, past_store, same_store, start_after, store_after, store_hart, stores_there}
use Rattle.epoch_paths.proofs.Following.{all_loaded, all_stored_early, hart_there, load_late, no_both, store_late, unmarked}
use Rattle.epoch_paths.proofs.Outside.{OnPath, read_by_load, read_by_store, seen_now}

-- ---- lists that grow at the end

got_old : {X : Type 0} (xs : List X) (y x : X) (k : ℕ) → slice_get xs k ≡ Some x → slice_get (xs ++ y ∷ []) k ≡ Some x
got_old [] y x k is = absurd cc
got_old (z ∷ xs) y x zero is = is
got_old (z ∷ xs) y x (suc k) is = got_old xs y x k is

got_new : {X : Type 0} (xs : List X) (y : X) → slice_get (xs ++ y ∷ []) (length xs) ≡ Some y
got_new [] y = refl
got_new (z ∷ xs) y = got_new xs y

-- one more dependence is the nearest now, or another still is
pub later_new : (list : List Dependence) (x : Dependence) → IsNearestLater (list ++ x ∷ []) (Some (x.later - x.earlier)) x.later
later_new list x = (length list, x, got_new list x, refl, refl)

pub later_old : (list : List Dependence) (x : Dependence) (nearest : Option ℕ) (later : ℕ) → IsNearestLater list nearest later → IsNearestLater (list ++ x ∷ []) nearest later
later_old list x (Some distance) later is = (is.0, is.1, got_old list x is.1 is.0 is.2, is.3, is.4)
later_old list x None later is = tt

pub got_either : {X : Type 0} (xs : List X) (y x : X) (k : ℕ) → slice_get (xs ++ y ∷ []) k ≡ Some x → (slice_get xs k ≡ Some x) ⊎ ((k ≡ length xs) × (y ≡ x))
got_either [] y x zero is = inr (refl, cc)
got_either [] y x (suc k) is = absurd cc
got_either (z ∷ xs) y x zero is = inl is
got_either (z ∷ xs) y x (suc k) is = elim (got_either xs y x k is) [
  | inl old ↦ inl old
  | inr new ↦ inr (ap suc new.0, new.1)
]

-- ---- last stores

-- one that is told of is the last
writer_is : (image : LoadedImage) (epoch a writer stored' pc d stored : ℕ) → IsStoredLast image epoch a writer stored' pc → LastStore image epoch a d stored → writer ≡ d + 1
writer_is image epoch a zero stored' pc d stored is last = absurd (is d stored last.before last.there)
writer_is image epoch a (suc e) stored' pc d stored is last = elim (is.0.last d stored last.before last.there) [
  | inl less ↦ elim (last.last e stored' is.0.before is.0.there) [
    | inl more ↦ absurd (omega (arith, less, more))
    | inr same ↦ (let e' = same.0 in omega (arith, e'))
  ]
  | inr same ↦ (let e' = same.0 in omega (arith, e'))
]

last_at : (image : LoadedImage) (epoch a writer stored pc : ℕ) → IsStoredLast image epoch a writer stored pc → 0 < writer
    → (last : LastStore image epoch a (writer - 1) stored) × (pc ≡ last.there.hart.pc)
last_at image epoch a zero stored pc is some = absurd (omega (arith, some))
last_at image epoch a (suc d) stored pc is some =
    let same : d ≡ suc d - 1 = omega arith in subst (λ n. (last : LastStore image epoch a n stored) × (pc ≡ last.there.hart.pc)) same is

last_on : (image : LoadedImage) (epoch a writer stored pc : ℕ) → IsStoredLast image epoch a writer stored pc
    → ((step : ℕ) → StoresAt image epoch (memory_before image epoch) step a → ⊥) → IsStoredLast image (epoch + 1) a writer stored pc
last_on image epoch a zero stored pc is none = λ d step low there. elim (cases_eq d epoch) [
  | inl e ↦ none step (subst (λ n. StoresAt image n (memory_before image n) step a) e there)
  | inr other ↦ is d step (omega (arith, low, other)) there
]
last_on image epoch a (suc w) stored pc is none =
    let less = is.0.before in (
      record {
        before = omega (arith, less);
        there = is.0.there;
        last = λ d step low there. elim (cases_eq d epoch) [
          | inl e ↦ absurd (none step (subst (λ n. StoresAt image n (memory_before image n) step a) e there))
          | inr other ↦ is.0.last d step (omega (arith, low, other)) there
        ];
      },
      is.1,
    )

-- what is stored last stays so where no more is stored
mine_on : (image : LoadedImage) (epoch done : ℕ) (h : HartState) (a writer stored' pc : ℕ) → h.done ≤ done
    → ((step : ℕ) → h.done ≤ step → step < done → StoresAt image epoch (memory_before image epoch) step a → ⊥)
    → IsMine image epoch h.done a writer stored' pc → IsMine image epoch done a writer stored' pc
mine_on image epoch done h a writer stored' pc more none mine = record {
  number = mine.number;
  there = mine.there;
  is = mine.is;
  last = λ step low there. elim (cases_lt step h.done) [
    | inl before ↦ mine.last step before there
    | inr from ↦ absurd (none step from low there)
  ];
}

pub flowing_start : (image : LoadedImage) (epoch : ℕ) (memory : List ℕ) (s : Stores) (list : List Dependence) → length memory ≡ image.size
    → first_epochs image epoch ≡ record { end = end.Done epoch; bytes = memory } → AreStoresKept image epoch s list
    → Flowing image epoch memory s (start_of image epoch) list
flowing_start image epoch memory s list long done kept =
    let bytes : memory_before image epoch ≡ memory = ap (λ (r : SequentialResult). r.bytes) done in
    let long' : length (memory_before image epoch) ≡ image.size = ap (λ m. length m) bytes ∙ long in record {
      own = nothing;
      at = at_start image epoch (memory_before image epoch) long';
      is = start_after image epoch (memory_before image epoch) long' ∙ bytes;
      long = kept.long;
      mine = λ a byte is. absurd cc;
      others = λ a none. kept.last a;
      list = kept.list;
    }

-- ---- what is before a step

further : (later loaded epoch done done' : ℕ) → done ≤ done' → IsBefore later loaded epoch done → IsBefore later loaded epoch done'
further later loaded epoch done done' more (inl less) = inl less
further later loaded epoch done done' more (inr same) = let low = same.1 in inr (same.0, omega (arith, low, more))

abbrev reads_of : (image : LoadedImage) (later loaded byte d step : ℕ) → DependsAt image later loaded byte d step → ReadsOutside image later (memory_before image later) byte
reads_of image later loaded byte d step x = record { step = loaded; there = x.there; exposed = x.exposed }

-- where no load between two steps of the epoch depends on another
still_before : (image : LoadedImage) (epoch done done' : ℕ) (list : List Dependence) → done ≤ done' → AreBefore image epoch done list
    → ((loaded byte d step : ℕ) → done ≤ loaded → loaded < done' → DependsAt image epoch loaded byte d step → ⊥) → AreBefore image epoch done' list
still_before image epoch done done' list more are none = record {
  each = λ k x got. let one = are.each k x got in (one.0, further x.later x.loaded epoch done done' more one.1);
  all = λ later loaded byte d step before depends. elim before [
    | inl less ↦ are.all later loaded byte d step (inl less) depends
    | inr same ↦ elim (cases_lt loaded done) [
      | inl low ↦ are.all later loaded byte d step (inr (same.0, low)) depends
      | inr from ↦ absurd (none loaded byte d step from same.1 (subst (λ n. DependsAt image n loaded byte d step) same.0 depends))
    ]
  ];
  in_order = are.in_order;
}

-- a load that depends on another is added
one_more_before : (image : LoadedImage) (epoch done n : ℕ) (list : List Dependence) (new : Dependence) → done ≤ n → AreBefore image epoch done list
    → IsDependence image new → new.later ≡ epoch → new.loaded ≡ n
    → ((loaded byte d step : ℕ) → done ≤ loaded → loaded < n + 1 → DependsAt image epoch loaded byte d step → loaded ≡ n) → AreBefore image epoch (n + 1) (list ++ new ∷ [])
one_more_before image epoch done n list new more are is later_is loaded_is only = record {
  each = λ k x got. elim (got_either list new x k got) [
    | inl old ↦ (let one = are.each k x old in (one.0, further x.later x.loaded epoch done (n + 1) (omega (arith, more)) one.1))
    | inr same ↦ subst (λ y. IsDependence image y × IsBefore y.later y.loaded epoch (n + 1)) same.1 (is, inr (later_is, omega (arith, loaded_is)))
  ];
  all = λ later loaded byte d step before depends. elim before [
    | inl less ↦ (let old = are.all later loaded byte d step (inl less) depends in (old.0, old.1, got_old list new old.1 old.0 old.2, old.3, old.4))
    | inr same ↦ elim (cases_lt loaded done) [
      | inl low ↦ (let old = are.all later loaded byte d step (inr (same.0, low)) depends in (old.0, old.1, got_old list new old.1 old.0 old.2, old.3, old.4))
      | inr from ↦
          (let here = only loaded byte d step from same.1 (subst (λ m. DependsAt image m loaded byte d step) same.0 depends) in
          (length list, new, got_new list new, later_is ∙ sym same.0, loaded_is ∙ sym here))
    ]
  ];
  in_order = λ j k x y got got' less. elim (got_either list new y k got') [
    | inl old ↦ elim (got_either list new x j got) [
      | inl old' ↦ are.in_order j k x y old' old less
      | inr same ↦ (let within = slice_get_within list k y old in let last = same.0 in absurd (omega (arith, less, within, last)))
    ]
    | inr same ↦ elim (got_either list new x j got) [
      | inl old' ↦
          (let before = further x.later x.loaded epoch done n more (are.each j x old').1 in
          subst (λ z. IsBefore x.later x.loaded z.later z.loaded) same.1 (rw (later_is, loaded_is) before))
      | inr same' ↦ (let last = same.0 in let last' = same'.0 in absurd (omega (arith, less, last, last')))
    ]
  ];
}

-- ---- a load

module _ (image : LoadedImage) (epoch : ℕ) (memory : List ℕ) (s : Stores) (h : HartState) (list : List Dependence) (x : Flowing image epoch memory s h list)
    (order : IsInOrder image epoch) (in_loop : epoch < image.epochs) where
  -- a load that depends on another, from the hart on, is its next event
  here_by : (address width : ℕ) (signed : Bool) (rd loaded byte d step : ℕ) → (next_event image h).at ≡ stop.Load address width signed rd
      → h.done ≤ loaded → loaded < (next_event image h).now.done + 1 → DependsAt image epoch loaded byte d step
      → (address ≤ byte) × (byte < address + width) × (slice_index s.writers byte ≡ d + 1) × (d < epoch)
  here_by address width signed rd loaded byte d step is from low depends =
      elim (read_by_load image epoch (memory_before image epoch) h x.own x.at address width signed rd byte is (reads_of image epoch loaded byte d step depends) low) [
        | inl early ↦ absurd (omega (arith, early, from))
        | inr here ↦ (here.0, here.1, writer_is image epoch byte _ _ _ d step (x.others byte here.2) depends.store, depends.store.before)
      ]

  at_event : (loaded byte d step : ℕ) → (address width : ℕ) (signed : Bool) (rd : ℕ) → (next_event image h).at ≡ stop.Load address width signed rd
      → h.done ≤ loaded → loaded < (next_event image h).now.done + 1 → DependsAt image epoch loaded byte d step → loaded ≡ (next_event image h).now.done
  at_event loaded byte d step address width signed rd is from low depends =
      let past = load_late image epoch (memory_before image epoch) h x.own x.at byte loaded depends.there from in omega (arith, past, low)

  none_here : (address width : ℕ) (signed : Bool) (rd : ℕ) → (next_event image h).at ≡ stop.Load address width signed rd → IsNearestByte s.writers epoch address width None
      → (loaded byte d step : ℕ) → h.done ≤ loaded → loaded < (next_event image h).now.done + 1 → DependsAt image epoch loaded byte d step → ⊥
  none_here address width signed rd is none loaded byte d step from low depends =
      let here = here_by address width signed rd loaded byte d step is from low depends in
      let number = here.2 in
      let before = here.3 in
      let zeroed = none byte here.0 here.1 (omega (arith, number, before)) in omega (arith, number, zeroed)

  outside : (address width byte : ℕ) → IsNearest s.writers epoch address width byte → (o : Option ℕ) → x.own byte ≡ o → x.own byte ≡ None
  outside address width byte near (Some b) is = let number = (x.mine byte b is).number in let low = near.earlier in absurd (omega (arith, number, low))
  outside address width byte near None is = is

  nearest_by : (address width byte byte' d : ℕ) → IsNearest s.writers epoch address width byte → (address ≤ byte') × (byte' < address + width) × (slice_index s.writers byte' ≡ d + 1) × (d < epoch)
      → (d < slice_index s.writers byte - 1) ⊎ ((d ≡ slice_index s.writers byte - 1) × (byte ≤ byte'))
  nearest_by address width byte byte' d near (from, below, number, before) = elim (near.nearest byte' from below (omega (arith, number, before))) [
    | inl less ↦ inl (omega (arith, number, less))
    | inr same ↦ (let e = same.0 in inr (omega (arith, number, e), same.1))
  ]

  is_dependence : (address width : ℕ) (signed : Bool) (rd byte : ℕ) → (next_event image h).at ≡ stop.Load address width signed rd → IsNearest s.writers epoch address width byte
      → IsDependence image (dependence_of s epoch (next_event image h).now byte)
  is_dependence address width signed rd byte is near =
      let none = outside address width byte near (x.own byte) refl in
      let last = last_at image epoch byte _ _ _ (x.others byte none) near.some in record {
        depends = record {
          within = in_loop;
          in_order = order;
          there = loads_there image epoch (memory_before image epoch) h x.own x.at address width signed rd byte is near.from near.below;
          exposed = λ step before. before_event image epoch (memory_before image epoch) h x.own x.at byte step none before;
          store = last.0;
        };
        load_pc = sym (ap (λ (g : HartState). g.pc) (load_hart image epoch (memory_before image epoch) h x.own x.at address width signed rd byte is near.from near.below));
        store_pc = last.1;
        nearest = λ byte' d step depends. nearest_by address width byte byte' d near
            (here_by address width signed rd (next_event image h).now.done byte' d step is (later_event image h) (omega arith) depends);
      }

  list_by : (address width : ℕ) (signed : Bool) (rd : ℕ) (list' : List Dependence) → (next_event image h).at ≡ stop.Load address width signed rd
      → (byte : Option ℕ) → IsNearestByte s.writers epoch address width byte → list' ≡ noted s epoch (next_event image h).now byte list
      → AreBefore image epoch ((next_event image h).now.done + 1) list'
  list_by address width signed rd list' is None near same =
      let later = later_event image h in
      rw same (still_before image epoch h.done ((next_event image h).now.done + 1) list (omega (arith, later)) x.list (none_here address width signed rd is near))
  list_by address width signed rd list' is (Some byte) near same =
      rw same (one_more_before image epoch h.done (next_event image h).now.done list (dependence_of s epoch (next_event image h).now byte) (later_event image h) x.list
      (is_dependence address width signed rd byte is near) refl refl
      (λ loaded byte' d step from low depends. at_event loaded byte' d step address width signed rd is from low depends))

  no_store_by_load : (address width : ℕ) (signed : Bool) (rd a step : ℕ) → (next_event image h).at ≡ stop.Load address width signed rd → h.done ≤ step
      → step < (next_event image h).now.done + 1 → StoresAt image epoch (memory_before image epoch) step a → ⊥
  no_store_by_load address width signed rd a step is from low there =
      let past = store_late image epoch (memory_before image epoch) h x.own x.at a step there from in
      let here = hart_there image epoch (memory_before image epoch) h x.own x.at step there.hart there.after (omega (arith, past, low)) there.runs in
      no_both (hart_effect image (next_event image h).now) there.address there.width there.value address width signed rd
      (ap (hart_effect image) here ∙ there.stops) (access_stops image h (rw is tt) ∙ ap Stops is)

  pub flowing_load : (address width : ℕ) (signed : Bool) (rd value : ℕ) (list' : List Dependence) → (next_event image h).at ≡ stop.Load address width signed rd
      → number_at (λ a. slice_index memory a) address width ≡ value → IsNoted s epoch (next_event image h).now address width list list'
      → Flowing image epoch memory s (after_number (next_event image h).now (next_event image h).at value) list'
  flowing_load address width signed rd value list' is number note =
      let seen = seen_now image epoch (memory_before image epoch) memory h x.own x.at x.is address width value number in
      let count = load_counts image h address width signed rd value is in
      let later = later_event image h in record {
        own = x.own;
        at = past_load image epoch (memory_before image epoch) h x.own address width signed rd value x.at is seen;
        is = load_after image epoch (memory_before image epoch) h x.own address width signed rd value x.at is seen ∙ x.is;
        long = x.long;
        mine = λ a byte some. mine_on image epoch _ h a _ _ _ (omega (arith, count, later))
            (λ step from low there. no_store_by_load address width signed rd a step is from (omega (arith, low, count)) there) (x.mine a byte some);
        others = x.others;
        list = subst (λ n. AreBefore image epoch n list') (sym count) (list_by address width signed rd list' is note.byte note.nearest note.list);
      }

-- ---- a store

stored_there : (image : LoadedImage) (epoch : ℕ) (h : HartState) (own : ℕ → Option ℕ) (at : IsAt image epoch (memory_before image epoch) h own)
    → (address width value a writer pc : ℕ) → (is : (next_event image h).at ≡ stop.Store address width value) → (address ≤ a) × (a < address + width)
    → writer ≡ epoch + 1 → pc ≡ (next_event image h).now.pc → IsMine image epoch ((next_event image h).now.done + 1) a writer (next_event image h).now.done pc
stored_there image epoch h own at address width value a writer pc is within number place = record {
  number = number;
  there = stores_there image epoch (memory_before image epoch) h own at address width value a is within.0 within.1;
  is = place ∙ sym (ap (λ (g : HartState). g.pc) (store_hart image epoch (memory_before image epoch) h own at address width value a is within.0 within.1));
  last = λ step low there. omega (arith, low);
}

module _ (image : LoadedImage) (epoch : ℕ) (memory : List ℕ) (s : Stores) (h : HartState) (list : List Dependence) (x : Flowing image epoch memory s h list) where
  -- what another store leaves
  no_store_of : (address width value a step : ℕ) → (next_event image h).at ≡ stop.Store address width value → stored address width value a ≡ None → h.done ≤ step
      → step < (next_event image h).now.done + 1 → StoresAt image epoch (memory_before image epoch) step a → ⊥
  no_store_of address width value a step is none from low there =
      let past = store_late image epoch (memory_before image epoch) h x.own x.at a step there from in
      let here = hart_there image epoch (memory_before image epoch) h x.own x.at step there.hart there.after (omega (arith, past, low)) there.runs in
      let within = same_store (hart_effect image (next_event image h).now) address width value there.address there.width there.value a
      (access_stops image h (rw is tt) ∙ ap Stops is) (ap (hart_effect image) here ∙ there.stops) there.from there.below in
      let some = stored_within address width value a within.0 within.1 in cc

  mine_by : (s' : Stores) (address width value a byte : ℕ) → (next_event image h).at ≡ stop.Store address width value
      → AreMarked s s' address width (epoch + 1) (next_event image h).now.done (next_event image h).now.pc → (o : Option ℕ) → stored address width value a ≡ o
      → ((b : ℕ) × (stored address width value a ≡ Some b)) ⊎ (x.own a ≡ Some byte)
      → IsMine image epoch ((next_event image h).now.done + 1) a (slice_index s'.writers a) (slice_index s'.steps a) (slice_index s'.pcs a)
  mine_by s' address width value a byte is marked (Some b) now either =
      let within = covered address width value a b now in
      subst (λ n. IsMine image epoch ((next_event image h).now.done + 1) a (slice_index s'.writers a) n (slice_index s'.pcs a)) (sym (marked.steps.here a within.0 within.1))
      (stored_there image epoch h x.own x.at address width value a _ _ is within (marked.writers.here a within.0 within.1) (marked.pcs.here a within.0 within.1))
  mine_by s' address width value a byte is marked None now (inl some) = let one = some.1 in absurd cc
  mine_by s' address width value a byte is marked None now (inr before) =
      let later = later_event image h in
      rw (
        unmarked s.writers s'.writers address width _ value a marked.writers now,
        unmarked s.steps s'.steps address width _ value a marked.steps now,
        unmarked s.pcs s'.pcs address width _ value a marked.pcs now,
      )
      (mine_on image epoch ((next_event image h).now.done + 1) h a _ _ _ (omega (arith, later))
      (λ step from low there. no_store_of address width value a step is now from low there) (x.mine a byte before))

  none_by_store : (address width value : ℕ) → (next_event image h).at ≡ stop.Store address width value
      → (loaded byte d step : ℕ) → h.done ≤ loaded → loaded < (next_event image h).now.done + 1 → DependsAt image epoch loaded byte d step → ⊥
  none_by_store address width value is loaded byte d step from low depends =
      let early = read_by_store image epoch (memory_before image epoch) h x.own x.at address width value byte is (reads_of image epoch loaded byte d step depends) low in
      omega (arith, early, from)

  pub flowing_store : (s' : Stores) (address width value : ℕ) → (next_event image h).at ≡ stop.Store address width value
      → AreMarked s s' address width (epoch + 1) (next_event image h).now.done (next_event image h).now.pc
      → Flowing image epoch (with_number memory address width value) s' (stepped (next_event image h).now) list
  flowing_store s' address width value is marked =
      let later = later_event image h in record {
        own = joined (stored address width value) x.own;
        at = past_store image epoch (memory_before image epoch) h x.own address width value x.at is;
        is = store_after image epoch (memory_before image epoch) h x.own address width value x.at is ∙ ap (λ m. with_number m address width value) x.is;
        long = record { writers = marked.writers_long ∙ x.long.writers; steps = marked.steps_long ∙ x.long.steps; pcs = marked.pcs_long ∙ x.long.pcs };
        mine = λ a byte some. mine_by s' address width value a byte is marked (stored address width value a) refl (either (stored address width value a) (x.own a) byte some);
        others = λ a none.
            let parts = neither (stored address width value a) (x.own a) none in
            rw (
              unmarked s.writers s'.writers address width _ value a marked.writers parts.0,
              unmarked s.steps s'.steps address width _ value a marked.steps parts.0,
              unmarked s.pcs s'.pcs address width _ value a marked.pcs parts.0,
            ) (x.others a parts.1);
        list = still_before image epoch h.done ((next_event image h).now.done + 1) list (omega (arith, later)) x.list (none_by_store address width value is);
      }

  -- ---- the end

  last_by : HasStopped (after_stop (next_event image h).now x.at.after (next_event image h).at) → (a : ℕ) (o : Option ℕ) → x.own a ≡ o
      → IsStoredLast image (epoch + 1) a (slice_index s.writers a) (slice_index s.steps a) (slice_index s.pcs a)
  last_by stopped a (Some byte) is =
      let mine = x.mine a byte is in
      subst (λ w. IsStoredLast image (epoch + 1) a w (slice_index s.steps a) (slice_index s.pcs a)) (sym (mine.number ∙ add-one epoch)) (
        record {
          before = omega arith;
          there = mine.there;
          last = λ d step low there. elim (cases_eq d epoch) [
            | inl e ↦
                (let here = subst (λ n. StoresAt image n (memory_before image n) step a) e there in
                inr (e, mine.last step (all_stored_early image epoch (memory_before image epoch) h x.own x.at stopped a step here) here))
            | inr other ↦ inl (omega (arith, low, other))
          ];
        },
        mine.is,
      )
  last_by stopped a None is =
      last_on image epoch a _ _ _ (x.others a is)
      (λ step there. x.at.no_others a step is (all_stored_early image epoch (memory_before image epoch) h x.own x.at stopped a step there) there)

  list_on : HasStopped (after_stop (next_event image h).now x.at.after (next_event image h).at) → AreBefore image (epoch + 1) 0 list
  list_on stopped = record {
    each = λ k y got.
        let one = x.list.each k y got in (
          one.0,
          elim one.1 [
            | inl less ↦ inl (omega (arith, less))
            | inr same ↦ (let e = same.0 in inl (omega (arith, e)))
          ],
        );
    all = λ later loaded byte d step before depends. elim before [
      | inl less ↦ elim (cases_eq later epoch) [
        | inl e ↦ x.list.all later loaded byte d step (inr (
          e,
          all_loaded image epoch (memory_before image epoch) h x.own x.at stopped byte loaded
              (subst (λ n. LoadsAt image n (memory_before image n) loaded byte) e depends.there),
        )) depends
        | inr other ↦ x.list.all later loaded byte d step (inl (omega (arith, less, other))) depends
      ]
      | inr same ↦ (let none = same.1 in absurd (omega (arith, none)))
    ];
    in_order = x.list.in_order;
  }

  pub kept_on : HasStopped (after_stop (next_event image h).now x.at.after (next_event image h).at) → AreStoresKept image (epoch + 1) s list
  kept_on stopped = record { long = x.long; last = λ a. last_by stopped a (x.own a) refl; list = list_on stopped }

-- the dependences of all epochs
pub all_dependences : (image : LoadedImage) (ran : ℕ) (list : List Dependence) → AreAll image ran → AreBefore image ran 0 list → AreDependences image list
all_dependences image ran list all are = record {
  each = λ k x got. (are.each k x got).0;
  all = λ later loaded byte d step depends. are.all later loaded byte d step (inl (all.no_more later depends.within depends.in_order)) depends;
  in_order = are.in_order;
}

pub none_before : (image : LoadedImage) → AreBefore image 0 0 []
none_before image = record {
  each = λ k x got. absurd cc;
  all = λ later loaded byte d step before depends. elim before [
    | inl less ↦ absurd (omega (arith, less))
    | inr same ↦ (let none = same.1 in absurd (omega (arith, none)))
  ];
  in_order = λ j k x y got got' less. absurd cc;
}

-- the epoch runs over memory
pub flowing_path : (image : LoadedImage) (epoch : ℕ) (memory : List ℕ) (s : Stores) (h : HartState) (list : List Dependence) → Flowing image epoch memory s h list
    → OnPath image epoch (memory_before image epoch) memory h
flowing_path image epoch memory s h list x = record { own = x.own; at = x.at; is = x.is }

-- ---- the nearest byte of a load

-- of the bytes so far
abbrev latest_of : List ℕ → Option ℕ → ℕ
latest_of writers (Some byte) = slice_index writers byte
latest_of writers None = 0

pub record IsFoundSo (writers : List ℕ) (epoch address byte latest : ℕ) (nearest : Option ℕ) : Type 0 where
  pub so : IsNearestByte writers epoch address (byte - address) nearest
  pub latest_is : latest ≡ latest_of writers nearest

less_by : (writers : List ℕ) (epoch address width a w : ℕ) (o : Option ℕ) → IsNearestByte writers epoch address width o → latest_of writers o < w
    → address ≤ a → a < address + width → slice_index writers a ≤ epoch → slice_index writers a < w
less_by writers epoch address width a w None so less from below low = let zeroed = so a from below low in omega (arith, zeroed, less)
less_by writers epoch address width a w (Some b) so less from below low = elim (so.nearest a from below low) [
  | inl lower ↦ omega (arith, lower, less)
  | inr same ↦ (let e = same.0 in omega (arith, e, less))
]

pub found_here : (writers : List ℕ) (epoch address byte latest : ℕ) (nearest : Option ℕ) → address ≤ byte → latest < slice_index writers byte → slice_index writers byte ≤ epoch
    → IsFoundSo writers epoch address byte latest nearest → IsFoundSo writers epoch address (byte + 1) (slice_index writers byte) (Some byte)
found_here writers epoch address byte latest nearest from more low x =
    let e = x.latest_is in record {
      so = record {
        from = from;
        below = omega (arith, from);
        some = omega (arith, more);
        earlier = low;
        nearest = λ a from' below low'. elim (cases_eq a byte) [
          | inl same ↦ inr (ap (slice_index writers) same, omega (arith, same))
          | inr other ↦ inl (less_by writers epoch address (byte - address) a (slice_index writers byte) nearest x.so (omega (arith, more, e)) from'
              (omega (arith, from, below, other)) low')
        ];
      };
      latest_is = refl;
    }

left_by : (writers : List ℕ) (epoch address byte : ℕ) (nearest : Option ℕ) → address ≤ byte → (slice_index writers byte ≤ epoch → slice_index writers byte ≤ latest_of writers nearest)
    → IsNearestByte writers epoch address (byte - address) nearest → IsNearestByte writers epoch address (byte + 1 - address) nearest
left_by writers epoch address byte None from left so = λ a from' below low. elim (cases_eq a byte) [
  | inl same ↦ (let e = ap (slice_index writers) same in let most = left (omega (arith, e, low)) in omega (arith, e, most))
  | inr other ↦ so a from' (omega (arith, from, below, other)) low
]
left_by writers epoch address byte (Some b) from left so =
    let below = so.below in record {
      from = so.from;
      below = omega (arith, from, below);
      some = so.some;
      earlier = so.earlier;
      nearest = λ a from' below' low. elim (cases_eq a byte) [
        | inl same ↦
            (let e = ap (slice_index writers) same in
            let most = left (omega (arith, e, low)) in
            elim (cases_eq (slice_index writers a) (slice_index writers b)) [
              | inl equal ↦ inr (equal, omega (arith, from, below, same))
              | inr unequal ↦ inl (omega (arith, e, most, unequal))
            ])
        | inr other ↦ so.nearest a from' (omega (arith, from, below', other)) low
      ];
    }

pub left_out : (writers : List ℕ) (epoch address byte latest : ℕ) (nearest : Option ℕ) → address ≤ byte → (slice_index writers byte ≤ latest) ⊎ (epoch < slice_index writers byte)
    → IsFoundSo writers epoch address byte latest nearest → IsFoundSo writers epoch address (byte + 1) latest nearest
left_out writers epoch address byte latest nearest from (inl most) x =
    let e = x.latest_is in record { so = left_by writers epoch address byte nearest from (λ low. omega (arith, most, e)) x.so; latest_is = x.latest_is }
left_out writers epoch address byte latest nearest from (inr late) x =
    record { so = left_by writers epoch address byte nearest from (λ low. absurd (omega (arith, low, late))) x.so; latest_is = x.latest_is }

pub found_none : (writers : List ℕ) (epoch address : ℕ) → IsFoundSo writers epoch address address 0 None
found_none writers epoch address = record { so = λ a from below low. absurd (omega (arith, from, below)); latest_is = refl }
