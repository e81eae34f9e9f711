-- One epoch in order, each of its steps as early as it can be, and the last store of each byte.
use Rattle.std.proofs.Common.{◌≡◌, ◌⊎◌, ℕ, zero, suc, ◌+◌, ◌-◌, ◌*◌, ◌<◌, ◌≤◌, Bool, List, [], length, max, nat_lt, slice_index, Option, Some, None, if◌then◌else◌, refl, sym, ap, subst, ◌∙◌, inl, inr, arith, add-one}
use Rattle.std.proofs.lemmas.Bool.{cases_eq, cases_lt}
use Rattle.std.proofs.lemmas.Bool.Decides.{nat_tests}
use Rattle.rv32_image.specs.Image.{LoadedImage}
use Rattle.memory_bytes.specs.Bytes.{number_at, with_number}
use Rattle.memory_bytes.specs.Maps.{joined, nothing, stored}
use Rattle.memory_bytes.proofs.Bytes.{stored_within}
use Rattle.rv32_exec.specs.declared.stop.Stop.TheVariants as stop
use Rattle.rv32_exec.specs.declared.sequential.End.TheVariants as end
use Rattle.rv32_exec.specs.Hart.{HartState, start_of, stepped}
use Rattle.rv32_exec.specs.Execute.{Stops, hart_effect}
use Rattle.rv32_exec.specs.NextEvent.{next_event}
use Rattle.rv32_exec.specs.Arrival.{after_number}
use Rattle.rv32_exec.specs.Sequential.{SequentialResult, after_stop, first_epochs}
use Rattle.rv32_exec.specs.Laws.{HasStopped}
use Rattle.rv32_exec.proofs.LawsOfRuns.{later_event}
use Rattle.spec_history.proofs.OneEntry.Accesses.{load_counts}
use Rattle.spec_history.proofs.OneEntry.Progress.{counted}
use Rattle.epoch_paths.specs.Paths.{ReadsOutside, StoresAt}
use Rattle.epoch_paths.specs.InOrder.{IsInOrder, memory_before, AreAll}
use Rattle.epoch_paths.specs.Flow.{DependsAt, LastStore}
use Rattle.epoch_paths.specs.Kept.{IsAt}
use Rattle.epoch_paths.proofs.Paths.{access_stops, at_start, before_event, covered, either, load_after, loads_there, neither, past_load, past_store, same_store, start_after, store_after, stores_there, to_event}
use Rattle.epoch_paths.proofs.Following.{all_loaded, all_stored_early, hart_there, load_late, no_both, store_late, unmarked}
use Rattle.epoch_paths.proofs.Outside.{OnPath, lasts, read_by_load, read_by_store, seen_now}
use Rattle.limits.specs.declared.limit.Waits.{Waits}
use Rattle.limits.specs.declared.limit.Waits.TheVariants.{Commit, Store}
use Rattle.limits.specs.Limits.{Timing, awaited}
use Rattle.limits.specs.Kept.{AreBases, AreKept, AreLong, AreMarked, HasWaited, HaveCommitted, HaveRun, IsAwaited, IsBegin, IsEarliest, IsReady, IsStoredLast, Kept, awaited_by, awaited_in, last_commit, with_commit}
use Rattle.limits.proofs.Stopping.{before_end}
use Rattle.limits.proofs.Extending.{AreSame, IsWith, committed_more, with_epoch, with_it}

-- ---- last stores

-- one that is told of is the last
last_store : (image : LoadedImage) (t : Timing) (epoch a writer step d q : ℕ) → IsStoredLast image t epoch a writer step → LastStore image epoch a d q
    → (writer ≡ d + 1) × (step ≡ t.at d q)
last_store image t epoch a zero step d q is last = absurd (is d q last.before last.there)
last_store image t epoch a (suc e) step d q is last = elim (is.1.last d q last.before last.there) [
  | inl less ↦ elim (last.last e is.0 is.1.before is.1.there) [
    | inl more ↦ absurd (omega (arith, less, more))
    | inr same ↦ (let e' = same.0 in absurd (omega (arith, e', less)))
  ]
  | inr same ↦ elim (last.last e is.0 is.1.before is.1.there) [
    | inl more ↦ (let e' = same.0 in absurd (omega (arith, e', more)))
    | inr same' ↦
        (let number = same.0 in
        let most = same.1 in
        let least = same'.1 in
        let at : is.0 ≡ q = omega (arith, most, least) in
        (omega (arith, number), is.2 ∙ (ap (λ n. t.at n is.0) (sym number) ∙ ap (t.at d) at)))
  ]
]

-- some epoch has stored it
some_store : (image : LoadedImage) (t : Timing) (epoch a writer step : ℕ) → IsStoredLast image t epoch a writer step → 0 < writer
    → (d : ℕ) × (q : ℕ) × LastStore image epoch a d q
some_store image t epoch a zero step is some = absurd (omega (arith, some))
some_store image t epoch a (suc d) step is some = (d, is.0, is.1)

stored_on : (image : LoadedImage) (t t' : Timing) (epoch a writer step : ℕ) → AreSame epoch t t' → IsStoredLast image t epoch a writer step
    → ((q : ℕ) → StoresAt image epoch (memory_before image epoch) q a → ⊥) → IsStoredLast image t' (epoch + 1) a writer step
stored_on image t t' epoch a zero step same is none = λ d q low there. elim (cases_eq d epoch) [
  | inl e ↦ none q (subst (λ n. StoresAt image n (memory_before image n) q a) e there)
  | inr other ↦ is d q (omega (arith, low, other)) there
]
stored_on image t t' epoch a (suc w) step same is none =
    let less = is.1.before in (
      is.0,
      record {
        before = omega (arith, less);
        there = is.1.there;
        last = λ d q low there. elim (cases_eq d epoch) [
          | inl e ↦ absurd (none q (subst (λ n. StoresAt image n (memory_before image n) q a) e there))
          | inr other ↦ is.1.last d q (omega (arith, low, other)) there
        ];
      },
      is.2 ∙ sym (same.at w is.0 less),
    )

-- the epoch has stored the byte last so, of its stores so far
pub record IsMine (image : LoadedImage) (epoch done : ℕ) (bases : ℕ → ℕ) (a writer step : ℕ) : Type 0 where
  pub number : writer ≡ epoch + 1
  pub stored : ℕ
  pub there : StoresAt image epoch (memory_before image epoch) stored a
  pub low : stored < done
  pub is : step ≡ bases stored + stored
  pub last : (q : ℕ) → q < done → StoresAt image epoch (memory_before image epoch) q a → q ≤ stored

mine_on : (image : LoadedImage) (epoch done done' : ℕ) (bases bases' : ℕ → ℕ) (a writer step : ℕ) → done ≤ done' → ((place : ℕ) → place < done → bases' place ≡ bases place)
    → ((q : ℕ) → done ≤ q → q < done' → StoresAt image epoch (memory_before image epoch) q a → ⊥)
    → IsMine image epoch done bases a writer step → IsMine image epoch done' bases' a writer step
mine_on image epoch done done' bases bases' a writer step more same none mine = record {
  number = mine.number;
  stored = mine.stored;
  there = mine.there;
  low = let low = mine.low in omega (arith, low, more);
  is = mine.is ∙ sym (ap (λ n. n + mine.stored) (same mine.stored mine.low));
  last = λ q low there. elim (cases_lt q done) [
    | inl before ↦ mine.last q before there
    | inr from ↦ absurd (none q from low there)
  ];
}

-- ---- the run

-- the epoch runs over memory, from this hart on: it begins and has executed as early as it can, and the next place comes so many steps
-- after `base`
pub record Running (image : LoadedImage) (cores epoch : ℕ) (waits : Waits) (commits : List ℕ) (memory : List ℕ) (s : Kept) (h : HartState) (base : ℕ) : Type 0 where
  pub own : ℕ → Option ℕ
  pub at : IsAt image epoch (memory_before image epoch) h own
  pub is : at.after ≡ memory
  pub waits_are : s.waits ≡ waits
  pub commits_are : s.commits ≡ commits
  pub long : AreLong s image.size
  pub timing : Timing
  pub before : HaveCommitted image waits cores epoch commits timing
  pub begin : ℕ
  pub begins : IsBegin cores timing epoch begin
  pub bases : ℕ → ℕ
  pub are : AreBases image waits timing epoch begin bases
  pub rest : (place : ℕ) → h.done ≤ place → bases place ≡ base
  pub ready : (place byte earlier stored : ℕ) → place < h.done → DependsAt image epoch place byte earlier stored → awaited waits timing earlier stored ≤ bases place + place
  pub mine : (a byte : ℕ) → own a ≡ Some byte → IsMine image epoch h.done bases a (slice_index s.writers a) (slice_index s.stores a)
  pub others : (a : ℕ) → own a ≡ None → IsStoredLast image timing epoch a (slice_index s.writers a) (slice_index s.stores a)
  pub soon : base ≤ epoch * 1000002 + 2

-- from the start on, all places come after the beginning
pub running_start : (image : LoadedImage) (cores epoch : ℕ) (memory : List ℕ) (s : Kept) (begin base : ℕ) → length memory ≡ image.size
    → first_epochs image epoch ≡ record { end = end.Done epoch; bytes = memory } → 1 ≤ cores → (kept : AreKept image cores epoch s)
    → (epoch < cores → begin ≡ 0) → (cores ≤ epoch → begin ≡ slice_index s.commits (epoch - cores) + 1) → base ≡ begin + 1
    → Running image cores epoch s.waits s.commits memory s (start_of image epoch) base
running_start image cores epoch memory s begin base long done some kept early late after =
    let bytes : memory_before image epoch ≡ memory = ap (λ (r : SequentialResult). r.bytes) done in
    let long' : length (memory_before image epoch) ≡ image.size = ap (λ m. length m) bytes ∙ long in record {
      own = nothing;
      at = at_start image epoch (memory_before image epoch) long';
      is = start_after image epoch (memory_before image epoch) long' ∙ bytes;
      waits_are = refl;
      commits_are = refl;
      long = kept.long;
      timing = kept.timing;
      before = kept.before;
      begin = begin;
      begins = record {
        early = early;
        late = λ d sum.
            let place : epoch - cores ≡ d = omega (arith, sum) in
            late (omega (arith, sum)) ∙ ap (λ n. n + 1) (ap (slice_index s.commits) place ∙ kept.before.are d (omega (arith, sum, some)));
      };
      bases = λ place. base;
      are = record { rise = λ place. omega arith; first = omega (arith, after); why = λ place. inl after };
      rest = λ place from. refl;
      ready = λ place byte earlier stored low depends. absurd (omega (arith, low));
      mine = λ a byte is. absurd cc;
      others = λ a none. kept.last a;
      soon = elim (cases_lt epoch cores) [
        | inl less ↦ (let none = early less in omega (arith, none, after))
        | inr from ↦
            (let is = late from in
            let low : epoch - cores < epoch = omega (arith, from, some) in
            let same = kept.before.are (epoch - cores) low in
            let soon = kept.before.soon (epoch - cores) low in omega (arith, is, same, soon, after))
      ];
    }

-- ---- a load

-- of the bytes of a load, what an epoch before this one stores last is awaited
awaited_for : (waits : Waits) (s : Kept) (commits : List ℕ) (t : Timing) (a d q : ℕ) → s.commits ≡ commits → slice_index commits d ≡ t.commit d
    → slice_index s.writers a ≡ d + 1 → slice_index s.stores a ≡ t.at d q → awaited_in waits s a ≡ awaited waits t d q
awaited_for Store s commits t a d q same commit number step = step
awaited_for Commit s commits t a d q same commit number step =
    let place : slice_index s.writers a - 1 ≡ d = omega (arith, number) in
    ap (slice_index s.commits) place ∙ (ap (λ c. slice_index c d) same ∙ commit)

abbrev reads_of : (image : LoadedImage) (later loaded byte d step : ℕ) → DependsAt image later loaded byte d step → ReadsOutside image later (memory_before image later) byte
reads_of image later loaded byte d step x = record { step = loaded; there = x.there; exposed = x.exposed }

-- the base after a load that waits for this step
abbrev pub raised : ℕ → ℕ → ℕ → ℕ
raised base ready done = base + (ready - (base + done))

bases_from : (place from x y : ℕ) → from ≤ place → (if nat_lt place from then x else y) ≡ y
bases_from place from x y high = grind (arith, nat_tests)

bases_below : (place from x y : ℕ) → place < from → (if nat_lt place from then x else y) ≡ x
bases_below place from x y low = grind (arith, nat_tests)

-- and it isn't past its commit
rises : (bases : ℕ → ℕ) → ((place : ℕ) → bases place ≤ bases (place + 1)) → (place k : ℕ) → bases place ≤ bases (place + k)
rises bases rise place zero = let same : place + 0 ≡ place = omega arith in rw same (omega arith)
rises bases rise place (suc k) =
    let before = rises bases rise place k in
    let more = rise (place + k) in
    let same : place + suc k ≡ place + k + 1 = omega arith in rw same (omega (arith, before, more))

awaited_soon : (image : LoadedImage) (waits : Waits) (cores : ℕ) (t : Timing) (d q a most : ℕ) → IsEarliest image waits cores t d
    → StoresAt image d (memory_before image d) q a → t.commit d ≤ most → awaited waits t d q ≤ most
awaited_soon image Commit cores t d q a most one there soon = soon
awaited_soon image Store cores t d q a most one there soon =
    let within = before_end image d one.length q a one.lasts there in
    let sum : q + (one.length - q) ≡ one.length = omega (arith, within) in
    let rise = rises one.bases one.are.rise q (one.length - q) in
    let same = ap one.bases sum in
    let at = one.at q in
    let at' = one.at one.length in
    let ends = one.ends in omega (arith, within, rise, same, at, at', ends, soon)

module _ (image : LoadedImage) (cores epoch : ℕ) (waits : Waits) (commits memory : List ℕ) (s : Kept) (h : HartState) (base : ℕ)
    (x : Running image cores epoch waits commits memory s h base) where
  -- a byte that an epoch before this one has stored last is none of its own
  outside : (byte : ℕ) → slice_index s.writers byte ≤ epoch → (o : Option ℕ) → x.own byte ≡ o → x.own byte ≡ None
  outside byte low (Some b) is = let number = (x.mine byte b is).number in absurd (omega (arith, number, low))
  outside byte low None is = is

  -- what its load waits for
  waits_for : (byte d q : ℕ) → x.own byte ≡ None → LastStore image epoch byte d q
      → (0 < slice_index s.writers byte) × (slice_index s.writers byte ≤ epoch) × (awaited_by s byte ≡ awaited waits x.timing d q)
  waits_for byte d q none last =
      let is = last_store image x.timing epoch byte _ _ d q (x.others byte none) last in
      let number = is.0 in
      let before = last.before in (
        omega (arith, number),
        omega (arith, number, before),
        ap (λ w. awaited_in w s byte) x.waits_are ∙ awaited_for waits s commits x.timing byte d q x.commits_are (x.before.are d last.before) is.0 is.1,
      )

  -- a load that depends on another epoch, from the hart on, is its next event
  here_by : (address width : ℕ) (signed : Bool) (rd place byte d q : ℕ) → (next_event image h).at ≡ stop.Load address width signed rd
      → h.done ≤ place → place < (next_event image h).now.done + 1 → DependsAt image epoch place byte d q
      → (place ≡ (next_event image h).now.done) × (address ≤ byte) × (byte < address + width) × (x.own byte ≡ None)
  here_by address width signed rd place byte d q is from low depends =
      let past = load_late image epoch (memory_before image epoch) h x.own x.at byte place depends.there from in
      elim (read_by_load image epoch (memory_before image epoch) h x.own x.at address width signed rd byte is (reads_of image epoch place byte d q depends) low) [
        | inl early ↦ absurd (omega (arith, early, from))
        | inr here ↦ (omega (arith, past, low), here.0, here.1, here.2)
      ]

  no_store_by_load : (address width : ℕ) (signed : Bool) (rd a step : ℕ) → (next_event image h).at ≡ stop.Load address width signed rd → h.done ≤ step
      → step < (next_event image h).now.done + 1 → StoresAt image epoch (memory_before image epoch) step a → ⊥
  no_store_by_load address width signed rd a step is from low there =
      let past = store_late image epoch (memory_before image epoch) h x.own x.at a step there from in
      let here = hart_there image epoch (memory_before image epoch) h x.own x.at step there.hart there.after (omega (arith, past, low)) there.runs in
      no_both (hart_effect image (next_event image h).now) there.address there.width there.value address width signed rd
      (ap (hart_effect image) here ∙ there.stops) (access_stops image h (rw is tt) ∙ ap Stops is)

  -- what it waits for as the next event
  module _ (order : IsInOrder image epoch) (in_loop : epoch < image.epochs) (address width : ℕ) (signed : Bool) (rd ready : ℕ)
      (is : (next_event image h).at ≡ stop.Load address width signed rd) (wait : IsReady s epoch address (address + width) ready) where
    depends_by : (one : IsAwaited s epoch address (address + width) ready)
        → (d : ℕ) × (q : ℕ) × DependsAt image epoch (next_event image h).now.done one.byte d q × (ready ≡ awaited waits x.timing d q)
    depends_by one =
        let none = outside one.byte one.earlier (x.own one.byte) refl in
        let store = some_store image x.timing epoch one.byte _ _ (x.others one.byte none) one.some in (
          store.0,
          store.1,
          record {
            within = in_loop;
            in_order = order;
            there = loads_there image epoch (memory_before image epoch) h x.own x.at address width signed rd one.byte is one.from one.below;
            exposed = λ step before. before_event image epoch (memory_before image epoch) h x.own x.at one.byte step none before;
            store = store.2;
          },
          one.is ∙ (waits_for one.byte store.0 store.1 none store.2).2,
        )

    waited_by : (place base' : ℕ) → (next_event image h).now.done ≤ place → base' + (next_event image h).now.done ≡ ready → 0 < base' + (next_event image h).now.done
        → HasWaited image waits x.timing epoch place base'
    waited_by place base' from is_ready some = elim wait.one [
      | inl none ↦ absurd (omega (arith, none, is_ready, some))
      | inr one ↦
          (let depends = depends_by one in record {
            load = (next_event image h).now.done;
            byte = one.byte;
            earlier = depends.0;
            stored = depends.1;
            low = from;
            depends = depends.2;
            is = is_ready ∙ depends.3;
          })
    ]

    ready_by : (place byte d q : ℕ) → h.done ≤ place → place < (next_event image h).now.done + 1 → DependsAt image epoch place byte d q
        → awaited waits x.timing d q ≤ raised base ready (next_event image h).now.done + place
    ready_by place byte d q from low depends =
        let here = here_by address width signed rd place byte d q is from low depends in
        let at = here.0 in
        let for = waits_for byte d q here.3 depends.store in
        let least = wait.each byte here.1 here.2 for.0 for.1 in
        let awaits = for.2 in omega (arith, at, least, awaits)

    new_bases : ℕ → ℕ
    new_bases place = if nat_lt place (next_event image h).now.done then x.bases place else raised base ready (next_event image h).now.done

    new_from : (place : ℕ) → (next_event image h).now.done ≤ place → new_bases place ≡ raised base ready (next_event image h).now.done
    unfolding new_bases
    new_from place from = bases_from place (next_event image h).now.done (x.bases place) (raised base ready (next_event image h).now.done) from

    new_below : (place : ℕ) → place < (next_event image h).now.done → new_bases place ≡ x.bases place
    unfolding new_bases
    new_below place low = bases_below place (next_event image h).now.done (x.bases place) (raised base ready (next_event image h).now.done) low

    new_are : AreBases image waits x.timing epoch x.begin new_bases
    new_are =
        let later = later_event image h in record {
          rise = λ place. elim (cases_lt place (next_event image h).now.done) [
            | inl low ↦ elim (cases_lt (place + 1) (next_event image h).now.done) [
              | inl low' ↦ (let same = new_below place low in let same' = new_below (place + 1) low' in let rise = x.are.rise place in omega (arith, same, same', rise))
              | inr from' ↦
                  (let same = new_below place low in
                  let same' = new_from (place + 1) from' in
                  let rise = x.are.rise place in
                  let rest = x.rest (place + 1) (omega (arith, later, from')) in omega (arith, same, same', rise, rest))
            ]
            | inr from ↦ (let same = new_from place from in let same' = new_from (place + 1) (omega (arith, from)) in omega (arith, same, same'))
          ];
          first = elim (cases_lt 0 (next_event image h).now.done) [
            | inl low ↦ (let same = new_below 0 low in let first = x.are.first in omega (arith, same, first))
            | inr from ↦
                (let same = new_from 0 from in
                let first = x.are.first in
                let rest = x.rest 0 (omega (arith, later, from)) in omega (arith, same, first, rest))
          ];
          why = λ place. elim (cases_lt place (next_event image h).now.done) [
            | inl low ↦ (let same = new_below place low in subst (λ n. (n ≡ x.begin + 1) ⊎ HasWaited image waits x.timing epoch place n) (sym same) (x.are.why place))
            | inr from ↦
                (let same = new_from place from in
                let rest = x.rest place (omega (arith, later, from)) in
                elim (cases_lt base (ready - (next_event image h).now.done)) [
                  | inl less ↦ inr (waited_by place (new_bases place) from (omega (arith, same, less)) (omega (arith, same, less)))
                  | inr most ↦
                      (let stays : x.bases place ≡ new_bases place = omega (arith, same, rest, most) in
                      subst (λ n. (n ≡ x.begin + 1) ⊎ HasWaited image waits x.timing epoch place n) stays (x.are.why place))
                ])
          ];
        }

    ready_soon : ready ≤ epoch * 1000002
    ready_soon = elim wait.one [
      | inl none ↦ omega (arith, none)
      | inr one ↦
          (let depends = depends_by one in
          let last = depends.2.store in
          let soon = awaited_soon image waits cores x.timing depends.0 depends.1 one.byte (epoch * 1000002) (x.before.each depends.0 last.before) last.there (x.before.soon depends.0 last.before) in
          let is = depends.3 in omega (arith, is, soon))
    ]

    pub running_load : (value base' : ℕ) → number_at (λ a. slice_index memory a) address width ≡ value → base' ≡ raised base ready (next_event image h).now.done
        → Running image cores epoch waits commits memory s (after_number (next_event image h).now (next_event image h).at value) base'
    running_load value base' number is_raised =
        let seen = seen_now image epoch (memory_before image epoch) memory h x.own x.at x.is address width value number in
        let count = load_counts image h address width signed rd value is in
        let later = later_event image h in record {
          own = x.own;
          at = past_load image epoch (memory_before image epoch) h x.own address width signed rd value x.at is seen;
          is = load_after image epoch (memory_before image epoch) h x.own address width signed rd value x.at is seen ∙ x.is;
          waits_are = x.waits_are;
          commits_are = x.commits_are;
          long = x.long;
          timing = x.timing;
          before = x.before;
          begin = x.begin;
          begins = x.begins;
          bases = new_bases;
          are = new_are;
          rest = λ place from. new_from place (omega (arith, from, count)) ∙ sym is_raised;
          ready = λ place byte d q low depends. elim (cases_lt place h.done) [
            | inl before ↦
                (let same = new_below place (omega (arith, before, later)) in let old = x.ready place byte d q before depends in omega (arith, same, old))
            | inr from ↦ elim (cases_lt place (next_event image h).now.done) [
              | inl between ↦ (let past = load_late image epoch (memory_before image epoch) h x.own x.at byte place depends.there from in absurd (omega (arith, past, between)))
              | inr there ↦
                  (let same = new_from place there in
                  let waited = ready_by place byte d q from (omega (arith, low, count)) depends in omega (arith, same, waited))
            ]
          ];
          mine = λ a byte some. mine_on image epoch h.done _ x.bases new_bases a _ _ (omega (arith, count, later))
              (λ place low. new_below place (omega (arith, low, later)))
              (λ q from low there. no_store_by_load address width signed rd a q is from (omega (arith, low, count)) there) (x.mine a byte some);
          others = x.others;
          soon = let soon = x.soon in let ready' = ready_soon in omega (arith, soon, ready', is_raised);
        }

  -- ---- a store

  no_store_of : (address width value a step : ℕ) → (next_event image h).at ≡ stop.Store address width value → stored address width value a ≡ None → h.done ≤ step
      → step < (next_event image h).now.done + 1 → StoresAt image epoch (memory_before image epoch) step a → ⊥
  no_store_of address width value a step is none from low there =
      let past = store_late image epoch (memory_before image epoch) h x.own x.at a step there from in
      let here = hart_there image epoch (memory_before image epoch) h x.own x.at step there.hart there.after (omega (arith, past, low)) there.runs in
      let within = same_store (hart_effect image (next_event image h).now) address width value there.address there.width there.value a
      (access_stops image h (rw is tt) ∙ ap Stops is) (ap (hart_effect image) here ∙ there.stops) there.from there.below in
      let some = stored_within address width value a within.0 within.1 in cc

  mine_by : (s' : Kept) (address width value writer step a byte : ℕ) → (next_event image h).at ≡ stop.Store address width value
      → AreMarked s s' address width writer step → writer ≡ epoch + 1 → step ≡ base + (next_event image h).now.done → (o : Option ℕ) → stored address width value a ≡ o
      → ((b : ℕ) × (stored address width value a ≡ Some b)) ⊎ (x.own a ≡ Some byte)
      → IsMine image epoch ((next_event image h).now.done + 1) x.bases a (slice_index s'.writers a) (slice_index s'.stores a)
  mine_by s' address width value writer step a byte is marked number at (Some b) now either =
      let within = covered address width value a b now in
      record {
        number = marked.writers.here a within.0 within.1 ∙ number;
        stored = (next_event image h).now.done;
        there = stores_there image epoch (memory_before image epoch) h x.own x.at address width value a is within.0 within.1;
        low = omega arith;
        is = marked.stores.here a within.0 within.1 ∙ (at ∙ sym (ap (λ n. n + (next_event image h).now.done) (x.rest (next_event image h).now.done (later_event image h))));
        last = λ q low there. omega (arith, low);
      }
  mine_by s' address width value writer step a byte is marked number at None now (inl some) = let one = some.1 in absurd cc
  mine_by s' address width value writer step a byte is marked number at None now (inr before) =
      let later = later_event image h in
      rw (
        unmarked s.writers s'.writers address width _ value a marked.writers now,
        unmarked s.stores s'.stores address width _ value a marked.stores now,
      )
      (mine_on image epoch h.done ((next_event image h).now.done + 1) x.bases x.bases a _ _ (omega (arith, later)) (λ place low. refl)
      (λ step from low there. no_store_of address width value a step is now from low there) (x.mine a byte before))

  pub running_store : (s' : Kept) (address width value writer step : ℕ) → (next_event image h).at ≡ stop.Store address width value
      → AreMarked s s' address width writer step → writer ≡ epoch + 1 → step ≡ base + (next_event image h).now.done
      → Running image cores epoch waits commits (with_number memory address width value) s' (stepped (next_event image h).now) base
  running_store s' address width value writer step is marked number step_is =
      let later = later_event image h in record {
        own = joined (stored address width value) x.own;
        at = past_store image epoch (memory_before image epoch) h x.own address width value x.at is;
        is = store_after image epoch (memory_before image epoch) h x.own address width value x.at is ∙ ap (λ m. with_number m address width value) x.is;
        waits_are = marked.waits ∙ x.waits_are;
        commits_are = marked.commits ∙ x.commits_are;
        long = record { writers = marked.writers_long ∙ x.long.writers; stores = marked.stores_long ∙ x.long.stores };
        timing = x.timing;
        before = x.before;
        begin = x.begin;
        begins = x.begins;
        bases = x.bases;
        are = x.are;
        rest = λ place from. x.rest place (omega (arith, from, later));
        ready = λ place byte d q low depends. elim (cases_lt place h.done) [
          | inl before ↦ x.ready place byte d q before depends
          | inr from ↦
              (let early = read_by_store image epoch (memory_before image epoch) h x.own x.at address width value byte is (reads_of image epoch place byte d q depends) low in
              absurd (omega (arith, early, from)))
        ];
        mine = λ a byte some. mine_by s' address width value writer step a byte is marked number step_is (stored address width value a) refl (either (stored address width value a) (x.own a) byte some);
        others = λ a none.
            let parts = neither (stored address width value a) (x.own a) none in
            rw (
              unmarked s.writers s'.writers address width _ value a marked.writers parts.0,
              unmarked s.stores s'.stores address width _ value a marked.stores parts.0,
            ) (x.others a parts.1);
        soon = x.soon;
      }

  -- ---- the end

  pub running_path : OnPath image epoch (memory_before image epoch) memory h
  running_path = record { own = x.own; at = x.at; is = x.is }

  pub most_done : (next_event image h).now.done ≤ image.limit
  most_done =
      (counted image (next_event image h).now.done (start_of image epoch) (next_event image h).now (memory_before image epoch) x.at.after
      (to_event image epoch (memory_before image epoch) h x.own x.at)).most (omega arith)

  module _ (some : 1 ≤ cores) (limit : image.limit ≤ 1000000) (stopped : HasStopped (after_stop (next_event image h).now x.at.after (next_event image h).at)) where
    all_ready : (place byte d q : ℕ) → DependsAt image epoch place byte d q → awaited waits x.timing d q ≤ x.bases place + place
    all_ready place byte d q depends =
        x.ready place byte d q (all_loaded image epoch (memory_before image epoch) h x.own x.at stopped byte place depends.there) depends

    last_by : (t' : Timing) (commit : ℕ) → IsWith epoch x.timing t' x.begin x.bases commit → (a : ℕ) (o : Option ℕ) → x.own a ≡ o
        → IsStoredLast image t' (epoch + 1) a (slice_index s.writers a) (slice_index s.stores a)
    last_by t' commit w a (Some byte) is =
        let mine = x.mine a byte is in
        subst (λ n. IsStoredLast image t' (epoch + 1) a n (slice_index s.stores a)) (sym (mine.number ∙ add-one epoch)) (
          mine.stored,
          record {
            before = omega arith;
            there = mine.there;
            last = λ d q low there. elim (cases_eq d epoch) [
              | inl e ↦
                  (let here = subst (λ n. StoresAt image n (memory_before image n) q a) e there in
                  inr (e, mine.last q (all_stored_early image epoch (memory_before image epoch) h x.own x.at stopped a q here) here))
              | inr other ↦ inl (omega (arith, low, other))
            ];
          },
          mine.is ∙ sym (w.at_is mine.stored),
        )
    last_by t' commit w a None is =
        stored_on image x.timing t' epoch a _ _ w.same (x.others a is)
        (λ q there. x.at.no_others a q is (all_stored_early image epoch (memory_before image epoch) h x.own x.at stopped a q there) there)

    pub running_end : (end : ℕ) → end ≡ base + (next_event image h).now.done → AreKept image cores (epoch + 1) (with_commit s end)
    unfolding running_path
    running_end end end_is =
        let commit = max end (last_commit commits) in
        let t' = with_epoch x.timing epoch x.begin x.bases commit in
        let w = with_it x.timing epoch x.begin x.bases commit in
        let rest = x.rest (next_event image h).now.done (later_event image h) in
        let most = most_done in
        let soon = x.soon in
        let all = committed_more image waits cores epoch commits x.timing x.before some x.begin (next_event image h).now.done end x.bases x.begins x.are
        (λ place byte d q depends. all_ready place byte d q depends)
        (lasts image epoch (memory_before image epoch) memory h running_path refl stopped) (end_is ∙ ap (λ n. n + (next_event image h).now.done) (sym rest)) t' w
        (omega (arith, end_is, soon, most, limit)) in record {
          timing = t';
          long = record { writers = x.long.writers; stores = x.long.stores };
          before = rw (x.waits_are, x.commits_are) all;
          last = λ a. last_by t' commit w a (x.own a) refl;
        }

-- ---- all epochs

abbrev no_steps : Timing
no_steps = record { begin = λ d. 0; at = λ d place. 0; commit = λ d. 0 }

pub kept_none : (image : LoadedImage) (cores : ℕ) (s : Kept) → AreLong s image.size → s.commits ≡ [] → ((a : ℕ) → slice_index s.writers a ≡ 0) → AreKept image cores 0 s
kept_none image cores s long commits writers = record {
  timing = no_steps;
  long = long;
  before = record {
    long = ap length commits;
    are = λ d low. absurd (omega (arith, low));
    soon = λ d low. absurd (omega (arith, low));
    each = λ d low. absurd (omega (arith, low));
  };
  last = λ a. subst (λ w. IsStoredLast image no_steps 0 a w (slice_index s.stores a)) (sym (writers a)) (λ d q low there. absurd (omega (arith, low)));
}

pub have_run : (image : LoadedImage) (cores epochs : ℕ) (waits : Waits) (s : Kept) → s.waits ≡ waits → AreAll image epochs → AreKept image cores epochs s
    → HaveRun image cores waits s
have_run image cores epochs waits s is all kept =
    record { epochs = epochs; all = all; timing = kept.timing; before = subst (λ w. HaveCommitted image w cores epochs s.commits kept.timing) is kept.before }
