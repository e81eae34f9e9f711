-- A core that is held at a load depends there on an epoch that hasn't committed.
use Rattle.std.proofs.Common.{◌≡◌, ℕ, zero, suc, ◌+◌, ◌<◌, ◌≤◌, ◌==◌, ◌&&◌, ◌||◌, not, nat_le, nat_lt, is_none, Bool, true, false, List, Option, Some, refl, sym, ap, subst, ◌∙◌, inl, inr, true≢false, arith, eqb-true}
use Rattle.std.proofs.lemmas.Bool.{and_parts, cases_Bool, cases_eq, cases_lt, le-leb, lt-ltb, leb-true, ltb-true}
use Rattle.std.proofs.lemmas.List.Folds.{Any-from_list_any}
use Rattle.memory_bytes.proofs.SmallFacts.{none_is}
use Rattle.rv32_exec.specs.declared.stop.Stop.TheVariants as stop
use Rattle.rv32_image.specs.Image.{LoadedImage}
use Rattle.rv32_exec.specs.Hart.{HartState, start_of}
use Rattle.rv32_exec.specs.Execute.{Effect, Executes, Stops, hart_effect}
use Rattle.rv32_exec.specs.NextEvent.{next_event}
use Rattle.rv32_exec.specs.Sequential.{Ends, Faults, Progress, Runs, after_steps}
use Rattle.spec_history.proofs.OneEntry.Legal.{some_below}
use Rattle.epoch_paths.specs.InOrder.{IsInOrder, memory_before}
use Rattle.epoch_paths.specs.Flow.{DependsAt, LastStore}
use Rattle.epoch_paths.specs.Paths.{StoresAt}
use Rattle.epoch_paths.proofs.InOrder.{all_in_order}
use Rattle.epoch_paths.specs.Kept.{IsAt}
use Rattle.epoch_paths.proofs.Paths.{before_event, loads_there}
use Rattle.even_speed.specs.Held.{Holding, is_held, is_stored, reads_stored, waits_by}
use Rattle.limits.specs.HeldBound.{HoldsInOrder}
use Rattle.limits.proofs.Stopping.{before_end, lasts_some}
use Rattle.limits.proofs.Unstored.{IsStored, both, piece_is, told_of}

-- ---- the last number that passes a test

record IsLastOf (test : ℕ → Bool) (n k : ℕ) : Type 0 where
  pub at : ℕ
  pub below : at < n
  pub passes : test at ≡ true
  pub from : k ≤ at
  pub later : (j : ℕ) → at < j → j < n → test j ≡ false

last_of : (test : ℕ → Bool) (n k : ℕ) → k < n → test k ≡ true → IsLastOf test n k
last_of test zero k below passes = absurd (omega (arith, below))
last_of test (suc n) k below passes = elim (cases_Bool (test n)) [
  | inl is ↦ record { at = n; below = omega arith; passes = is; from = omega (arith, below); later = λ j more less. absurd (omega (arith, more, less)) }
  | inr fails ↦ elim (cases_eq k n) [
    | inl same ↦ absurd (true≢false (sym passes ∙ (ap test same ∙ fails)))
    | inr other ↦
        (let rest = last_of test n k (omega (arith, below, other)) passes in
        let low = rest.below in record {
          at = rest.at;
          below = omega (arith, low);
          passes = rest.passes;
          from = rest.from;
          later = λ j more less. elim (cases_eq j n) [
            | inl same ↦ ap test same ∙ fails
            | inr apart ↦ rest.later j more (omega (arith, less, apart))
          ];
        })
  ]
]

-- ---- a store at a step

abbrev store_in : Effect → ℕ → Bool
store_in (Executes hart) a = false
store_in (Stops (stop.Load address width signed rd)) a = false
store_in (Stops (stop.Store address width value)) a = nat_le address a && nat_lt a (address + width)
store_in (Stops stop.Ended) a = false
store_in (Stops (stop.Fault cause pc)) a = false

abbrev store_at : LoadedImage → Progress → ℕ → Bool
store_at image (Runs h after) a = store_in (hart_effect image h) a
store_at image (Ends h after) a = false
store_at image (Faults cause pc after) a = false

shows : (image : LoadedImage) (epoch step a : ℕ) (memory : List ℕ) → StoresAt image epoch memory step a → store_at image (after_steps image step (start_of image epoch) memory) a ≡ true
shows image epoch step a memory there =
    ap (λ p. store_at image p a) there.runs ∙ (ap (λ e. store_in e a) there.stops
    ∙ both (nat_le there.address a) (nat_lt a (there.address + there.width)) (le-leb there.address a there.from) (lt-ltb a (there.address + there.width) there.below))

stored_by : (image : LoadedImage) (epoch step a : ℕ) (memory : List ℕ) (h : HartState) (after : List ℕ) (e : Effect) → hart_effect image h ≡ e
    → after_steps image step (start_of image epoch) memory ≡ Runs h after → store_in e a ≡ true → StoresAt image epoch memory step a
stored_by image epoch step a memory h after (Executes next) is runs some = absurd (true≢false (sym some))
stored_by image epoch step a memory h after (Stops (stop.Load address width signed rd)) is runs some = absurd (true≢false (sym some))
stored_by image epoch step a memory h after (Stops stop.Ended) is runs some = absurd (true≢false (sym some))
stored_by image epoch step a memory h after (Stops (stop.Fault cause pc)) is runs some = absurd (true≢false (sym some))
stored_by image epoch step a memory h after (Stops (stop.Store address width value)) is runs some =
    let parts = and_parts (nat_le address a) (nat_lt a (address + width)) some in record {
      hart = h;
      after = after;
      address = address;
      width = width;
      value = value;
      runs = runs;
      stops = is;
      from = leb-true address a parts.0;
      below = ltb-true a (address + width) parts.1;
    }

there_by : (image : LoadedImage) (epoch step a : ℕ) (memory : List ℕ) (p : Progress) → after_steps image step (start_of image epoch) memory ≡ p → store_at image p a ≡ true
    → StoresAt image epoch memory step a
there_by image epoch step a memory (Runs h after) is some = stored_by image epoch step a memory h after (hart_effect image h) refl is some
there_by image epoch step a memory (Ends h after) is some = absurd (true≢false (sym some))
there_by image epoch step a memory (Faults cause pc after) is some = absurd (true≢false (sym some))

-- the last store of the byte in this epoch
last_step : (image : LoadedImage) (epoch a step : ℕ) → StoresAt image epoch (memory_before image epoch) step a
    → (q : ℕ) × StoresAt image epoch (memory_before image epoch) q a × ((j : ℕ) → StoresAt image epoch (memory_before image epoch) j a → j ≤ q)
last_step image epoch a step there =
    let test : ℕ → Bool = λ j. store_at image (after_steps image j (start_of image epoch) (memory_before image epoch)) a in
    let long = lasts_some image epoch in
    let within = before_end image epoch long.0 step a long.1 there in
    let last = last_of test (long.0 + 1) step (omega (arith, within)) (shows image epoch step a (memory_before image epoch) there) in (
      last.at,
      there_by image epoch last.at a (memory_before image epoch) _ refl last.passes,
      λ j at_j. elim (cases_lt last.at j) [
        | inl more ↦
            (let low = before_end image epoch long.0 j a long.1 at_j in
            absurd (true≢false (sym (shows image epoch j a (memory_before image epoch) at_j) ∙ last.later j more (omega (arith, low)))))
        | inr most ↦ most
      ],
    )

-- ---- a core that is held

module _ (image : LoadedImage) (holds : Holding) (h : HoldsInOrder image holds) where
  told_back : (d a : ℕ) → holds.stores d a ≡ true → IsStored image d a
  told_back d a is =
      let any = Any-from_list_any (λ (s : ℕ × ℕ). (s.0 == a) && (s.1 == d)) h.stores (sym (ap (λ (x : Holding). x.stores d a) h.is) ∙ is) in
      let parts = and_parts (any.1.0 == a) (any.1.1 == d) any.4 in
      let stored = h.are.each any.1 (any.0, any.2, any.3) in
      subst (λ n. IsStored image n a) (eqb-true any.1.1 d parts.1) (subst (λ n. IsStored image any.1.1 n) (eqb-true any.1.0 a parts.0) stored)

  told_of_piece : (d a : ℕ) → holds.stores d (holds.piece a) ≡ true → IsStored image d a
  told_of_piece d a is = told_back d a (ap (holds.stores d) (sym (piece_is image holds h a)) ∙ is)

  -- of the epochs before this one, from another one on, the last that stores the byte, and its last store
  last_store : (epoch from a : ℕ) → epoch ≤ image.epochs → IsInOrder image epoch → from < epoch → IsStored image from a
      → (f : ℕ) × (from ≤ f) × ((q : ℕ) × LastStore image epoch a f q)
  last_store epoch from a most order before stored =
      let last = last_of (λ d. holds.stores d a) epoch from before (told_of image holds h from a stored) in
      let at = told_back last.at a last.passes in
      let one = subst (λ b. StoresAt image last.at (memory_before image last.at) at.stores.step b) at.of_piece at.stores.there in
      let step = last_step image last.at a at.stores.step one in (
        last.at,
        last.from,
        (
          step.0,
          record {
            before = last.below;
            there = step.1;
            last = λ d j low at_j. elim (cases_lt d last.at) [
              | inl less ↦ inl less
              | inr more ↦ elim (cases_eq d last.at) [
                | inl same ↦ inr (same, step.2 j (subst (λ n. StoresAt image n (memory_before image n) j a) same at_j))
                | inr other ↦
                    (let it : IsStored image d a = record {
                      within = omega (arith, low, most);
                      in_order = all_in_order image epoch d order (omega (arith, low));
                      byte = a;
                      of_piece = refl;
                      stores = record { step = j; there = at_j };
                    } in
                    absurd (true≢false (sym (told_of image holds h d a it) ∙ last.later d (omega (arith, more, other)) low)))
              ]
            ];
          },
        ),
      )

  right_or : (a b : Bool) → a ≡ false → (a || b) ≡ true → b ≡ true
  right_or true b none some = absurd cc
  right_or false b none some = some

  none_of_places : (pc : ℕ) → holds.places pc ≡ false
  none_of_places pc = ap (λ (x : Holding). x.places pc) h.is

  -- where it is held at a load, the load depends on an epoch from the homefree one on
  pub held_depends : (homefree epoch : ℕ) (own : ℕ → Option ℕ) (hart : HartState) (address width rd : ℕ) (signed : Bool)
      → epoch < image.epochs → IsInOrder image epoch → IsAt image epoch (memory_before image epoch) hart own
      → (next_event image hart).at ≡ stop.Load address width signed rd → is_held holds image homefree (Some epoch) own (Some hart) ≡ true
      → (a : ℕ) × (f : ℕ) × (q : ℕ) × (homefree ≤ f) × DependsAt image epoch (next_event image hart).now.done a f q
  held_depends homefree epoch own hart address width rd signed within order at next held =
      let pc = (next_event image hart).now.pc in
      let waits = (and_parts (not (epoch == homefree)) (waits_by holds homefree epoch own pc (next_event image hart).at) held).1 in
      let load : (holds.places pc || reads_stored holds homefree epoch own address width) ≡ true = sym (ap (waits_by holds homefree epoch own pc) next) ∙ waits in
      let reads = right_or (holds.places pc) (reads_stored holds homefree epoch own address width) (none_of_places pc) load in
      let one = some_below width (λ i. is_none (own (address + i)) && is_stored holds homefree epoch (holds.piece (address + i))) reads in
      let i = one.0 in
      let low = one.1 in
      let parts = and_parts (is_none (own (address + i))) (is_stored holds homefree epoch (holds.piece (address + i))) one.2 in
      let a = address + i in
      let none = none_is (own a) parts.0 in
      let by = some_below epoch (λ d. nat_le homefree d && holds.stores d (holds.piece a)) parts.1 in
      let d_parts = and_parts (nat_le homefree by.0) (holds.stores by.0 (holds.piece a)) by.2 in
      let stored = told_of_piece by.0 a d_parts.1 in
      let last = last_store epoch by.0 a (omega (arith, within)) order by.1 stored in
      let from = leb-true homefree by.0 d_parts.0 in
      let more = last.1 in (
        a,
        last.0,
        last.2.0,
        omega (arith, from, more),
        record {
          within = within;
          in_order = order;
          there = loads_there image epoch (memory_before image epoch) hart own at address width signed rd a next (omega arith) (omega (arith, low));
          exposed = λ step before. before_event image epoch (memory_before image epoch) hart own at a step none before;
          store = last.2.1;
        },
      )
