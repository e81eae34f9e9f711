-- In a run in which each load waits for what earlier epochs store in order, over a store without caches in which no access waits: no core
-- is hurt, and each is on the path of its epoch in order.
use Rattle.std.proofs.Common.{◌≡◌, ◌≢◌, ℕ, ◌+◌, ◌<◌, ◌≤◌, ◌&&◌, nat_le, nat_lt, is_none, Bool, true, false, cond, is_some, List, [], ◌++◌, slice_index, Option, Some, None, if◌then◌else◌, refl, sym, ap, subst, ◌∙◌, inl, inr, true≢false, arith, eq-eqb}
use Rattle.std.proofs.Math.Path.{fun_ext}
use Rattle.std.proofs.lemmas.Bool.{cases_Bool, cases_eq, cond-false, leb-true, ltb-true}
use Rattle.std.proofs.lemmas.Option.{same_Some}
use Rattle.rv32_exec.specs.declared.stop.Stop.{Stop}
use Rattle.rv32_exec.specs.declared.stop.Stop.TheVariants as stop
use Rattle.rv32_exec.specs.declared.sequential.End.TheVariants as end
use Rattle.memory_bytes.specs.Bytes.{number_at}
use Rattle.memory_bytes.specs.Maps.{first_of, joined, over, read_outside, stored}
use Rattle.memory_bytes.proofs.Bytes.{number_at_same}
use Rattle.memory_bytes.proofs.SmallFacts.{none_is, seen_by}
use Rattle.rv32_image.specs.Image.{IsImage, LoadedImage}
use Rattle.rv32_image.proofs.SmallFacts.{none_and_some, value_of}
use Rattle.rv32_exec.specs.Hart.{HartState, start_of, stepped}
use Rattle.rv32_exec.specs.Arrival.{after_number}
use Rattle.rv32_exec.specs.NextEvent.{next_event}
use Rattle.rv32_exec.specs.Sequential.{exits}
use Rattle.spec_history.specs.declared.entry.Entry.{Entry}
use Rattle.spec_history.specs.declared.entry.What.TheVariants as what
use Rattle.spec_history.specs.Effect.{effect_idle, effect_on, with_core}
use Rattle.spec_history.specs.FlatState.{CoreState, FlatState, begun, end_at}
use Rattle.spec_history.specs.Replay.{counts_of, replay, replay_from}
use Rattle.spec_history.proofs.OneEntry.Accesses.{load_counts}
use Rattle.spec_history.proofs.OneEntry.Going.{Going}
use Rattle.spec_history.proofs.OneEntry.Keeping.{with_core_other, with_core_same}
use Rattle.spec_history.proofs.Replay.Replays.{replayed}
use Rattle.violations.specs.View.{IsSettled, StoreView}
use Rattle.violations.specs.Rule.{Begins, Ends, Loads, Stores}
use Rattle.homefree.specs.Agrees.{Agrees, AgreesCore}
use Rattle.homefree.specs.Hurts.{entry, epoch_on, hurt_if, hurts, with_hurts}
use Rattle.homefree.specs.Turned.{publishes_unless}
use Rattle.homefree.proofs.State.Arms as arm
use Rattle.homefree.proofs.State.Arms.{Comes, loaded_state, stored_state}
use Rattle.homefree.proofs.State.Ends as ending
use Rattle.homefree.proofs.State.Others.{IsOfSameKind, can_be_hurt_all}
use Rattle.epoch_paths.specs.InOrder.{IsInOrder, memory_before}
use Rattle.epoch_paths.specs.Kept.{IsAt}
use Rattle.epoch_paths.proofs.Paths.{at_start, past_load, past_store, path_stores}
use Rattle.epoch_paths.proofs.Cores.{IsFresh, fresh}
use Rattle.even_speed.specs.Held.{Holding, is_held}
use Rattle.even_speed.proofs.Moving.{hurts_calm, restarts_in}
use Rattle.limits.specs.HeldBound.{HoldsInOrder}
use Rattle.limits.proofs.Unstored.{IsStored, IsUnstored, all_long, reads_unstored, unstored_same}

-- a core that runs an epoch
pub record IsQuiet (image : LoadedImage) (homefree : ℕ) (c : CoreState) : Type 0 where
  pub unhurt : c.hurt ≡ false
  pub speculates : c.straight ≡ false
  -- what it has read from outside, no epoch before its own stores in order that hasn't committed
  pub unstored : (a : ℕ) → is_some (c.outside a) ≡ true → IsUnstored image homefree c.epoch a
  pub path : IsInOrder image c.epoch → IsAt image c.epoch (memory_before image c.epoch) c.hart c.own

abbrev pub AreQuiet : LoadedImage → FlatState → Type 0
AreQuiet image s = (k : ℕ) (c : CoreState) → s.cores k ≡ Some c → IsQuiet image s.homefree c

-- ---- what comes of a turn

-- to this state, which agrees with the store
pub record After (image : LoadedImage) (cores core : ℕ) (s u : FlatState) (entries : List Entry) (w : StoreView) : Type 0 where
  pub replays : replay_from image cores s entries ≡ Some u
  pub agrees : Agrees u w
  pub going : u.end ≡ None
  pub quiet : AreQuiet image u
  pub others : (k : ℕ) → k ≢ core → u.cores k ≡ s.cores k
  pub calm : (counts_of entries).restarts ≡ 0

-- it begins the next epoch
pub record Began (image : LoadedImage) (s u : FlatState) (core : ℕ) (hart : HartState) : Type 0 where
  pub idle : s.cores core ≡ None
  pub left : s.next_epoch < image.epochs
  pub runs : u.cores core ≡ Some (begun image s.next_epoch)
  pub hart_is : hart ≡ start_of image s.next_epoch
  pub homefree : u.homefree ≡ s.homefree
  pub next_epoch : u.next_epoch ≡ s.next_epoch + 1

abbrev pub IsAccess : Stop → Type 0
IsAccess (stop.Load address width signed rd) = Unit {0}
IsAccess (stop.Store address width value) = Unit {0}
IsAccess stop.Ended = ⊥
IsAccess (stop.Fault cause pc) = ⊥

-- it comes past its access
pub record Passed (image : LoadedImage) (s u : FlatState) (core : ℕ) (hart : HartState) : Type 0 where
  pub was : CoreState
  pub now : CoreState
  pub ran : s.cores core ≡ Some was
  pub access : IsAccess (next_event image was.hart).at
  pub runs : u.cores core ≡ Some now
  pub epoch : now.epoch ≡ was.epoch
  pub hart_is : now.hart ≡ hart
  pub count : hart.done ≡ (next_event image was.hart).now.done + 1
  pub homefree : u.homefree ≡ s.homefree
  pub next_epoch : u.next_epoch ≡ s.next_epoch

-- its epoch, the homefree one, commits
pub record Committed (image : LoadedImage) (s u : FlatState) (core : ℕ) : Type 0 where
  pub was : CoreState
  pub ran : s.cores core ≡ Some was
  pub ends : (next_event image was.hart).at ≡ stop.Ended
  pub epoch : was.epoch ≡ s.homefree
  pub idle : u.cores core ≡ None
  pub left : s.homefree + 1 ≢ image.epochs
  pub homefree : u.homefree ≡ s.homefree + 1
  pub next_epoch : u.next_epoch ≡ s.next_epoch

-- ---- a store that violates nobody

none_hurt : (hurt : ℕ → Bool) → ((k : ℕ) → hurt k ≡ true → ⊥) → hurt ≡ (λ k. false)
none_hurt hurt never = fun_ext (λ k. elim (cases_Bool (hurt k)) [ inl is ↦ absurd (never k is) | inr free ↦ free ])

still_same : (hurt : ℕ → Bool) (o : Option CoreState) (k : ℕ) → hurt ≡ (λ j. false) → hurt_if (hurt k) o ≡ o
still_same hurt o k none = ap (λ (f : ℕ → Bool). hurt_if (f k) o) none

-- what a load reads from outside
parts_by : (low high none : Bool) (here byte : ℕ) → cond ((low && high) && none) (Some here) None ≡ Some byte → (low ≡ true) × (high ≡ true) × (none ≡ true)
parts_by true true true here byte is = (refl, refl, refl)
parts_by true true false here byte is = absurd cc
parts_by true false none here byte is = absurd cc
parts_by false high none here byte is = absurd cc

read_parts : (address width a byte : ℕ) (own : ℕ → Option ℕ) (committed : ℕ → ℕ) → read_outside address width own committed a ≡ Some byte
    → (address ≤ a) × (a < address + width) × (own a ≡ None)
read_parts address width a byte own committed is =
    let parts = parts_by (nat_le address a) (nat_lt a (address + width)) (is_none (own a)) (committed a) byte is in
    (leb-true address a parts.0, ltb-true a (address + width) parts.1, none_is (own a) parts.2)

-- ---- one core changed

quiet_with : (image : LoadedImage) (core homefree homefree' : ℕ) (cores : ℕ → Option CoreState) (new : Option CoreState) → homefree ≤ homefree'
    → ((k : ℕ) (c : CoreState) → k ≢ core → cores k ≡ Some c → IsQuiet image homefree c)
    → ((c : CoreState) → new ≡ Some c → IsQuiet image homefree' c)
    → (k : ℕ) (c : CoreState) → with_core cores core new k ≡ Some c → IsQuiet image homefree' c
quiet_with image core homefree homefree' cores new more others here k c is = elim (cases_eq k core) [
  | inl e ↦ here c (sym (with_core_same cores core new) ∙ (ap (with_core cores core new) (sym e) ∙ is))
  | inr other ↦
      (let x = others k c other (sym (with_core_other cores core new k other) ∙ is) in record {
        unhurt = x.unhurt;
        speculates = x.speculates;
        unstored = λ a read d from. x.unstored a read d (omega (arith, from, more));
        path = x.path;
      })
]

begun_quiet : (image : LoadedImage) (homefree epoch : ℕ) → IsImage image → IsQuiet image homefree (begun image epoch)
begun_quiet image homefree epoch is = record {
  unhurt = refl;
  speculates = refl;
  unstored = λ a read. absurd (true≢false (sym read));
  path = λ order. at_start image epoch (memory_before image epoch) (all_long image epoch is order);
}

module _ (image : LoadedImage) (cores core : ℕ) (s : FlatState) (v w : StoreView) (history : List Entry) (is : IsImage image)
    (reached : replay image cores history ≡ Some s) (still : s.end ≡ None) (agrees : Agrees s v) (quiet : AreQuiet image s) where
  pub going : Going image cores s
  going = (replayed image cores history s is reached).going still

  pub is_fresh : IsFresh image s
  is_fresh = fresh image cores s going (going.shown.unpublished (λ k c at. (quiet k c at).speculates))

  pub begins : IsSettled v → s.cores core ≡ None → core < cores → s.next_epoch < image.epochs → Begins v w core s.next_epoch
      → (u : FlatState) × After image cores core s u (entry core (what.Start s.next_epoch)) w × Began image s u core (start_of image s.next_epoch)
  begins settled idle there left store =
      let y = arm.starts image cores s v w core still agrees idle there left settled store in (
        effect_idle image s core (what.Start s.next_epoch),
        record {
          replays = y.replays;
          agrees = y.agrees;
          going = still;
          quiet = quiet_with image core s.homefree s.homefree s.cores (Some (begun image s.next_epoch)) (omega arith) (λ k c other at. quiet k c at)
              (λ c at. subst (IsQuiet image s.homefree) (same_Some (begun image s.next_epoch) c at) (begun_quiet image s.homefree s.next_epoch is));
          others = λ k other. with_core_other s.cores core (Some (begun image s.next_epoch)) k other;
          calm = restarts_in core [] (record { by = core; what = what.Start s.next_epoch }) tt;
        },
        record {
          idle = idle;
          left = left;
          runs = with_core_same s.cores core (Some (begun image s.next_epoch));
          hart_is = refl;
          homefree = refl;
          next_epoch = refl;
        },
      )

  -- ---- a core that runs

  module _ (c : CoreState) (at : s.cores core ≡ Some c) where
    pub it : IsQuiet image s.homefree c
    it = quiet core c at

    mine : AgreesCore s.committed v core c
    mine = (agrees.core still core).runs c at it.unhurt

    in_loop : c.epoch ≤ image.epochs
    in_loop = let below = (going.kept.core core c at).below in let most = going.kept.started in omega (arith, below, most)

    module _ (holds : Holding) (h : HoldsInOrder image holds) (unheld : is_held holds image s.homefree (Some c.epoch) c.own (Some c.hart) ≡ false)
        (uncached : v.cached ≡ false) where
      -- the bytes that it reads from outside now
      read_now : (address width rd : ℕ) (signed : Bool) → (next_event image c.hart).at ≡ stop.Load address width signed rd
          → (a : ℕ) → address ≤ a → a < address + width → c.own a ≡ None → IsUnstored image s.homefree c.epoch a
      read_now address width rd signed next = reads_unstored image holds h s.homefree c.epoch c.own c.hart address width rd signed next unheld

      stands : (a : ℕ) → IsInOrder image c.epoch → IsUnstored image s.homefree c.epoch a → slice_index (memory_before image c.epoch) a ≡ s.committed a
      stands a order none = unstored_same image s.homefree c.epoch a is (going.kept.core core c at).from in_loop order none ∙ sym (is_fresh.same a)

      outside_by : (address width rd : ℕ) (signed : Bool) → (next_event image c.hart).at ≡ stop.Load address width signed rd
          → (a : ℕ) (o : Option ℕ) → read_outside address width c.own s.committed a ≡ o → is_some (first_of o (c.outside a)) ≡ true → IsUnstored image s.homefree c.epoch a
      outside_by address width rd signed next a None now read = it.unstored a read
      outside_by address width rd signed next a (Some byte) now read =
          let x = read_parts address width a byte c.own s.committed now in read_now address width rd signed next a x.0 x.1 x.2

      sees_right : (address width rd : ℕ) (signed : Bool) → (next_event image c.hart).at ≡ stop.Load address width signed rd → IsInOrder image c.epoch
          → number_at (over c.own (λ a. slice_index (memory_before image c.epoch) a)) address width ≡ number_at (over c.own s.committed) address width
      sees_right address width rd signed next order =
          number_at_same (over c.own (λ a. slice_index (memory_before image c.epoch) a)) (over c.own s.committed) address width
          (λ a low high. seen_by (c.own a) (slice_index (memory_before image c.epoch) a) (s.committed a)
          (λ none. stands a order (read_now address width rd signed next a low high none)))

      pub loads : (address width rd value : ℕ) (signed : Bool) (hurt : ℕ → Bool) → (next_event image c.hart).at ≡ stop.Load address width signed rd
          → Loads v w core address width value hurt
          → (u : FlatState) × After image cores core s u (hurts cores s core hurt ++ entry core (what.Load address width value)) w
          × Passed image s u core (after_number (next_event image c.hart).now (next_event image c.hart).at value)
      loads address width rd value signed hurt next l =
          let alike : IsOfSameKind v w = (l.shape, l.cached) in
          let free = none_hurt hurt (λ k is. true≢false (sym (l.crowded k is).cached ∙ uncached)) in
          let y = arm.loads image cores s v core c still going.kept agrees at it.unhurt w hurt alike l.others address width value signed rd it.speculates next l in
          let number : number_at (over c.own s.committed) address width ≡ value =
          sym (l.value_is ∙ number_at_same (v.sees core) (over c.own s.committed) address width (λ a low high. mine.sees a)) in
          let hart = after_number (next_event image c.hart).now (next_event image c.hart).at value in
          let new : CoreState = record c { hart = hart; outside = joined (read_outside address width c.own s.committed) c.outside } in
          let t = with_hurts hurt s in
          let new_quiet : IsQuiet image s.homefree new = record {
            unhurt = it.unhurt;
            speculates = it.speculates;
            unstored = λ a read. outside_by address width rd signed next a (read_outside address width c.own s.committed a) refl read;
            path = λ order. past_load image c.epoch (memory_before image c.epoch) c.hart c.own address width signed rd value (it.path order) next
                (sees_right address width rd signed next order ∙ number);
          } in (
            loaded_state image t core c address width value,
            record {
              replays = y.replays;
              agrees = y.agrees;
              going = still;
              quiet = quiet_with image core s.homefree s.homefree t.cores (Some new) (omega arith)
                  (λ k d other at_k. quiet k d (sym (still_same hurt (s.cores k) k free) ∙ at_k))
                  (λ d at_d. subst (IsQuiet image s.homefree) (same_Some new d at_d) new_quiet);
              others = λ k other. with_core_other t.cores core (Some new) k other ∙ still_same hurt (s.cores k) k free;
              calm = restarts_in core (hurts cores s core hurt) (record { by = core; what = what.Load address width value }) (hurts_calm core hurt (epoch_on s.cores) cores);
            },
            record {
              was = c;
              now = new;
              ran = at;
              access = subst IsAccess (sym next) tt;
              runs = with_core_same t.cores core (Some new);
              epoch = refl;
              hart_is = refl;
              count = load_counts image c.hart address width signed rd value next;
              homefree = refl;
              next_epoch = refl;
            },
          )

      pub saves : (address width value : ℕ) (hurt : ℕ → Bool) → (next_event image c.hart).at ≡ stop.Store address width value
          → Stores v w core address width value hurt
          → (u : FlatState) × After image cores core s u (hurts cores s core hurt ++ entry core (what.Store address width value)) w
          × Passed image s u core (stepped (next_event image c.hart).now)
      saves address width value hurt next l =
          let alike : IsOfSameKind v w = (l.shape, l.cached) in
          let free = none_hurt hurt (λ k is. true≢false (sym (l.eager k is) ∙ uncached)) in
          let y = arm.stores image cores s v core c still going.kept agrees at it.unhurt w hurt alike l.others address width value it.speculates next l in
          let hart = stepped (next_event image c.hart).now in
          let new : CoreState = record c { hart = hart; own = joined (stored address width value) c.own } in
          let t = with_hurts hurt s in
          let new_quiet : IsQuiet image s.homefree new = record {
            unhurt = it.unhurt;
            speculates = it.speculates;
            unstored = it.unstored;
            path = λ order. past_store image c.epoch (memory_before image c.epoch) c.hart c.own address width value (it.path order) next;
          } in (
            stored_state image t core c address width value,
            record {
              replays = y.replays;
              agrees = y.agrees;
              going = still;
              quiet = quiet_with image core s.homefree s.homefree t.cores (Some new) (omega arith)
                  (λ k d other at_k. quiet k d (sym (still_same hurt (s.cores k) k free) ∙ at_k))
                  (λ d at_d. subst (IsQuiet image s.homefree) (same_Some new d at_d) new_quiet);
              others = λ k other. with_core_other t.cores core (Some new) k other ∙ still_same hurt (s.cores k) k free;
              calm = restarts_in core (hurts cores s core hurt) (record { by = core; what = what.Store address width value }) (hurts_calm core hurt (epoch_on s.cores) cores);
            },
            record {
              was = c;
              now = new;
              ran = at;
              access = subst IsAccess (sym next) tt;
              runs = with_core_same t.cores core (Some new);
              epoch = refl;
              hart_is = refl;
              count = refl;
              homefree = refl;
              next_epoch = refl;
            },
          )

    -- ---- the homefree core publishes, and commits

    module _ (homefree : c.epoch ≡ s.homefree) (uncached : v.cached ≡ false) where
      pub in_order : IsInOrder image c.epoch
      in_order = subst (IsInOrder image) (sym homefree) is_fresh.done

      stores_it : (a : ℕ) → is_some (c.own a) ≡ true → IsStored image c.epoch a
      stores_it a some =
          let byte = value_of (c.own a) some in
          let below = (going.kept.core core c at).below in
          let most = going.kept.started in record {
            within = omega (arith, below, most);
            in_order = in_order;
            byte = a;
            of_piece = refl;
            stores = path_stores (it.path in_order) a byte.0 byte.1;
          }

      never_by : (between : StoreView) (hurt : ℕ → Bool) (b : Bool) → c.straight ≡ b → publishes_unless b v between core hurt → (k : ℕ) → hurt k ≡ true → ⊥
      never_by between hurt true straight p k is = true≢false (sym straight ∙ it.speculates)
      never_by between hurt false speculates p k is =
          let g = p.meets k is in
          let can = can_be_hurt_all image cores s v between core c hurt still going.kept agrees at it.unhurt p.others k is in
          let theirs = (agrees.core still k).runs can.core can.at can.unhurt in
          let read = theirs.guards_only g.at g.guarded in
          let same = read.itself uncached in
          let some : is_some (can.core.outside g.at) ≡ true = ap (λ a. is_some (can.core.outside a)) (sym same) ∙ read.read in
          let later = can.later in
          (quiet k can.core can.at).unstored g.at some c.epoch (omega (arith, homefree)) later (stores_it g.at (sym (mine.own g.at) ∙ g.is_one))

      never_hurt : (between : StoreView) (hurt : ℕ → Bool) → publishes_unless c.straight v between core hurt → (k : ℕ) → hurt k ≡ true → ⊥
      never_hurt between hurt p = never_by between hurt c.straight refl p

      pub commits : (between : StoreView) (hurt : ℕ → Bool) → publishes_unless c.straight v between core hurt → (next_event image c.hart).at ≡ stop.Ended
          → exits image (next_event image c.hart).now ≡ false → end_at image (s.homefree + 1) ≡ None → Ends between w core
          → (u : FlatState) × After image cores core s u (hurts cores s core hurt ++ entry core what.Commit) w × Committed image s u core
      commits between hurt publishes next stays more store =
          let free = none_hurt hurt (never_hurt between hurt publishes) in
          let p = ending.has_published image cores s v core c still going.kept agrees at it.unhurt between hurt publishes in
          let y = ending.commits image cores s v core c still going.kept agrees at it.unhurt between hurt p homefree w next stays store in
          let t = with_hurts hurt s in (
            effect_on image t core c what.Commit,
            record {
              replays = y.replays;
              agrees = y.agrees;
              going = cond-false (exits image (next_event image c.hart).now) (Some (end.Exit s.homefree)) (end_at image (s.homefree + 1)) stays ∙ more;
              quiet = quiet_with image core s.homefree (s.homefree + 1) t.cores None (omega arith)
                  (λ k d other at_k. quiet k d (sym (still_same hurt (s.cores k) k free) ∙ at_k)) (λ d none. absurd (none_and_some None d refl none));
              others = λ k other. with_core_other t.cores core None k other ∙ still_same hurt (s.cores k) k free;
              calm = restarts_in core (hurts cores s core hurt) (record { by = core; what = what.Commit }) (hurts_calm core hurt (epoch_on s.cores) cores);
            },
            record {
              was = c;
              ran = at;
              ends = next;
              epoch = homefree;
              idle = with_core_same t.cores core None;
              left = λ last. none_and_some (end_at image (s.homefree + 1)) (end.Done (s.homefree + 1)) more
                  (ap (λ (b : Bool). if b then Some (end.Done (s.homefree + 1)) else None) (eq-eqb (s.homefree + 1) image.epochs last));
              homefree = refl;
              next_epoch = refl;
            },
          )
