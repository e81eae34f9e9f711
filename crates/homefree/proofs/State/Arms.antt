-- One lemma for each kind of turn: where the state and the store agree and the store did what its rule says, the entries are
-- legal in this order, and the state after them agrees with the store.
use Rattle.std.proofs.Common.{◌≡◌, ◌≢◌, ℕ, zero, suc, ◌<◌, ◌≤◌, ◌==◌, ◌&&◌, not, Bool, true, false, cond, List, [], ◌++◌, Option, Some, None, unwrap_or, refl, sym, ap, ◌∙◌, inl, inr, arith, eq-eqb, lt-ltb}
use Rattle.std.proofs.lemmas.Bool.{cases_Bool}
use Rattle.rv32_exec.specs.declared.stop.Stop.{Stop}
use Rattle.rv32_exec.specs.declared.stop.Stop.TheVariants as stop
use Rattle.rv32_image.specs.Image.{LoadedImage}
use Rattle.rv32_exec.specs.Hart.{stepped}
use Rattle.rv32_exec.specs.Arrival.{after_number}
use Rattle.rv32_exec.specs.NextEvent.{next_event}
use Rattle.memory_bytes.specs.Bytes.{number_at}
use Rattle.memory_bytes.specs.Maps.{nothing, joined, over, stored, read_outside}
use Rattle.memory_bytes.proofs.Bytes.{number_at_same}
use Rattle.spec_history.specs.declared.entry.Entry.{Entry}
use Rattle.spec_history.specs.declared.entry.What.{What}
use Rattle.spec_history.specs.declared.entry.What.TheVariants.{Start, Load, Store, Restart, Publish}
use Rattle.spec_history.specs.FlatState.{CoreState, FlatState, begun}
use Rattle.spec_history.specs.Effect.{by_core, with_core, effect_on, effect_idle}
use Rattle.spec_history.specs.Refusal.{refusal_of, is_that_load, is_that_store, is_that_fault, misses_a_hurt}
use Rattle.spec_history.specs.Replay.{replay_from}
use Rattle.spec_history.specs.Laws.{IsKept}
use Rattle.spec_history.proofs.OneEntry.Going.{Spares}
use Rattle.spec_history.proofs.OneEntry.Legal.{legal_is, load_is_that, store_is_that, fault_is_that}
use Rattle.spec_history.proofs.Replay.Joining.{one_entry, then_entries, spares_all}
use Rattle.spec_history.proofs.Searches.Missing.{idle_misses, quiet_misses, misses_by, straight_store_commits, other_store_commits, none_changes}
use Rattle.spec_history.proofs.Replay.Replays.{effect-on, effect-idle}
use Rattle.violations.specs.declared.attempt.Attempt.{Attempt}
use Rattle.violations.specs.View.{StoreView, IsSettled, attempt_of, epoch_of}
use Rattle.violations.specs.Rule.{HurtsLater, Begins, Loads, Stores, Publishes, LoadsStraight, StoresStraight}
use Rattle.homefree.specs.Agrees.{AgreesCore, AgreesAt, Agrees}
use Rattle.homefree.specs.Hurts.{entry, entry_for_each, hurts, with_hurts}
use Rattle.homefree.proofs.State.Legality.{by_it}
use Rattle.homefree.proofs.State.HurtsReplay.{CanBeHurt, hurts_replay, still_runs}
use Rattle.homefree.proofs.State.Others.{IsOfSameKind, same_at, others_agree, others_spared, can_be_hurt_all, agrees_with, runs_on}
use Rattle.homefree.proofs.State.Accesses.{begun_agrees, load_core, store_core, straight_core}

-- the entries replay from the one state to the other, with which the store agrees
pub record Comes (image : LoadedImage) (count : ℕ) (s : FlatState) (entries : List Entry) (t : FlatState) (w : StoreView) : Type 0 where
  pub replays : replay_from image count s entries ≡ Some t
  pub agrees : Agrees t w

-- ---- idle and hurt cores

others_same : (m : ℕ → ℕ) (v w : StoreView) (by epoch k : ℕ) (core : Option CoreState) → Begins v w by epoch → k ≢ by → AgreesAt m v k core → AgreesAt m w k core
others_same m v w by epoch k core begins other f = same_at m m v w k core (begins.shape, begins.cached) (λ a. refl) (begins.others k other) f

pub starts : (image : LoadedImage) (count : ℕ) (s : FlatState) (v w : StoreView) (by : ℕ) → s.end ≡ None → Agrees s v → s.cores by ≡ None → by < count
    → s.next_epoch < image.epochs → IsSettled v → Begins v w by s.next_epoch
    → Comes image count s (entry by (Start s.next_epoch)) (effect_idle image s by (Start s.next_epoch)) w
starts image count s v w by going agrees idle there left settled begins =
    let one : Entry = record { by = by; what = Start s.next_epoch } in
    let legal : refusal_of image count s one ≡ None = legal_is image count s one (record {
      going = going;
      there = rw (lt-ltb by count there, idle) refl;
      next = rw (eq-eqb s.next_epoch s.next_epoch refl, lt-ltb s.next_epoch image.epochs left) refl;
      homefree = refl;
      value = refl;
      spares = idle_misses image count s by (Start s.next_epoch) idle;
      cancelled = refl;
    }) in
    let none = (agrees.core going by).idle idle in record {
      replays = one_entry image count s one legal ∙ ap Some (effect-idle image s by (Start s.next_epoch) idle);
      agrees = record {
        committed = λ a. begins.committed a ∙ agrees.committed a;
        core = λ still k. agrees_with s.committed w by (Some (begun image s.next_epoch)) s.cores
            (runs_on s.committed w by (begun image s.next_epoch) refl (begun_agrees image s.committed v w by s.next_epoch settled none agrees.committed begins))
            (λ j other. others_same s.committed v w by s.next_epoch j (s.cores j) begins other (agrees.core going j)) k;
      };
    }

pub restarts : (image : LoadedImage) (count : ℕ) (s : FlatState) (v w : StoreView) (by : ℕ) (c : CoreState) → s.end ≡ None → Agrees s v → s.cores by ≡ Some c → c.hurt ≡ true
    → IsSettled v → Begins v w by c.epoch
    → Comes image count s (entry by Restart) (effect_on image s by c Restart) w
restarts image count s v w by c going agrees at hurt settled begins =
    let one : Entry = record { by = by; what = Restart } in
    let legal : refusal_of image count s one ≡ None = legal_is image count s one (record {
      going = going;
      there = by_it (s.cores by) c (λ x. x.hurt) at hurt;
      next = refl;
      homefree = refl;
      value = refl;
      spares = quiet_misses image count s by Restart c at tt;
      cancelled = refl;
    }) in
    let none = (agrees.core going by).hurt c at hurt in record {
      replays = one_entry image count s one legal ∙ ap Some (effect-on image s by Restart c at);
      agrees = record {
        committed = λ a. begins.committed a ∙ agrees.committed a;
        core = λ still k. agrees_with s.committed w by (Some (begun image c.epoch)) s.cores
            (runs_on s.committed w by (begun image c.epoch) refl (begun_agrees image s.committed v w by c.epoch settled none agrees.committed begins))
            (λ j other. others_same s.committed v w by c.epoch j (s.cores j) begins other (agrees.core going j)) k;
      };
    }

-- ---- the states after accesses

-- the state after a load, and after a store, by whether the core is straight
abbrev loaded_by : LoadedImage → FlatState → ℕ → CoreState → ℕ → ℕ → ℕ → Bool → FlatState
loaded_by image t by c address width value b =
    let hart = after_number (next_event image c.hart).now (next_event image c.hart).at value in record t {
      published = cond b hart.done t.published;
      cores = with_core t.cores by (Some (record c { hart = hart; outside = cond b c.outside (joined (read_outside address width c.own t.committed) c.outside) }));
    }

abbrev stored_by : LoadedImage → FlatState → ℕ → CoreState → ℕ → ℕ → ℕ → Bool → FlatState
stored_by image t by c address width value b =
    let hart = stepped (next_event image c.hart).now in record t {
      committed = cond b (over (stored address width value) t.committed) t.committed;
      published = cond b hart.done t.published;
      cores = with_core t.cores by (Some (record c { hart = hart; own = cond b c.own (joined (stored address width value) c.own) }));
    }

abbrev pub loaded_state : LoadedImage → FlatState → ℕ → CoreState → ℕ → ℕ → ℕ → FlatState
loaded_state image t by c address width value = record t {
  cores = with_core t.cores by (Some (record c {
    hart = after_number (next_event image c.hart).now (next_event image c.hart).at value;
    outside = joined (read_outside address width c.own t.committed) c.outside;
  }));
}

abbrev pub stored_state : LoadedImage → FlatState → ℕ → CoreState → ℕ → ℕ → ℕ → FlatState
stored_state image t by c address width value = record t {
  cores = with_core t.cores by (Some (record c { hart = stepped (next_event image c.hart).now; own = joined (stored address width value) c.own }));
}

abbrev pub loaded_straight : LoadedImage → FlatState → ℕ → CoreState → ℕ → FlatState
loaded_straight image t by c value =
    let hart = after_number (next_event image c.hart).now (next_event image c.hart).at value in
    record t { published = hart.done; cores = with_core t.cores by (Some (record c { hart = hart })) }

abbrev pub stored_straight : LoadedImage → FlatState → ℕ → CoreState → ℕ → ℕ → ℕ → FlatState
stored_straight image t by c address width value =
    let hart = stepped (next_event image c.hart).now in
    record t { committed = over (stored address width value) t.committed; published = hart.done; cores = with_core t.cores by (Some (record c { hart = hart })) }

-- ---- the turns of a core that runs

is_load : (address width : ℕ) (signed : Bool) (rd : ℕ) (at : Stop) → at ≡ stop.Load address width signed rd → is_that_load address width at ≡ true
is_load address width signed rd at is = ap (is_that_load address width) is ∙ load_is_that address width signed rd

is_store : (address width value : ℕ) (at : Stop) → at ≡ stop.Store address width value → is_that_store address width value at ≡ true
is_store address width value at is = ap (is_that_store address width value) is ∙ store_is_that address width value

is_fault : (cause pc : ℕ) (at : Stop) → at ≡ stop.Fault cause pc → is_that_fault cause pc at ≡ true
is_fault cause pc at is = ap (is_that_fault cause pc) is ∙ fault_is_that cause pc

-- no core is among these
pub none_among : (by : ℕ) (what : ℕ → What) (n : ℕ) → entry_for_each by (λ _. false) what n ≡ []
none_among by what zero = refl
none_among by what (suc n) = ap (λ (xs : List Entry). xs ++ []) (none_among by what n)

module _ (image : LoadedImage) (count : ℕ) (s : FlatState) (v : StoreView) (by : ℕ) (c : CoreState)
    (going : s.end ≡ None) (kept : IsKept image count s) (agrees : Agrees s v) (at : s.cores by ≡ Some c) (unhurt : c.hurt ≡ false) where
  abbrev core : AgreesCore s.committed v by c
  core = (agrees.core going by).runs c at unhurt

  runs_there : (t : FlatState) (test : CoreState → Bool) → t.cores by ≡ Some c → test c ≡ true → by_core (t.cores by) false (λ x. not x.hurt && test x) ≡ true
  runs_there t test at_t passes = by_it (t.cores by) c (λ x. not x.hurt && test x) at_t (ap (λ b. not b && test c) unhurt ∙ passes)

  -- ---- the conditions of the store's calls

  other_attempt : (k : ℕ) (core : Option CoreState) → s.cores k ≡ core → AgreesAt s.committed v k core → (x : Attempt) → v.attempt k ≡ Some x
      → (d : CoreState) × (s.cores k ≡ Some d) × (x.epoch ≡ d.epoch)
  other_attempt k None at_k f x has = let none = f.idle refl in absurd cc
  other_attempt k (Some d) at_k f x has = elim (cases_Bool d.hurt) [
    | inl is ↦ let none = f.hurt d refl is in absurd cc
    | inr free ↦ let g = (f.runs d refl free).attempt in (d, at_k, ap epoch_of (sym has ∙ g))
  ]

  -- no attempt is of an earlier epoch than the homefree core's
  pub is_first : c.epoch ≡ s.homefree → (k : ℕ) (x : Attempt) → v.attempt k ≡ Some x → c.epoch ≤ x.epoch
  is_first homefree k x has =
      let found = other_attempt k (s.cores k) refl (agrees.core going k) x has in
      let from = (kept.core k found.0 found.1).from in
      let same = found.2 in
      omega (arith, homefree, from, same)

  module _ (w : StoreView) (hurt : ℕ → Bool) (kind : IsOfSameKind v w) (others : HurtsLater v w by hurt) where
    abbrev t : FlatState
    t = with_hurts hurt s

    can : (k : ℕ) → hurt k ≡ true → CanBeHurt s c k
    can = can_be_hurt_all image count s v w by c hurt going kept agrees at unhurt others

    at_t : t.cores by ≡ Some c
    at_t = still_runs image count s by c hurt going kept at unhurt others.not_itself can

    -- the hurts, and then one entry
    comes : (what : What) (u : FlatState) (x : StoreView) → refusal_of image count t (record { by = by; what = what }) ≡ None → effect_on image t by c what ≡ u → Agrees u x
        → Comes image count s (hurts count s by hurt ++ entry by what) u x
    comes what u x legal is agrees_u = record {
      replays = then_entries image count (hurts count s by hurt) (entry by what) s t u
          (hurts_replay image count s by c hurt going kept at unhurt others.not_itself can)
          (one_entry image count t (record { by = by; what = what }) legal ∙ ap Some (effect-on image t by what c at_t ∙ is));
      agrees = agrees_u;
    }

    -- memory as the call left it, the caller as it is, and the others
    agrees_then : (u : FlatState) (new : CoreState) → u.cores ≡ with_core t.cores by (Some new) → ((a : ℕ) → w.committed a ≡ u.committed a) → new.hurt ≡ false
        → AgreesCore u.committed w by new → Agrees u w
    agrees_then u new cores committed free mine = record {
      committed = committed;
      core = λ still k. rw cores (agrees_with u.committed w by (Some new) t.cores (runs_on u.committed w by new free mine)
          (λ j other. others_agree s u.committed v w by hurt going agrees kind others committed j other) k);
    }

    spared : (m : ℕ → ℕ) → ((a : ℕ) → w.committed a ≡ m a) → Spares t by m
    spared m committed = others_spared s m v w by hurt going agrees others committed

    same_committed : ((a : ℕ) → w.committed a ≡ v.committed a) → (a : ℕ) → w.committed a ≡ s.committed a
    same_committed same a = same a ∙ agrees.committed a

    value_by : (address width value : ℕ) → value ≡ number_at (v.sees by) address width → number_at (over c.own s.committed) address width ≡ value
    value_by address width value is = sym (is ∙ number_at_same (v.sees by) (over c.own s.committed) address width (λ a low high. core.sees a))

    load_legal : (address width value : ℕ) (signed : Bool) (rd : ℕ) → (next_event image c.hart).at ≡ stop.Load address width signed rd
        → number_at (over c.own s.committed) address width ≡ value → refusal_of image count t (record { by = by; what = Load address width value }) ≡ None
    load_legal address width value signed rd next is = legal_is image count t (record { by = by; what = Load address width value }) (record {
      going = going;
      there = runs_there t (λ _. true) at_t refl;
      next = by_it (t.cores by) c (λ x. is_that_load address width (next_event image x.hart).at) at_t (is_load address width signed rd _ next);
      homefree = refl;
      value = by_it (t.cores by) c (λ x. number_at (over x.own s.committed) address width == value) at_t (eq-eqb _ value is);
      spares = quiet_misses image count t by (Load address width value) c at_t tt;
      cancelled = refl;
    })

    store_legal : (address width value : ℕ) → (next_event image c.hart).at ≡ stop.Store address width value
        → misses_a_hurt image count t (record { by = by; what = Store address width value }) ≡ false → refusal_of image count t (record { by = by; what = Store address width value }) ≡ None
    store_legal address width value next spares = legal_is image count t (record { by = by; what = Store address width value }) (record {
      going = going;
      there = runs_there t (λ _. true) at_t refl;
      next = by_it (t.cores by) c (λ x. is_that_store address width value (next_event image x.hart).at) at_t (is_store address width value _ next);
      homefree = refl;
      value = refl;
      spares = spares;
      cancelled = refl;
    })

    -- a speculative load
    pub loads : (address width value : ℕ) (signed : Bool) (rd : ℕ) → c.straight ≡ false → (next_event image c.hart).at ≡ stop.Load address width signed rd → Loads v w by address width value hurt
        → Comes image count s (hurts count s by hurt ++ entry by (Load address width value)) (loaded_state image t by c address width value) w
    loads address width value signed rd speculates next l =
        let hart = after_number (next_event image c.hart).now (next_event image c.hart).at value in
        let new : CoreState = record c { hart = hart; outside = joined (read_outside address width c.own s.committed) c.outside } in
        let becomes = ap (loaded_by image t by c address width value) speculates in
        comes (Load address width value) (loaded_state image t by c address width value) w (load_legal address width value signed rd next (value_by address width value l.value_is)) becomes
        (agrees_then (loaded_state image t by c address width value) new refl (same_committed l.committed) unhurt (load_core v w by address width value hurt s.committed c hart core l))

    -- a speculative store
    pub stores : (address width value : ℕ) → c.straight ≡ false → (next_event image c.hart).at ≡ stop.Store address width value → Stores v w by address width value hurt
        → Comes image count s (hurts count s by hurt ++ entry by (Store address width value)) (stored_state image t by c address width value) w
    stores address width value speculates next l =
        let hart = stepped (next_event image c.hart).now in
        let new : CoreState = record c { hart = hart; own = joined (stored address width value) c.own } in
        let becomes = ap (stored_by image t by c address width value) speculates in
        let legal = store_legal address width value next (misses_by image count t by (Store address width value) c s.committed at_t (other_store_commits image t by c address width value speculates)
        ∙ none_changes image.size count t by s.committed (λ a. refl)) in
        comes (Store address width value) (stored_state image t by c address width value) w legal becomes
        (agrees_then (stored_state image t by c address width value) new refl (same_committed l.committed) unhurt (store_core v w by address width value hurt s.committed c hart core l))

    -- what was committed is what the core saw
    published_bytes : Publishes v w by hurt → (a : ℕ) → w.committed a ≡ over c.own s.committed a
    published_bytes p a = p.committed a ∙ core.sees a

    published_attempt : Publishes v w by hurt → w.attempt by ≡ Some (attempt_of c.epoch true)
    published_attempt p = p.attempt ∙ ap (λ o. Some (attempt_of (epoch_of o) true)) core.attempt

    -- the homefree core publishes
    pub publishes : IsSettled w → c.straight ≡ false → c.epoch ≡ s.homefree → Publishes v w by hurt
        → Comes image count s (hurts count s by hurt ++ entry by Publish) (effect_on image t by c Publish) w
    publishes settled speculates homefree p =
        let new : CoreState = record c { own = nothing; outside = nothing; straight = true } in
        let committed = published_bytes p in
        let legal = legal_is image count t (record { by = by; what = Publish }) (record {
          going = going;
          there = runs_there t (λ x. not x.straight) at_t (ap not speculates);
          next = refl;
          homefree = by_it (t.cores by) c (λ x. x.epoch == s.homefree) at_t (eq-eqb c.epoch s.homefree homefree);
          value = refl;
          spares = misses_by image count t by Publish c (over c.own s.committed) at_t refl
              ∙ spares_all image.size count t by (over c.own s.committed) (spared (over c.own s.committed) committed);
          cancelled = refl;
        }) in
        comes Publish (effect_on image t by c Publish) w legal refl
        (agrees_then (effect_on image t by c Publish) new refl committed unhurt
        (straight_core w by (over c.own s.committed) new settled (published_attempt p) refl (λ a. refl) (λ a. refl) committed))

    -- ---- straight accesses

    straight_attempt : (o : Option Attempt) → c.straight ≡ true → o ≡ v.attempt by → o ≡ Some (attempt_of c.epoch true)
    straight_attempt o is same = same ∙ (core.attempt ∙ ap (λ b. Some (attempt_of c.epoch b)) is)

    pub loads_straight : (address width value : ℕ) (signed : Bool) (rd : ℕ) → IsSettled w → c.straight ≡ true → (next_event image c.hart).at ≡ stop.Load address width signed rd
        → LoadsStraight v w by address width value hurt
        → Comes image count s (hurts count s by hurt ++ entry by (Load address width value)) (loaded_straight image t by c value) w
    loads_straight address width value signed rd settled is next l =
        let hart = after_number (next_event image c.hart).now (next_event image c.hart).at value in
        let new : CoreState = record c { hart = hart } in
        let becomes = ap (loaded_by image t by c address width value) is in
        let was = kept.core by c at in
        let number = sym (l.value_is ∙ number_at_same v.committed (over c.own s.committed) address width (λ a low high. agrees.committed a ∙ sym (ap (λ o. unwrap_or o (s.committed a)) (was.straight_owns is a)))) in
        comes (Load address width value) (loaded_straight image t by c value) w (load_legal address width value signed rd next number) becomes
        (agrees_then (loaded_straight image t by c value) new refl (same_committed l.committed) unhurt
        (straight_core w by s.committed new settled (straight_attempt (w.attempt by) is l.attempt) is (was.straight_owns is) (was.straight_read is) (same_committed l.committed)))

    pub stores_straight : (address width value : ℕ) → IsSettled w → c.straight ≡ true → (next_event image c.hart).at ≡ stop.Store address width value
        → StoresStraight v w by address width value hurt
        → Comes image count s (hurts count s by hurt ++ entry by (Store address width value)) (stored_straight image t by c address width value) w
    stores_straight address width value settled is next l =
        let hart = stepped (next_event image c.hart).now in
        let new : CoreState = record c { hart = hart } in
        let m = over (stored address width value) s.committed in
        let committed : (a : ℕ) → w.committed a ≡ m a = λ a. l.committed a ∙ ap (unwrap_or (stored address width value a)) (agrees.committed a) in
        let becomes = ap (stored_by image t by c address width value) is in
        let was = kept.core by c at in
        let legal = store_legal address width value next (misses_by image count t by (Store address width value) c m at_t (straight_store_commits image t by c address width value is)
        ∙ spares_all image.size count t by m (spared m committed)) in
        comes (Store address width value) (stored_straight image t by c address width value) w legal becomes
        (agrees_then (stored_straight image t by c address width value) new refl committed unhurt
        (straight_core w by m new settled (straight_attempt (w.attempt by) is l.attempt) is (was.straight_owns is) (was.straight_read is) committed))
