-- What each kind of turn makes of the timing of a run's epochs.
use Rattle.std.proofs.Common.{◌≡◌, ◌≢◌, ℕ, ◌+◌, ◌-◌, ◌<◌, ◌≤◌, Bool, true, false, is_some, List, [], ◌++◌, Option, Some, None, unwrap_or, if◌then◌else◌, refl, sym, ap, subst, ◌∙◌, inl, inr, true≢false, arith}
use Rattle.std.proofs.lemmas.Bool.{cases_Bool, cond-false}
use Rattle.rv32_exec.specs.declared.stop.Stop.TheVariants as stop
use Rattle.rv32_exec.specs.declared.sequential.End.TheVariants as end
use Rattle.memory_bytes.specs.Bytes.{number_at}
use Rattle.memory_bytes.specs.Maps.{joined, over, read_outside, stored}
use Rattle.memory_bytes.proofs.Bytes.{number_at_same}
use Rattle.rv32_image.specs.Image.{IsImage, LoadedImage}
use Rattle.rv32_image.proofs.SmallFacts.{value_of}
use Rattle.rv32_exec.specs.Hart.{HartState, start_of, stepped}
use Rattle.rv32_exec.specs.Arrival.{after_number}
use Rattle.rv32_exec.specs.NextEvent.{next_event}
use Rattle.rv32_exec.specs.Sequential.{after_stop, exits}
use Rattle.rv32_exec.specs.Laws.{HasStopped}
use Rattle.rv32_exec.proofs.LawsOfRuns.{later_event}
use Rattle.spec_history.specs.declared.entry.Entry.{Entry}
use Rattle.spec_history.specs.declared.entry.What.TheVariants as what
use Rattle.spec_history.specs.Effect.{effect_idle, effect_on, with_core}
use Rattle.spec_history.specs.FlatState.{CoreState, FlatState, begun, end_at}
use Rattle.spec_history.specs.Laws.{HasBytes}
use Rattle.spec_history.specs.Replay.{replay, replay_from}
use Rattle.spec_history.proofs.OneEntry.Accesses.{load_counts, still_read}
use Rattle.spec_history.proofs.OneEntry.Going.{Going}
use Rattle.spec_history.proofs.OneEntry.Keeping.{with_core_other, with_core_same}
use Rattle.spec_history.proofs.Replay.Joining.{history_goes_on, no_entry}
use Rattle.spec_history.proofs.Replay.Replays.{replayed}
use Rattle.violations.specs.View.{IsSettled, StoreView, is_accessed}
use Rattle.violations.specs.Rule.{Begins, Ends, Guards, HurtsLater, Loads, LoadsStraight, Stores, StoresStraight}
use Rattle.violations.proofs.Accesses.{stored_there}
use Rattle.homefree.specs.Agrees.{Agrees, AgreesCore}
use Rattle.homefree.specs.Hurts.{entry, hurt_if, hurts, with_hurts}
use Rattle.homefree.specs.Turned.{Acts, Follows, IsAt, Outcome, Turn, does, left_or_over, publishes_unless}
use Rattle.homefree.specs.Turned as turn
use Rattle.homefree.proofs.State.Arms as arm
use Rattle.homefree.proofs.State.Arms.{Comes, loaded_state, loaded_straight, stored_state, stored_straight}
use Rattle.homefree.proofs.State.Ends as ending
use Rattle.homefree.proofs.State.HurtsReplay.{CanBeHurt, hurts_replay, still_runs}
use Rattle.homefree.proofs.State.Others.{IsOfSameKind, can_be_hurt_all}
use Rattle.epoch_paths.specs.InOrder.{memory_before}
use Rattle.limits.specs.declared.limit.Waits.{Waits}
use Rattle.limits.specs.declared.limit.Waits.TheVariants.{Store}
use Rattle.limits.proofs.Marks.{IsDone, IsPath, IsTimed, IsTimedIn, IsUnder, Marks}
use Rattle.limits.proofs.Marking.{goes, hurt_back, hurt_some}
use Rattle.limits.proofs.Beginning.{again_marks, begins_again, begun_marks, one_here, one_other, starts}
use Rattle.limits.proofs.Events.{event_alters, event_marks, event_under}
use Rattle.limits.proofs.Pathing.{path_loaded, path_stored, shown_by, shown_more, shown_other, shown_past, straight_loaded, straight_stored}
use Rattle.limits.proofs.Leaving.{homefree_read, leaves, left_marks, path}
use Rattle.limits.proofs.Finishing.{IsBound, over_done, over_exit, over_fault}

-- ---- how long a core has still to go

-- how many instructions a core executes before its next event
abbrev pub gap : LoadedImage → Option CoreState → ℕ
gap image None = 0
gap image (Some c) = if c.hurt then 0 else (next_event image c.hart).now.done - c.hart.done

pub gap_hurt : (image : LoadedImage) (b : Bool) (o : Option CoreState) → gap image (hurt_if b o) ≤ gap image o
gap_hurt image true None = omega arith
gap_hurt image true (Some c) = omega arith
gap_hurt image false o = omega arith

pub gap_on : (image : LoadedImage) (o : Option CoreState) (c : CoreState) → o ≡ Some c → c.hurt ≡ false → gap image o ≡ (next_event image c.hart).now.done - c.hart.done
gap_on image o c is unhurt = ap (gap image) is ∙ ap (λ (b : Bool). if b then 0 else (next_event image c.hart).now.done - c.hart.done) unhurt

-- ---- what comes of a turn

-- the core goes on with this many instructions up to its next event
pub record Went (image : LoadedImage) (kind : Waits) (cores now core more : ℕ) (s : FlatState) (m : Marks) (entries : List Entry) (w : StoreView) : Type 0 where
  pub state : FlatState
  pub marks : Marks
  pub replays : replay_from image cores s entries ≡ Some state
  pub agrees : Agrees state w
  pub going : state.end ≡ None
  pub timed : IsTimedIn image kind cores now state marks
  pub own : marks.from core + gap image (state.cores core) ≤ now + 1 + more
  pub others : (k : ℕ) → k ≢ core → marks.from k + gap image (state.cores k) ≤ m.from k + gap image (s.cores k)

hurt_hurt : (b : Bool) (o : Option CoreState) (d : CoreState) → b ≡ true → hurt_if b o ≡ Some d → d.hurt ≡ false → ⊥
hurt_hurt true None d set is free = absurd cc
hurt_hurt true (Some c) d set is free =
    let same : (let x : CoreState = record c { hurt = true } in x) ≡ d = cc in true≢false (ap (λ (x : CoreState). x.hurt) same ∙ free)
hurt_hurt false o d set is free = true≢false (sym set)

module _ (image : LoadedImage) (cores core : ℕ) (kind : Waits) (now : ℕ) (s : FlatState) (m : Marks) (v w : StoreView) (history : List Entry) (is : IsImage image)
    (reached : replay image cores history ≡ Some s) (still : s.end ≡ None) (agrees : Agrees s v) (timed : IsTimedIn image kind cores now s m)
    (due : m.from core + gap image (s.cores core) ≤ now) where
  pub going : Going image cores s
  going = (replayed image cores history s is reached).going still

  after : (entries : List Entry) (u : FlatState) → replay_from image cores s entries ≡ Some u → u.end ≡ None → Going image cores u
  after entries u more none = (replayed image cores _ u is (history_goes_on image cores history entries s u reached more)).going none

  from : m.from core ≤ now
  from = omega (arith, due)

  -- ---- a core that begins, or is told its hart

  pub begins : IsSettled v → s.cores core ≡ None → core < cores → s.next_epoch < image.epochs → Begins v w core s.next_epoch
      → Went image kind cores now core ((next_event image (start_of image s.next_epoch)).now.done - (start_of image s.next_epoch).done) s m (entry core (what.Start s.next_epoch)) w
  begins settled idle there left store =
      let c = arm.starts image cores s v w core still agrees idle there left settled store in
      let own_from : (begun_marks m core s.next_epoch now).from core ≡ now + 1 = one_here m.from core (now + 1) in
      let own_gap = gap_on image (with_core s.cores core (Some (begun image s.next_epoch)) core) (begun image s.next_epoch) (with_core_same s.cores core (Some (begun image s.next_epoch))) refl in record {
        state = effect_idle image s core (what.Start s.next_epoch);
        marks = begun_marks m core s.next_epoch now;
        replays = c.replays;
        agrees = c.agrees;
        going = still;
        timed = starts image kind cores now s m core going.kept timed idle there from;
        own = omega (arith, own_from, own_gap);
        others = λ k other.
            let same = one_other m.from core (now + 1) k other in
            let it = ap (gap image) (with_core_other s.cores core (Some (begun image s.next_epoch)) k other) in omega (arith, same, it);
      }

  pub again : IsSettled v → (c : CoreState) → s.cores core ≡ Some c → c.hurt ≡ true → Begins v w core c.epoch
      → Went image kind cores now core ((next_event image (start_of image c.epoch)).now.done - (start_of image c.epoch).done) s m (entry core what.Restart) w
  again settled c at hurt store =
      let y = arm.restarts image cores s v w core c still agrees at hurt settled store in
      let own_from : (again_marks m core c.epoch now).from core ≡ now + 1 = one_here m.from core (now + 1) in
      let own_gap = gap_on image (with_core s.cores core (Some (begun image c.epoch)) core) (begun image c.epoch) (with_core_same s.cores core (Some (begun image c.epoch))) refl in record {
        state = effect_on image s core c what.Restart;
        marks = again_marks m core c.epoch now;
        replays = y.replays;
        agrees = y.agrees;
        going = still;
        timed = begins_again image kind cores now s m core c going.kept timed at;
        own = omega (arith, own_from, own_gap);
        others = λ k other.
            let same = one_other m.from core (now + 1) k other in
            let it = ap (gap image) (with_core_other s.cores core (Some (begun image c.epoch)) k other) in omega (arith, same, it);
      }

  pub told : (more : ℕ) → w ≡ v → Went image kind cores now core more s m [] w
  told more same = record {
    state = s;
    marks = m;
    replays = no_entry image cores s;
    agrees = subst (Agrees s) (sym same) agrees;
    going = still;
    timed = timed;
    own = omega (arith, due);
    others = λ k other. omega arith;
  }

  -- ---- a core that runs

  module _ (c : CoreState) (at : s.cores core ≡ Some c) (unhurt : c.hurt ≡ false) where
    abbrev event : ℕ
    event = (next_event image c.hart).now.done

    mine : AgreesCore s.committed v core c
    mine = (agrees.core still core).runs c at unhurt

    pub its_due : m.from core + (event - c.hart.done) ≤ now
    its_due = let is_gap = gap_on image (s.cores core) c at unhurt in omega (arith, due, is_gap)

    -- no core that isn't hurt has read a byte of which those are told that guard it
    missed : (hurt : ℕ → Bool) (bytes : ℕ → Bool) → ((k : ℕ) → k ≢ core → Guards v k bytes → hurt k ≡ true)
        → (k : ℕ) (d : CoreState) → k ≢ core → hurt_if (hurt k) (s.cores k) ≡ Some d → d.hurt ≡ false → (a : ℕ) → is_some (d.outside a) ≡ true → bytes a ≡ true → ⊥
    missed hurt bytes tells k d other at_k free a read one =
        let was = hurt_back (hurt k) (s.cores k) d at_k in
        let same = was.unhurt free in
        let runs : s.cores k ≡ Some d = was.at ∙ ap Some same in
        let g = (agrees.core still k).runs d runs free in
        let byte = value_of (d.outside a) read in
        hurt_hurt (hurt k) (s.cores k) d (tells k other (record { at = a; is_one = one; guarded = g.guards_read a byte.0 byte.1 })) at_k free

    unread_by : (hurt : ℕ → Bool) (b : Bool) (x : StoreView) → c.straight ≡ b → publishes_unless b v x core hurt
        → (k : ℕ) (d : CoreState) → k ≢ core → hurt_if (hurt k) (s.cores k) ≡ Some d → d.hurt ≡ false → (a : ℕ) → is_some (d.outside a) ≡ true → is_some (c.own a) ≡ false
    unread_by hurt true x straight p k d other at_k free a read = ap (λ o. is_some o) ((going.kept.core core c at).straight_owns straight a)
    unread_by hurt false x straight p k d other at_k free a read = elim (cases_Bool (is_some (c.own a))) [
      | inl own ↦ absurd (missed hurt (v.own core) p.tells k d other at_k free a read (mine.own a ∙ own))
      | inr none ↦ none
    ]

    -- it publishes
    pub unread : (hurt : ℕ → Bool) (x : StoreView) → publishes_unless c.straight v x core hurt
        → (k : ℕ) (d : CoreState) → k ≢ core → hurt_if (hurt k) (s.cores k) ≡ Some d → d.hurt ≡ false → d.straight ≡ false → (a : ℕ) → is_some (d.outside a) ≡ true
        → shown_by c.own m.shown now a ≤ m.shown a
    unread hurt x p k d other at_k free speculates a read =
        let none = unread_by hurt c.straight x refl p k d other at_k free a read in
        let same = shown_other c.own m.shown now a none in omega (arith, same)

    -- ---- accesses

    module _ (hurt : ℕ → Bool) (alike : IsOfSameKind v w) (others : HurtsLater v w core hurt) where
      abbrev u : FlatState
      u = with_hurts hurt s

      can : (k : ℕ) → hurt k ≡ true → CanBeHurt s c k
      can = can_be_hurt_all image cores s v w core c hurt still going.kept agrees at unhurt others

      at_u : u.cores core ≡ Some c
      at_u = still_runs image cores s core c hurt still going.kept at unhurt others.not_itself can

      going_u : Going image cores u
      going_u = after (hurts cores s core hurt) u (hurts_replay image cores s core c hurt still going.kept at unhurt others.not_itself can) still

      timed_u : IsTimedIn image kind cores now u m
      timed_u = hurt_some image kind cores now s m hurt timed

      under : IsUnder image kind m core c
      under = (timed_u.core core c at_u).under unhurt

      -- the core comes past its event, and these bytes are committed
      module _ (shown : ℕ → ℕ) (more : (a : ℕ) → m.shown a ≤ shown a) (most : (a : ℕ) → shown a ≤ now)
          (unread' : (k : ℕ) (d : CoreState) → k ≢ core → hurt_if (hurt k) (s.cores k) ≡ Some d → d.hurt ≡ false → d.straight ≡ false → (a : ℕ) → is_some (d.outside a) ≡ true → shown a ≤ m.shown a) where
        abbrev past_marks : Marks
        past_marks = event_marks m core c.epoch c.hart.done event now shown

        timed_past : (new : CoreState) → new.epoch ≡ c.epoch → (new.straight ≡ true → kind ≡ Store) → new.hart.done ≡ event + 1
            → (HasBytes image new.outside (memory_before image new.epoch) → IsPath image kind past_marks new)
            → IsTimed image kind cores now s.homefree s.next_epoch (with_core u.cores core (Some new)) past_marks
        timed_past new epoch store done path_new =
            goes image kind cores now u m past_marks core c going_u.kept timed_u at_u
            (event_alters m core c.epoch c.hart.done event now shown (timed.begun c.epoch) more most) refl unread' new epoch store
            (λ free. event_under image kind m core event now shown c new under epoch (later_event image c.hart) its_due done path_new)

        comes_past : (new : CoreState) (x : FlatState) (entries : List Entry) (hart : HartState) → x.cores ≡ with_core u.cores core (Some new) → new.hurt ≡ false → new.hart ≡ hart
            → IsTimedIn image kind cores now x past_marks → replay_from image cores s entries ≡ Some x → Agrees x w → x.end ≡ None
            → Went image kind cores now core ((next_event image hart).now.done - hart.done) s m entries w
        comes_past new x entries hart cores_are free hart_is timed_x replays agrees_x going_x =
            let own_from : past_marks.from core ≡ now + 1 = one_here m.from core (now + 1) in
            let own_gap = gap_on image (x.cores core) new (ap (λ (f : ℕ → Option CoreState). f core) cores_are ∙ with_core_same u.cores core (Some new)) free in
            let same_gap = ap (λ (h : HartState). (next_event image h).now.done - h.done) hart_is in record {
              state = x;
              marks = past_marks;
              replays = replays;
              agrees = agrees_x;
              going = going_x;
              timed = timed_x;
              own = omega (arith, own_from, own_gap, same_gap);
              others = λ k other.
                  let same = one_other m.from core (now + 1) k other in
                  let it = ap (gap image) (ap (λ (f : ℕ → Option CoreState). f k) cores_are ∙ with_core_other u.cores core (Some new) k other) in
                  let less = gap_hurt image (hurt k) (s.cores k) in omega (arith, same, it, less);
            }

    no_more : (a : ℕ) → m.shown a ≤ m.shown a
    no_more a = omega arith

    pub loads : c.straight ≡ false → (address width rd value : ℕ) (signed : Bool) (hurt : ℕ → Bool) → (next_event image c.hart).at ≡ stop.Load address width signed rd
        → Loads v w core address width value hurt
        → Went image kind cores now core ((next_event image (turn.loaded_hart image c value)).now.done - (turn.loaded_hart image c value).done) s m
        (hurts cores s core hurt ++ entry core (what.Load address width value)) w
    loads speculates address width rd value signed hurt next l =
        let alike : IsOfSameKind v w = (l.shape, l.cached) in
        let y = arm.loads image cores s v core c still going.kept agrees at unhurt w hurt alike l.others address width value signed rd speculates next l in
        let number : number_at (over c.own s.committed) address width ≡ value =
        sym (l.value_is ∙ number_at_same (v.sees core) (over c.own s.committed) address width (λ a low high. mine.sees a)) in
        let hart = after_number (next_event image c.hart).now (next_event image c.hart).at value in
        let new : CoreState = record c { hart = hart; outside = joined (read_outside address width c.own s.committed) c.outside } in
        let count = load_counts image c.hart address width signed rd value next in
        let x = loaded_state image (with_hurts hurt s) core c address width value in
        let stand = (going.kept.core core c at).reads_stand unhurt in
        let p = under hurt alike l.others in
        let same = λ (k : ℕ) (d : CoreState) (other : k ≢ core) (at_k : hurt_if (hurt k) (s.cores k) ≡ Some d) (free : d.hurt ≡ false) (quiet : d.straight ≡ false) (a : ℕ) (read : is_some (d.outside a) ≡ true). no_more a in
        let timed_x = timed_past hurt alike l.others m.shown no_more timed.past same new refl (λ straight. absurd (true≢false (sym straight ∙ speculates))) count
        (λ has. path_loaded image kind m core now c timed.past speculates (p.path (still_read image c s.committed address width (memory_before image c.epoch) stand has)) s.committed address width signed rd value next number has) in
        comes_past hurt alike l.others m.shown no_more timed.past same new x _ hart refl unhurt refl timed_x y.replays y.agrees still

    pub saves : c.straight ≡ false → (address width value : ℕ) (hurt : ℕ → Bool) → (next_event image c.hart).at ≡ stop.Store address width value
        → Stores v w core address width value hurt
        → Went image kind cores now core ((next_event image (turn.stored_hart image c)).now.done - (turn.stored_hart image c).done) s m
        (hurts cores s core hurt ++ entry core (what.Store address width value)) w
    saves speculates address width value hurt next l =
        let alike : IsOfSameKind v w = (l.shape, l.cached) in
        let y = arm.stores image cores s v core c still going.kept agrees at unhurt w hurt alike l.others address width value speculates next l in
        let hart = stepped (next_event image c.hart).now in
        let new : CoreState = record c { hart = hart; own = joined (stored address width value) c.own } in
        let x = stored_state image (with_hurts hurt s) core c address width value in
        let p = under hurt alike l.others in
        let same = λ (k : ℕ) (d : CoreState) (other : k ≢ core) (at_k : hurt_if (hurt k) (s.cores k) ≡ Some d) (free : d.hurt ≡ false) (quiet : d.straight ≡ false) (a : ℕ) (read : is_some (d.outside a) ≡ true). no_more a in
        let timed_x = timed_past hurt alike l.others m.shown no_more timed.past same new refl (λ straight. absurd (true≢false (sym straight ∙ speculates))) refl
        (λ has. path_stored image kind m core now c timed.past speculates (p.path has) address width value next) in
        comes_past hurt alike l.others m.shown no_more timed.past same new x _ hart refl unhurt refl timed_x y.replays y.agrees still

    -- ---- commits

    module _ (homefree : c.epoch ≡ s.homefree) where
      pub commits : (between : StoreView) (hurt : ℕ → Bool) → publishes_unless c.straight v between core hurt → (next_event image c.hart).at ≡ stop.Ended
          → exits image (next_event image c.hart).now ≡ false → end_at image (s.homefree + 1) ≡ None → Ends between w core
          → Went image kind cores now core 0 s m (hurts cores s core hurt ++ entry core what.Commit) w
      commits between hurt publishes next stays more store =
          let p = ending.has_published image cores s v core c still going.kept agrees at unhurt between hurt publishes in
          let y = ending.commits image cores s v core c still going.kept agrees at unhurt between hurt p homefree w next stays store in
          let u = with_hurts hurt s in
          let going_u = after (hurts cores s core hurt) u p.replays still in
          let timed_u = hurt_some image kind cores now s m hurt timed in
          let m' = left_marks m core c.epoch c.hart.done event now (shown_by c.own m.shown now) in
          let own_from : m'.from core ≡ now + 1 = one_here m.from core (now + 1) in
          let own_gap = ap (gap image) (with_core_same u.cores core None) in record {
            state = effect_on image u core c what.Commit;
            marks = m';
            replays = y.replays;
            agrees = y.agrees;
            going = cond-false (exits image (next_event image c.hart).now) (Some (end.Exit s.homefree)) (end_at image (s.homefree + 1)) stays ∙ more;
            timed = leaves image kind cores now u m core c going_u timed_u p.at homefree unhurt its_due
                (subst (λ a. HasStopped (after_stop (next_event image c.hart).now (path image kind cores now u m core c going_u timed_u p.at homefree unhurt its_due).at.after a)) (sym next) tt)
                (unread hurt between publishes);
            own = omega (arith, own_from, own_gap);
            others = λ k other.
                let same = one_other m.from core (now + 1) k other in
                let it = ap (gap image) (with_core_other u.cores core None k other) in
                let less = gap_hurt image (hurt k) (s.cores k) in omega (arith, same, it, less);
          }

      pub is_over : (next_event image c.hart).at ≡ stop.Ended → s.homefree + 1 ≡ image.epochs → IsBound image kind cores (now + 1)
      is_over next last = over_done image kind cores now s m core c going timed at homefree unhurt its_due next last

      pub exits_loop : (next_event image c.hart).at ≡ stop.Ended → exits image (next_event image c.hart).now ≡ true → IsBound image kind cores (now + 1)
      exits_loop next exit = over_exit image kind cores now s m core c going timed at homefree unhurt its_due next exit

      pub faults : (cause pc : ℕ) → (next_event image c.hart).at ≡ stop.Fault cause pc → IsBound image kind cores (now + 1)
      faults cause pc next = over_fault image kind cores now s m core c going timed at homefree unhurt its_due cause pc next

      -- ---- straight accesses

      module _ (straight : c.straight ≡ true) (kept_w : IsSettled w) where
        its_path : (hurt : ℕ → Bool) (alike : IsOfSameKind v w) (others : HurtsLater v w core hurt) → IsPath image kind m c
        its_path hurt alike others = (under hurt alike others).path (homefree_read image cores s core c going at homefree unhurt)

        none_before : (d : ℕ) → d < c.epoch → IsDone image kind now m d
        none_before d low = timed.done d (omega (arith, low, homefree))

        stays_straight : kind ≡ Store
        stays_straight = (timed.core core c at).kind straight

        pub loads_straight : (address width rd value : ℕ) (signed : Bool) (hurt : ℕ → Bool) → (next_event image c.hart).at ≡ stop.Load address width signed rd
            → LoadsStraight v w core address width value hurt
            → Went image kind cores now core ((next_event image (turn.loaded_hart image c value)).now.done - (turn.loaded_hart image c value).done) s m
            (hurts cores s core hurt ++ entry core (what.Load address width value)) w
        loads_straight address width rd value signed hurt next l =
            let alike : IsOfSameKind v w = (l.shape, l.cached) in
            let y = arm.loads_straight image cores s v core c still going.kept agrees at unhurt w hurt alike l.others address width value signed rd kept_w straight next l in
            let owns = (going.kept.core core c at).straight_owns straight in
            let number : number_at (over c.own s.committed) address width ≡ value =
            sym (l.value_is ∙ number_at_same v.committed (over c.own s.committed) address width (λ a low high. agrees.committed a ∙ sym (ap (λ o. unwrap_or o (s.committed a)) (owns a)))) in
            let hart = after_number (next_event image c.hart).now (next_event image c.hart).at value in
            let new : CoreState = record c { hart = hart } in
            let count = load_counts image c.hart address width signed rd value next in
            let x = loaded_straight image (with_hurts hurt s) core c value in
            let same = λ (k : ℕ) (d : CoreState) (other : k ≢ core) (at_k : hurt_if (hurt k) (s.cores k) ≡ Some d) (free : d.hurt ≡ false) (quiet : d.straight ≡ false) (a : ℕ) (read : is_some (d.outside a) ≡ true). no_more a in
            let path_new = straight_loaded image kind cores now s m core c going at homefree unhurt (its_path hurt alike l.others) straight timed.past (timed.begun c.epoch) none_before
            address width signed rd value next number in
            let timed_x = timed_past hurt alike l.others m.shown no_more timed.past same new refl (λ stays. stays_straight) count (λ has. path_new) in
            comes_past hurt alike l.others m.shown no_more timed.past same new x _ hart refl unhurt refl timed_x y.replays y.agrees still

        pub stores_straight : (address width value : ℕ) (hurt : ℕ → Bool) → (next_event image c.hart).at ≡ stop.Store address width value
            → StoresStraight v w core address width value hurt
            → Went image kind cores now core ((next_event image (turn.stored_hart image c)).now.done - (turn.stored_hart image c).done) s m
            (hurts cores s core hurt ++ entry core (what.Store address width value)) w
        stores_straight address width value hurt next l =
            let alike : IsOfSameKind v w = (l.shape, l.cached) in
            let y = arm.stores_straight image cores s v core c still going.kept agrees at unhurt w hurt alike l.others address width value kept_w straight next l in
            let bytes = stored address width value in
            let shown = shown_by bytes m.shown now in
            let hart = stepped (next_event image c.hart).now in
            let new : CoreState = record c { hart = hart } in
            let x = stored_straight image (with_hurts hurt s) core c address width value in
            let none = λ (k : ℕ) (d : CoreState) (other : k ≢ core) (at_k : hurt_if (hurt k) (s.cores k) ≡ Some d) (free : d.hurt ≡ false) (quiet : d.straight ≡ false) (a : ℕ) (read : is_some (d.outside a) ≡ true).
            unread_stored address width value hurt l.tells k d other at_k free a read in
            let path_new = straight_stored image kind cores now s m core c going at homefree unhurt (its_path hurt alike l.others) straight timed.past (timed.begun c.epoch) none_before
            address width value next in
            let timed_x = timed_past hurt alike l.others shown (shown_more bytes m.shown now timed.past) (shown_past bytes m.shown now timed.past) none new refl (λ stays. stays_straight) refl (λ has. path_new) in
            comes_past hurt alike l.others shown (shown_more bytes m.shown now timed.past) (shown_past bytes m.shown now timed.past) none new x _ hart refl unhurt refl timed_x y.replays y.agrees still
          where
            unread_stored : (address width value : ℕ) (hurt : ℕ → Bool) → ((k : ℕ) → k ≢ core → Guards v k (is_accessed address width) → hurt k ≡ true)
                → (k : ℕ) (d : CoreState) → k ≢ core → hurt_if (hurt k) (s.cores k) ≡ Some d → d.hurt ≡ false → (a : ℕ) → is_some (d.outside a) ≡ true
                → shown_by (stored address width value) m.shown now a ≤ m.shown a
            unread_stored address width value hurt tells k d other at_k free a read = elim (cases_Bool (is_some (stored address width value a))) [
              | inl some ↦ absurd (missed hurt (is_accessed address width) tells k d other at_k free a read (sym (stored_there address width value a) ∙ some))
              | inr none ↦ (let same = shown_other (stored address width value) m.shown now a none in omega (arith, same))
            ]
