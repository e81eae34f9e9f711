-- Each kind of turn: it violates nobody, and the bus has what the state has then.
use Rattle.std.proofs.Common.{◌≡◌, ◌≢◌, ℕ, ◌==◌, ◌&&◌, Bool, true, false, cond, List, [], ◌∷◌, ◌++◌, Option, Some, None, is_some, option_map, refl, sym, ap, subst, ◌∙◌, ne_eqb, lt-ltb}
use Rattle.std.proofs.lemmas.Bool.{both_ways, le-ltb}
use Rattle.memory_bytes.specs.Maps.{joined, stored}
use Rattle.rv32_image.specs.Image.{IsImage}
use Rattle.rv32_exec.specs.declared.stop.Stop.{Stop}
use Rattle.rv32_exec.specs.declared.stop.Stop.TheVariants as stop
use Rattle.rv32_exec.specs.NextEvent.{next_event}
use Rattle.rv32_exec.specs.Sequential.{exits}
use Rattle.spec_history.specs.declared.entry.Entry.{Entry}
use Rattle.spec_history.specs.declared.entry.What.{What}
use Rattle.spec_history.specs.declared.entry.What.TheVariants as what
use Rattle.spec_history.specs.FlatState.{CoreState, FlatState, begun}
use Rattle.spec_history.specs.Effect.{effect_idle, effect_on}
use Rattle.spec_history.specs.Replay.{replay}
use Rattle.spec_history.proofs.Replay.Replays.{effect-idle}
use Rattle.spec_history.proofs.Replay.Joining.{one_more}
use Rattle.violations.specs.declared.step.WaitCause.{WaitCause}
use Rattle.violations.specs.View.{StoreView, Waits, attempt_of}
use Rattle.violations.specs.Rule.{IsSameView}
use Rattle.violations.specs.Calls.{Call, Leave, Load, Publish, Store, StraightLoad, StraightStore}
use Rattle.bus_states.specs.Bus.{Bus}
use Rattle.bus_states.specs.Coherent.{speculates}
use Rattle.spec_bus.specs.Cached.{CachedView, bus, store_view, waits}
use Rattle.spec_bus.specs.Laws.{HaveSamePlaces, Makes}
use Rattle.homefree.specs.declared.answer.Answer.{Answer}
use Rattle.homefree.specs.declared.answer.Answer.TheVariants.{Go}
use Rattle.homefree.specs.Ending.{NoneStartsAfterCancel}
use Rattle.homefree.specs.Hurts.{entry}
use Rattle.homefree.specs.Kept.{kept_of}
use Rattle.homefree.specs.Moves.{TurnMoves, is_exit, publish_calls, standing_of, stop_calls}
use Rattle.homefree.specs.Turned as turn
use Rattle.homefree.specs.Turned.{Outcome, Publishing, Turn, does, publish_of, publishes_unless, wait_at}
use Rattle.dependences.specs.Conflict.{LineConflict}
use Rattle.dependences.specs.Laws.{NoneIsHurt}
use Rattle.dependences.specs.Shared.{SharedOverflow}
use Rattle.never_or_shown.proofs.Accesses.{Goes}
use Rattle.never_or_shown.proofs.Straights.{Sets, attempt-sets}
use Rattle.never_or_shown.proofs.Lines.{Reads, Shares, Writes}
use Rattle.never_or_shown.proofs.Epochs.{IsSeen, attempt_by, store_access}
use Rattle.never_or_shown.proofs.Calls.{HasPlaces, load_call, load_waits_same, places_after, store_call, store_masks, store_waits_same}
use Rattle.never_or_shown.proofs.Calm.{IsCalm, unhurt-append, unhurt-one}
use Rattle.never_or_shown.proofs.Moves.{AccessMade, Made, access_made, at_none, at_stale, at_start, at_stop, no_call}
use Rattle.never_or_shown.proofs.Seen.{goes-seen, sets-seen, still-has, store-has}
use Rattle.never_or_shown.proofs.BusTurning.{Keeps, hurts_none, keeps_one, keeps_same, keeps_so, none_hurt}

-- ---- the calls of an access

speculative_made : (straight : Bool) (why : Option WaitCause) (same : Bool) (core : ℕ) (first access : Call) (v w : CachedView) → straight ≡ false → why ≡ None
    → AccessMade straight why same core first access v w → Makes v first w
speculative_made true why same core first access v w e f made = absurd cc
speculative_made false None same core first access v w e f made = made
speculative_made false (Some cause) same core first access v w e f made = absurd cc

waiting_made : (straight : Bool) (why : Option WaitCause) (same : Bool) (core : ℕ) (first access : Call) (v w : CachedView) (cause : WaitCause) → straight ≡ false → why ≡ Some cause → same ≡ false
    → AccessMade straight why same core first access v w → Makes v first w
waiting_made true why same core first access v w cause e f g made = absurd cc
waiting_made false None same core first access v w cause e f g made = absurd cc
waiting_made false (Some c) true core first access v w cause e f g made = absurd cc
waiting_made false (Some c) false core first access v w cause e f g made = made

pub straight_made : (straight : Bool) (why : Option WaitCause) (same : Bool) (core : ℕ) (first access : Call) (v w : CachedView) → straight ≡ true
    → AccessMade straight why same core first access v w → Makes v access w
straight_made true why same core first access v w e made = made
straight_made false why same core first access v w e made = absurd cc

-- the speculative access waits, the core publishes, and makes it straight
pub record GoesStraight (why : Option WaitCause) (core : ℕ) (first access : Call) (v w : CachedView) : Type 0 where
  pub cause : WaitCause
  pub why_is : why ≡ Some cause
  pub waiting : CachedView
  pub published : CachedView
  pub waits_made : Makes v first waiting
  pub publish_made : Makes waiting (Publish core) published
  pub access_is : Makes published access w

pub goes_made : (straight : Bool) (why : Option WaitCause) (same : Bool) (core : ℕ) (first access : Call) (v w : CachedView) → straight ≡ false → is_some why ≡ true → same ≡ true
    → AccessMade straight why same core first access v w → GoesStraight why core first access v w
goes_made true why same core first access v w e f g made = absurd cc
goes_made false None same core first access v w e f g made = absurd cc
goes_made false (Some c) false core first access v w e f g made = absurd cc
goes_made false (Some c) true core first access v w e f g (x, y, one, two, three) =
    record { cause = c; why_is = refl; waiting = x; published = y; waits_made = one; publish_made = two; access_is = three }

pub places_then : (u v w : CachedView) → HaveSamePlaces u v → HaveSamePlaces v w → HaveSamePlaces u w
places_then u v w one two = record { size = two.size ∙ one.size; apart = two.apart ∙ one.apart }

module _ (t : Turn) (is : IsImage t.image) (free : LineConflict t.image t.cores → ⊥) (room_left : SharedOverflow t.image t.cores → ⊥) (whole : List Entry) (starts : NoneStartsAfterCancel whole)
    (last : FlatState) (whole_replays : replay t.image t.cores whole ≡ Some last) (h : List Entry) (replays : replay t.image t.cores h ≡ Some t.state) (unhurt : NoneIsHurt h)
    (goes_on : t.state.end ≡ None) (calm : IsCalm t.image t.cores t.state) (r : CachedView) (places : HasPlaces t.image r) (seen : IsSeen t.image t.cores t.state (bus r)) (waits_are : waits r ≡ t.waits)
    (v : StoreView) (same : IsSameView (store_view r) v) (w : CachedView) (moves : TurnMoves Makes store_view (standing_of t) r w)
    (out : Outcome) (rest : List Entry) (is_whole : whole ≡ (h ++ out.entries) ++ rest) where
  abbrev R : ℕ → ℕ → Type 0
  R = Reads t.image t.cores

  abbrev W : ℕ → ℕ → Type 0
  W = Writes t.image t.cores

  abbrev H : ℕ → ℕ → Type 0
  H = Shares t.image t.cores

  pub kept_places : (x y : CachedView) → HasPlaces t.image x → bus y ≡ bus x → HaveSamePlaces x y → HasPlaces t.image y
  kept_places x y has_places same_bus same_places = places_after t.image x y has_places (ap (λ (b : Bus). b.shape) same_bus) same_places

  -- ---- idle cores, and those that wait

  pub start_turn : turn.IsStart t v (store_view w) out → Keeps t h w out
  start_turn l =
      let epoch : ℕ = t.state.next_epoch in
      let one : Entry = record { by = t.core; what = what.Start epoch } in
      let made = at_start (standing_of t) r w moves (ap (option_map kept_of) l.idle) (lt-ltb epoch t.image.epochs l.left) in
      let sets : Sets R W H (bus r) (bus w) t.core (Some (attempt_of epoch false)) = subst (λ (b : Bus). Sets R W H (bus r) b t.core (Some (attempt_of epoch false))) (sym made.after.bus_is)
      (attempt-sets R W H (bus r) t.core (Some (attempt_of epoch false)) seen.tidy (ap speculates (seen.attempt t.core ∙ ap attempt_by l.idle))) in
      keeps_so t h w out _ _ l.out_is (record {
        unhurt = unhurt-append h (one ∷ []) unhurt (unhurt-one one refl);
        after = λ going s leads. (
          subst (λ (x : FlatState). IsSeen t.image t.cores x (bus w))
              (sym (effect-idle t.image t.state t.core (what.Start epoch) l.idle) ∙ one_more t.image t.cores h t.state s one replays leads)
              (sets-seen t.image t.cores t.state (bus r) (bus w) seen t.core (effect_idle t.image t.state t.core (what.Start epoch)) (Some (begun t.image epoch)) refl
              (λ c e a. let here : begun t.image epoch ≡ c = cc in ap (λ (x : CoreState). x.own a) (sym here)) sets),
          places_after t.image r w places sets.beside.shape made.after.places,
        );
      })

  stays_turn : (answer : Answer) → out ≡ does [] answer → w ≡ r → Keeps t h w out
  stays_turn answer is_out stays = keeps_so t h w out [] answer is_out
      (keeps_same t is free room_left whole starts h replays unhurt w answer (bus r) seen (ap bus stays) (subst (λ (x : CachedView). HasPlaces t.image x) (sym stays) places))

  pub none_turn : turn.IsNoneLeft t v (store_view w) out → Keeps t h w out
  none_turn l = stays_turn _ l.out_is (at_none (standing_of t) r w moves (ap (option_map kept_of) l.idle) (le-ltb t.state.next_epoch t.image.epochs l.left))

  pub told_turn : turn.IsTold t v (store_view w) out → Keeps t h w out
  told_turn l = stays_turn _ l.out_is (at_stale (standing_of t) r w moves l.core (ap (option_map kept_of) l.runs) l.unhurt l.stale)

  pub restart_turn : turn.IsRestart t v (store_view w) out → Keeps t h w out
  restart_turn l = absurd (both_ways l.core.hurt (calm.orderly.core t.core l.core l.runs).unhurt l.hurt)

  -- ---- a core at a stop

  pub stops_at : (c : CoreState) (at : Stop) → turn.IsAt t c at
      → Made (stop_calls t.image t.waits t.state.homefree t.core (kept_of c) (next_event t.image c.hart).now at) (is_exit t.image t.state.homefree (kept_of c) (next_event t.image c.hart).now at) t.cores t.core r w
  stops_at c at a = at_stop (standing_of t) r w moves c at (ap (option_map kept_of) a.runs) a.unhurt a.handed_in a.event

  pub early_turn : turn.IsEarly t v (store_view w) out → Keeps t h w out
  early_turn l = stays_turn _ l.out_is (by_end l.at l.ends (ne_eqb l.core.epoch t.state.homefree l.later) (stops_at l.core l.at l.comes))
    where
      by_end : (at : Stop) → turn.IsEnd at → (l.core.epoch == t.state.homefree) ≡ false
          → Made (stop_calls t.image t.waits t.state.homefree t.core (kept_of l.core) (next_event t.image l.core.hart).now at) (is_exit t.image t.state.homefree (kept_of l.core) (next_event t.image l.core.hart).now at) t.cores t.core r w
          → w ≡ r
      by_end (stop.Load address width signed rd) ends other made = absurd ends
      by_end (stop.Store address width value) ends other made = absurd ends
      by_end stop.Ended ends other made = no_call t.cores t.core r w
          (subst (λ (b : Bool). Made (cond b (publish_calls l.core.straight t.core ++ (cond (exits t.image (next_event t.image l.core.hart).now) [] (Leave t.core ∷ []))) [])
          (b && exits t.image (next_event t.image l.core.hart).now) t.cores t.core r w) other made)
      by_end (stop.Fault cause pc) ends other made = no_call t.cores t.core r w
          (subst (λ (b : Bool). Made (cond b (publish_calls l.core.straight t.core) []) false t.cores t.core r w) other made)

  pub wait_turn : turn.IsWait t v (store_view w) out → Keeps t h w out
  wait_turn l =
      let same_bus = by_stop l.at l.waits (stops_at l.core l.at l.comes.is_at) in
      keeps_so t h w out [] _ l.out_is
      (keeps_same t is free room_left whole starts h replays unhurt w _ (bus r) seen same_bus.0 (kept_places r w places same_bus.0 same_bus.1))
    where
      later : (l.core.epoch == t.state.homefree) ≡ false
      later = ne_eqb l.core.epoch t.state.homefree l.later

      by_stop : (at : Stop) → wait_at t.waits t.core at ≡ Some l.cause
          → Made (stop_calls t.image t.waits t.state.homefree t.core (kept_of l.core) (next_event t.image l.core.hart).now at) (is_exit t.image t.state.homefree (kept_of l.core) (next_event t.image l.core.hart).now at) t.cores t.core r w
          → (bus w ≡ bus r) × HaveSamePlaces r w
      by_stop (stop.Load address width signed rd) waits_there made =
          let m = waiting_made l.core.straight (t.waits.load t.core address width) (l.core.epoch == t.state.homefree) t.core (Load t.core address width) (StraightLoad t.core address width) r w l.cause
          l.comes.speculates waits_there later
          (access_made l.core.straight (t.waits.load t.core address width) (l.core.epoch == t.state.homefree) t.cores t.core (Load t.core address width) (StraightLoad t.core address width) r w made) in
          (load_waits_same r w t.core address width l.cause m (ap (λ (x : Waits). x.load t.core address width) waits_are ∙ waits_there), m.after.places)
      by_stop (stop.Store address width value) waits_there made =
          let m = waiting_made l.core.straight (t.waits.store t.core address width) (l.core.epoch == t.state.homefree) t.core (Store t.core address width value) (StraightStore t.core address width value) r w l.cause
          l.comes.speculates waits_there later
          (access_made l.core.straight (t.waits.store t.core address width) (l.core.epoch == t.state.homefree) t.cores t.core (Store t.core address width value) (StraightStore t.core address width value) r w made) in
          (store_waits_same r w t.core address width value l.cause m (ap (λ (x : Waits). x.store t.core address width) waits_are ∙ waits_there), m.after.places)
      by_stop stop.Ended waits_there made = absurd cc
      by_stop (stop.Fault cause pc) waits_there made = absurd cc

  -- ---- speculative accesses

  goes_attempt : Goes R W H (bus r) (bus w) → (k : ℕ) → k ≢ t.core → (store_view w).attempt k ≡ v.attempt k
  goes_attempt goes k away = (goes.core k).attempt ∙ sym (same.cores k).attempt

  pub load_turn : turn.IsLoad t v (store_view w) out → Keeps t h w out
  load_turn l =
      let c : CoreState = l.core in
      let a = l.comes.is_at in
      let made = speculative_made c.straight (t.waits.load t.core l.address l.width) (c.epoch == t.state.homefree) t.core (Load t.core l.address l.width) (StraightLoad t.core l.address l.width) r w
      l.comes.speculates l.goes_on
      (access_made c.straight (t.waits.load t.core l.address l.width) (c.epoch == t.state.homefree) t.cores t.core (Load t.core l.address l.width) (StraightLoad t.core l.address l.width) r w
      (stops_at c (stop.Load l.address l.width l.signed l.rd) a)) in
      let goes = load_call t.image t.cores is.machine_allowed free room_left t.state calm.going calm.window calm.orderly r places seen t.core c a.runs l.address l.width l.signed l.rd a.event w
      l.comes.speculates made (ap (λ (x : Waits). x.load t.core l.address l.width) waits_are ∙ l.goes_on) in
      let none = none_hurt v (store_view w) t.core l.hurt l.store.others (goes_attempt goes) in
      keeps_so t h w out (entry t.core (what.Load l.address l.width l.value)) _
      (l.out_is ∙ ap (λ es. does (es ++ entry t.core (what.Load l.address l.width l.value)) (Go (turn.loaded_hart t.image l.core l.value))) (hurts_none t.cores t.state t.core l.hurt none))
      (keeps_one t is free room_left whole starts h replays unhurt w (what.Load l.address l.width l.value) _ c refl a.runs
      (goes-seen t.image t.cores t.state (bus r) (bus w) seen t.core (effect_on t.image t.state t.core c (what.Load l.address l.width l.value)) c _ a.runs refl refl refl goes
      (still-has t.image t.cores t.state (bus r) (bus w) seen t.core c a.runs goes))
      (places_after t.image r w places goes.shape made.after.places))

  pub store_turn : turn.IsStore t v (store_view w) out → Keeps t h w out
  store_turn l =
      let c : CoreState = l.core in
      let a = l.comes.is_at in
      let entered : What = what.Store l.address l.width l.value in
      let access = store_access t.image c.hart l.address l.width l.value a.event in
      let made = speculative_made c.straight (t.waits.store t.core l.address l.width) (c.epoch == t.state.homefree) t.core (Store t.core l.address l.width l.value) (StraightStore t.core l.address l.width l.value) r w
      l.comes.speculates l.goes_on
      (access_made c.straight (t.waits.store t.core l.address l.width) (c.epoch == t.state.homefree) t.cores t.core (Store t.core l.address l.width l.value) (StraightStore t.core l.address l.width l.value) r w
      (stops_at c (stop.Store l.address l.width l.value) a)) in
      let done = ap (λ (x : Waits). x.store t.core l.address l.width) waits_are ∙ l.goes_on in
      let goes = store_call t.image t.cores is.machine_allowed free room_left t.state calm.going calm.window calm.orderly r places seen t.core c a.runs l.address l.width l.value a.event w
      l.comes.speculates made done in
      let none = none_hurt v (store_view w) t.core l.hurt l.store.others (goes_attempt goes) in
      keeps_so t h w out (entry t.core entered) _
      (l.out_is ∙ ap (λ es. does (es ++ entry t.core (what.Store l.address l.width l.value)) (Go (turn.stored_hart t.image l.core))) (hurts_none t.cores t.state t.core l.hurt none))
      (keeps_one t is free room_left whole starts h replays unhurt w entered _ c refl a.runs
      (goes-seen t.image t.cores t.state (bus r) (bus w) seen t.core (effect_on t.image t.state t.core c entered) c _ a.runs refl refl refl goes
      (λ x byte is_own. store-has t.image t.cores t.state (bus r) (bus w) seen t.core c l.address l.width l.value is.machine_allowed access.wide access.aligned a.runs goes
      (store_masks t.image t.cores is.machine_allowed free room_left t.state calm.going calm.window calm.orderly r places seen t.core c a.runs l.address l.width l.value a.event w l.comes.speculates made done)
      x byte (sym (ap (λ b. (cond b c.own (joined (stored l.address l.width l.value) c.own)) x) l.comes.speculates) ∙ is_own)))
      (places_after t.image r w places goes.shape made.after.places))
