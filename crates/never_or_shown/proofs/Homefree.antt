-- The turns of the homefree core: straight accesses, and the end of its epoch.
use Rattle.std.proofs.Common.{◌≡◌, ◌≢◌, ℕ, ◌+◌, ◌==◌, ◌&&◌, Bool, true, false, cond, List, [], ◌∷◌, ◌++◌, Option, Some, None, is_some, refl, sym, ap, subst, ◌∙◌, inl, inr, append_assoc, append-nil, eq-eqb}
use Rattle.std.proofs.lemmas.Bool.{cases_Bool}
use Rattle.memory_bytes.specs.Maps.{joined, stored}
use Rattle.rv32_image.specs.Image.{IsImage}
use Rattle.rv32_exec.specs.declared.sequential.End.{End}
use Rattle.rv32_exec.specs.declared.sequential.End.TheVariants as end
use Rattle.rv32_exec.specs.declared.stop.Stop.TheVariants as stop
use Rattle.rv32_exec.specs.NextEvent.{next_event}
use Rattle.rv32_exec.specs.Sequential.{exits}
use Rattle.spec_history.specs.declared.entry.Entry.{Entry}
use Rattle.spec_history.specs.declared.entry.What.{What}
use Rattle.spec_history.specs.declared.entry.What.TheVariants as what
use Rattle.spec_history.specs.FlatState.{CoreState, FlatState, end_at}
use Rattle.spec_history.specs.Effect.{after_publish, effect_on}
use Rattle.spec_history.specs.Replay.{replay}
use Rattle.spec_history.proofs.OneEntry.Keeping.{with_core_same}
use Rattle.spec_history.proofs.Replay.Joining.{splits, one_more}
use Rattle.spec_history.proofs.Replay.Replays.{effect-on}
use Rattle.violations.specs.declared.attempt.Attempt.{Attempt}
use Rattle.violations.specs.declared.step.WaitCause.{WaitCause}
use Rattle.violations.specs.View.{StoreView, Waits, attempt_of}
use Rattle.violations.specs.Rule.{IsSameView}
use Rattle.violations.specs.Calls.{Call, Leave, Load, Publish, Store, StraightLoad, StraightStore}
use Rattle.bus_states.specs.Bus.{Bus}
use Rattle.bus_states.specs.Coherent.{speculates}
use Rattle.bus_states.specs.Straight.{straight_attempt}
use Rattle.spec_bus.specs.Cached.{CachedView, bus, store_view, waits}
use Rattle.spec_bus.specs.Laws.{HaveSamePlaces, Makes}
use Rattle.homefree.specs.declared.answer.Answer.{Answer}
use Rattle.homefree.specs.declared.answer.Answer.TheVariants.{Go, Over}
use Rattle.homefree.specs.Ending.{NoneStartsAfterCancel}
use Rattle.homefree.specs.Hurts.{cancels, entry, epoch_on, hurts, is_other}
use Rattle.homefree.specs.Moves.{TurnMoves, publish_calls, standing_of}
use Rattle.homefree.specs.Turned as turn
use Rattle.homefree.specs.Turned.{Outcome, Publishing, Turn, does, publish_of, publishes_unless, wait_at}
use Rattle.dependences.specs.Conflict.{LineConflict}
use Rattle.dependences.specs.Laws.{NoneIsHurt}
use Rattle.dependences.specs.Shared.{SharedOverflow}
use Rattle.never_or_shown.proofs.Accesses.{AreTidy}
use Rattle.never_or_shown.proofs.Straights.{Sets, attempt-sets, sets-tidy, sets-then}
use Rattle.never_or_shown.proofs.Lines.{Reads, Shares, Writes}
use Rattle.never_or_shown.proofs.Epochs.{IsSeen, attempt_by, quiet_so}
use Rattle.never_or_shown.proofs.Calls.{HasPlaces, load_waits_same, places_after, publish_call, store_waits_same, straight_load_call, straight_store_call}
use Rattle.never_or_shown.proofs.Calm.{IsCalm, unhurt-append, unhurt-cancels, unhurt-one}
use Rattle.never_or_shown.proofs.Moves.{AccessMade, CommitMade, Made, access_made, commit_made}
use Rattle.never_or_shown.proofs.Seen.{goes-seen, sets-seen, still-has}
use Rattle.never_or_shown.proofs.BusTurning.{Keeps, calm_at, hurts_none, keeps_one, keeps_so, none_hurt, publishing_attempt, publishing_none}
use Rattle.spec_history.specs.Conflict.{is_hurt}
use Rattle.never_or_shown.proofs.Turns.{goes_made, places_then, stops_at, straight_made}

own_by : (b : Bool) (own more : ℕ → Option ℕ) (a byte : ℕ) → b ≡ true → cond b own more a ≡ Some byte → own a ≡ Some byte
own_by true own more a byte e is = is
own_by false own more a byte e is = absurd cc

-- the core has published, in this turn or before: the history so far, the state, the core and the bus, from which the straight access goes on
record Straightened (t : Turn) (h : List Entry) (v : StoreView) (c : CoreState) (first : ℕ → Bool) (access : Call) (w : CachedView) : Type 0 where
  pub entered : List Entry
  pub entered_is : publish_of t c first ≡ entered
  pub s : FlatState
  pub core : CoreState
  pub y : CachedView
  pub replays : replay t.image t.cores (h ++ entered) ≡ Some s
  pub unhurt : NoneIsHurt (h ++ entered)
  pub calm : IsCalm t.image t.cores s
  pub seen : IsSeen t.image t.cores s (bus y)
  pub places : HasPlaces t.image y
  pub at : s.cores t.core ≡ Some core
  pub straight : core.straight ≡ true
  pub homefree : core.epoch ≡ s.homefree
  pub hart : core.hart ≡ c.hart
  pub attempts : (k : ℕ) → k ≢ t.core → ((bus y).core k).attempt ≡ v.attempt k
  pub makes : Makes y access w

module _ (t : Turn) (is : IsImage t.image) (free : LineConflict t.image t.cores → ⊥) (room_left : SharedOverflow t.image t.cores → ⊥) (whole : List Entry) (starts : NoneStartsAfterCancel whole)
    (last : FlatState) (whole_replays : replay t.image t.cores whole ≡ Some last) (h : List Entry) (replays : replay t.image t.cores h ≡ Some t.state) (unhurt : NoneIsHurt h)
    (goes_on : t.state.end ≡ None) (calm : IsCalm t.image t.cores t.state) (r : CachedView) (places : HasPlaces t.image r) (seen : IsSeen t.image t.cores t.state (bus r)) (waits_are : waits r ≡ t.waits)
    (v : StoreView) (same : IsSameView (store_view r) v) (w : CachedView) (moves : TurnMoves Makes store_view (standing_of t) r w)
    (out : Outcome) (rest : List Entry) (is_whole : whole ≡ (h ++ out.entries) ++ rest) where
  abbrev R : ℕ → ℕ → Type 0
  R = Reads t.image t.cores

  abbrev W : ℕ → ℕ → Type 0
  W = Writes t.image t.cores

  abbrev H : ℕ → ℕ → Type 0
  H = Shares t.image t.cores

  module _ (c : CoreState) (at : t.state.cores t.core ≡ Some c) (homefree : c.epoch ≡ t.state.homefree) (between : StoreView) (first : ℕ → Bool)
      (publishes : publishes_unless c.straight v between t.core first) where
    first_none : (k : ℕ) → first k ≡ false
    first_none = publishing_none t is free room_left whole starts r calm seen v same c at homefree c.straight between first publishes

    between_attempt : (k : ℕ) → k ≢ t.core → between.attempt k ≡ v.attempt k
    between_attempt = publishing_attempt t is free room_left whole starts r calm seen v same c at homefree c.straight between first publishes

    -- it speculates on the bus x that is as before, and publishes there
    publish_sets : (x y : CachedView) → bus x ≡ bus r → HasPlaces t.image x → c.straight ≡ false → Makes x (Publish t.core) y → Sets R W H (bus x) (bus y) t.core (Some (attempt_of c.epoch true))
    publish_sets x y same_bus places_x speculates made =
        let seen_x = subst (λ (b : Bus). IsSeen t.image t.cores t.state b) (sym same_bus) seen in
        subst (λ (a : Option Attempt). Sets R W H (bus x) (bus y) t.core a) (ap straight_attempt (seen_x.attempt t.core ∙ ap attempt_by at))
        (publish_call t.image t.cores is.machine_allowed free room_left t.state calm.going calm.window calm.orderly x places_x seen_x t.core c at y homefree made)

    module _ (more : List Entry) (is_out : out.entries ≡ publish_of t c first ++ more) (why : Option WaitCause) (speculative access : Call)
        (has_why : c.straight ≡ false → is_some why ≡ true)
        (still : (x : CachedView) (cause : WaitCause) → why ≡ Some cause → Makes r speculative x → (bus x ≡ bus r) × HaveSamePlaces r x)
        (made : AccessMade c.straight why (c.epoch == t.state.homefree) t.core speculative access r w) where
      was_straight : c.straight ≡ true → Straightened t h v c first access w
      was_straight straight = record {
        entered = [];
        entered_is = ap (λ b. cond b [] (hurts t.cores t.state t.core first ++ entry t.core what.Publish)) straight;
        s = t.state;
        core = c;
        y = r;
        replays = ap (replay t.image t.cores) (append-nil h) ∙ replays;
        unhurt = subst (λ (xs : List Entry). NoneIsHurt xs) (sym (append-nil h)) unhurt;
        calm = calm;
        seen = seen;
        places = places;
        at = at;
        straight = straight;
        homefree = homefree;
        hart = refl;
        attempts = λ k away. sym (same.cores k).attempt;
        makes = straight_made c.straight why (c.epoch == t.state.homefree) t.core speculative access r w straight made;
      }

      abbrev one : Entry
      one = record { by = t.core; what = what.Publish }

      abbrev published : FlatState
      published = effect_on t.image t.state t.core c what.Publish

      publish_is : c.straight ≡ false → publish_of t c first ≡ one ∷ []
      publish_is speculates =
          ap (λ b. cond b [] (hurts t.cores t.state t.core first ++ entry t.core what.Publish)) speculates
          ∙ ap (λ es. es ++ entry t.core what.Publish) (hurts_none t.cores t.state t.core first first_none)

      whole_is : c.straight ≡ false → whole ≡ (h ++ one ∷ []) ++ (more ++ rest)
      whole_is speculates =
          is_whole ∙ (ap (λ es. (h ++ es) ++ rest) (is_out ∙ ap (λ es. es ++ more) (publish_is speculates))
          ∙ (ap (λ es. es ++ rest) (sym (append_assoc h (one ∷ []) more)) ∙ append_assoc (h ++ one ∷ []) more rest))

      published_replays : c.straight ≡ false → replay t.image t.cores (h ++ one ∷ []) ≡ Some published
      published_replays speculates =
          let parts = splits t.image t.cores (h ++ one ∷ []) (more ++ rest) last (sym (ap (replay t.image t.cores) (whole_is speculates)) ∙ whole_replays) in
          parts.first_replays ∙ ap Some (sym (one_more t.image t.cores h t.state parts.between one replays parts.first_replays) ∙ effect-on t.image t.state t.core what.Publish c at)

      now_straight : c.straight ≡ false → Straightened t h v c first access w
      now_straight speculates =
          let g = goes_made c.straight why (c.epoch == t.state.homefree) t.core speculative access r w speculates (has_why speculates) (eq-eqb c.epoch t.state.homefree homefree) made in
          let as_before = still g.waiting g.cause g.why_is g.waits_made in
          let places_x = places_after t.image r g.waiting places (ap (λ (b : Bus). b.shape) as_before.0) as_before.1 in
          let sets = publish_sets g.waiting g.published as_before.0 places_x speculates g.publish_made in
          let seen_x = subst (λ (b : Bus). IsSeen t.image t.cores t.state b) (sym as_before.0) seen in
          let quiet : NoneIsHurt (h ++ one ∷ []) = unhurt-append h (one ∷ []) unhurt (unhurt-one one refl) in record {
            entered = one ∷ [];
            entered_is = publish_is speculates;
            s = published;
            core = after_publish c;
            y = g.published;
            replays = published_replays speculates;
            unhurt = quiet;
            calm = calm_at t is free room_left whole starts (h ++ one ∷ []) (more ++ rest) published (whole_is speculates) quiet (published_replays speculates) goes_on;
            seen = sets-seen t.image t.cores t.state (bus g.waiting) (bus g.published) seen_x t.core published (Some (after_publish c)) refl
                (λ d e a. let here : after_publish c ≡ d = cc in ap (λ (x : CoreState). x.own a) (sym here)) sets;
            places = places_after t.image g.waiting g.published places_x sets.beside.shape g.publish_made.after.places;
            at = with_core_same t.state.cores t.core (Some (after_publish c));
            straight = refl;
            homefree = homefree;
            hart = refl;
            attempts = λ k away. (sets.beside.others k away).attempt ∙ (ap (λ (b : Bus). (b.core k).attempt) as_before.0 ∙ sym (same.cores k).attempt);
            makes = g.access_is;
          }

      straightened : Straightened t h v c first access w
      straightened = elim (cases_Bool c.straight) [
        | inl straight ↦ was_straight straight
        | inr speculates ↦ now_straight speculates
      ]

    -- the entry of the access
    finish : (access : Call) (x : Straightened t h v c first access w) (entered : What) (answer : Answer) (hurt : ℕ → Bool) → ((k : ℕ) → hurt k ≡ false) → is_hurt entered ≡ false
        → out ≡ does (publish_of t c first ++ (hurts t.cores t.state t.core hurt ++ entry t.core entered)) answer
        → IsSeen t.image t.cores (effect_on t.image x.s t.core x.core entered) (bus w) → HasPlaces t.image w → Keeps t h w out
    finish access x entered answer hurt none quiet out_is seen_w places_w =
        let then_one : Entry = record { by = t.core; what = entered } in
        keeps_so t h w out (x.entered ++ then_one ∷ []) answer
        (out_is ∙ (ap (λ es. does (es ++ (hurts t.cores t.state t.core hurt ++ entry t.core entered)) answer) x.entered_is
        ∙ ap (λ es. does (x.entered ++ (es ++ entry t.core entered)) answer) (hurts_none t.cores t.state t.core hurt none)))
        (record {
          unhurt = subst (λ (es : List Entry). NoneIsHurt es) (append_assoc h x.entered (then_one ∷ [])) (unhurt-append (h ++ x.entered) (then_one ∷ []) x.unhurt (unhurt-one then_one quiet));
          after = λ going s leads. (
            subst (λ (y : FlatState). IsSeen t.image t.cores y (bus w))
                (sym (effect-on t.image x.s t.core entered x.core x.at)
                ∙ one_more t.image t.cores (h ++ x.entered) x.s s then_one x.replays (ap (replay t.image t.cores) (append_assoc h x.entered (then_one ∷ [])) ∙ leads)) seen_w,
            places_w,
          );
        })

  -- ---- straight accesses

  pub straight_load_turn : turn.IsStraightLoad t v (store_view w) out → Keeps t h w out
  straight_load_turn l =
      let c : CoreState = l.core in
      let a = l.comes.is_at in
      let why : Option WaitCause = t.waits.load t.core l.address l.width in
      let made = access_made c.straight (t.waits.load t.core l.address l.width) (c.epoch == t.state.homefree) t.cores t.core (Load t.core l.address l.width) (StraightLoad t.core l.address l.width) r w
      (stops_at t is free room_left whole starts last whole_replays h replays unhurt goes_on calm r places seen waits_are v same w moves out rest is_whole c (stop.Load l.address l.width l.signed l.rd) a) in
      let x = straightened c a.runs l.comes.homefree l.between l.first l.comes.publishes (hurts t.cores t.state t.core l.hurt ++ entry t.core (what.Load l.address l.width l.value))
      (ap (λ (o : Outcome). o.entries) l.out_is) (t.waits.load t.core l.address l.width) (Load t.core l.address l.width) (StraightLoad t.core l.address l.width) l.waits
      (λ u cause waits_there m. (load_waits_same r u t.core l.address l.width cause m (ap (λ (y : Waits). y.load t.core l.address l.width) waits_are ∙ waits_there), m.after.places)) made in
      let event : (next_event t.image x.core.hart).at ≡ stop.Load l.address l.width l.signed l.rd = ap (λ g. (next_event t.image g).at) x.hart ∙ a.event in
      let goes = straight_load_call t.image t.cores is.machine_allowed free room_left x.s x.calm.going x.calm.window x.calm.orderly x.y x.places x.seen t.core x.core x.at
      l.address l.width l.signed l.rd event w x.straight x.makes in
      let none = none_hurt l.between (store_view w) t.core l.hurt l.store.others
      (λ k away. (goes.core k).attempt ∙ (x.attempts k away ∙ sym (between_attempt c a.runs l.comes.homefree l.between l.first l.comes.publishes k away))) in
      finish c a.runs l.comes.homefree l.between l.first l.comes.publishes (StraightLoad t.core l.address l.width) x (what.Load l.address l.width l.value) (Go (turn.loaded_hart t.image l.core l.value)) l.hurt none refl l.out_is
      (goes-seen t.image t.cores x.s (bus x.y) (bus w) x.seen t.core (effect_on t.image x.s t.core x.core (what.Load l.address l.width l.value)) x.core _ x.at refl refl refl goes
      (still-has t.image t.cores x.s (bus x.y) (bus w) x.seen t.core x.core x.at goes))
      (places_after t.image x.y w x.places goes.shape x.makes.after.places)

  pub straight_store_turn : turn.IsStraightStore t v (store_view w) out → Keeps t h w out
  straight_store_turn l =
      let c : CoreState = l.core in
      let a = l.comes.is_at in
      let entered : What = what.Store l.address l.width l.value in
      let made = access_made c.straight (t.waits.store t.core l.address l.width) (c.epoch == t.state.homefree) t.cores t.core (Store t.core l.address l.width l.value) (StraightStore t.core l.address l.width l.value) r w
      (stops_at t is free room_left whole starts last whole_replays h replays unhurt goes_on calm r places seen waits_are v same w moves out rest is_whole c (stop.Store l.address l.width l.value) a) in
      let x = straightened c a.runs l.comes.homefree l.between l.first l.comes.publishes (hurts t.cores t.state t.core l.hurt ++ entry t.core entered)
      (ap (λ (o : Outcome). o.entries) l.out_is) (t.waits.store t.core l.address l.width) (Store t.core l.address l.width l.value) (StraightStore t.core l.address l.width l.value) l.waits
      (λ u cause waits_there m. (store_waits_same r u t.core l.address l.width l.value cause m (ap (λ (y : Waits). y.store t.core l.address l.width) waits_are ∙ waits_there), m.after.places)) made in
      let event : (next_event t.image x.core.hart).at ≡ stop.Store l.address l.width l.value = ap (λ g. (next_event t.image g).at) x.hart ∙ a.event in
      let goes = straight_store_call t.image t.cores is.machine_allowed free room_left x.s x.calm.going x.calm.window x.calm.orderly x.y x.places x.seen t.core x.core x.at
      l.address l.width l.value event w x.straight x.homefree x.makes in
      let none = none_hurt l.between (store_view w) t.core l.hurt l.store.others
      (λ k away. (goes.core k).attempt ∙ (x.attempts k away ∙ sym (between_attempt c a.runs l.comes.homefree l.between l.first l.comes.publishes k away))) in
      finish c a.runs l.comes.homefree l.between l.first l.comes.publishes (StraightStore t.core l.address l.width l.value) x entered (Go (turn.stored_hart t.image l.core)) l.hurt none refl l.out_is
      (goes-seen t.image t.cores x.s (bus x.y) (bus w) x.seen t.core (effect_on t.image x.s t.core x.core entered) x.core _ x.at refl refl refl goes
      (λ y byte is_own. still-has t.image t.cores x.s (bus x.y) (bus w) x.seen t.core x.core x.at goes y byte
      (own_by x.core.straight x.core.own (joined (stored l.address l.width l.value) x.core.own) y byte x.straight is_own)))
      (places_after t.image x.y w x.places goes.shape x.makes.after.places)

  -- ---- the epoch's end

  pub commit_turn : turn.IsCommit t v (store_view w) out → Keeps t h w out
  commit_turn l =
      let c : CoreState = l.core in
      let a = l.comes.is_at in
      let none = first_none c a.runs l.comes.homefree l.between l.hurt l.comes.publishes in
      let stops = stops_at t is free room_left whole starts last whole_replays h replays unhurt goes_on calm r places seen waits_are v same w moves out rest is_whole c stop.Ended a in
      let leaves = commit_made c.straight t.cores t.core r w (by_end (c.epoch == t.state.homefree) (exits t.image (next_event t.image c.hart).now) (eq-eqb c.epoch t.state.homefree l.comes.homefree) l.stays stops) in
      let ended = by_straight c.straight refl leaves in
      keeps_so t h w out (entry t.core what.Commit) (turn.left_or_over (end_at t.image (t.state.homefree + 1)))
      (l.out_is ∙ ap (λ es. does (es ++ entry t.core what.Commit) (turn.left_or_over (end_at t.image (t.state.homefree + 1)))) (hurts_none t.cores t.state t.core l.hurt none))
      (keeps_one t is free room_left whole starts h replays unhurt w what.Commit (turn.left_or_over (end_at t.image (t.state.homefree + 1))) c refl a.runs
      (sets-seen t.image t.cores t.state (bus r) (bus w) seen t.core (effect_on t.image t.state t.core c what.Commit) None refl (λ d e b. absurd cc) ended.0)
      (places_after t.image r w places ended.0.beside.shape ended.1))
    where
      by_end : (b e : Bool) → b ≡ true → e ≡ false
          → Made (cond b (publish_calls l.core.straight t.core ++ (cond e [] (Leave t.core ∷ []))) []) (b && e) t.cores t.core r w
          → Made (publish_calls l.core.straight t.core ++ Leave t.core ∷ []) false t.cores t.core r w
      by_end true false f g made = made
      by_end true true f g made = absurd cc
      by_end false e f g made = absurd cc

      leave_sets : (x : CachedView) → AreTidy R W H (bus x) → speculates ((bus x).core t.core).attempt ≡ false → Makes x (Leave t.core) w → Sets R W H (bus x) (bus w) t.core None
      leave_sets x tidy quiet made = subst (λ (b : Bus). Sets R W H (bus x) b t.core None) (sym made.after.bus_is) (attempt-sets R W H (bus x) t.core None tidy quiet)

      by_straight : (b : Bool) → l.core.straight ≡ b → CommitMade b t.core r w → Sets R W H (bus r) (bus w) t.core None × HaveSamePlaces r w
      by_straight true e made = (
        leave_sets r seen.tidy (ap speculates (seen.attempt t.core) ∙ quiet_so (t.state.cores t.core) l.core l.comes.is_at.runs e) made,
        made.after.places,
      )
      by_straight false e (x, first, rest_made) =
          let sets = publish_sets l.core l.comes.is_at.runs l.comes.homefree l.between l.hurt l.comes.publishes r x refl places e first in (
            sets-then R W H (bus r) (bus x) (bus w) t.core (Some (attempt_of l.core.epoch true)) None sets
                (leave_sets x (sets-tidy R W H (bus r) (bus x) t.core (Some (attempt_of l.core.epoch true)) sets) (ap speculates sets.attempt_is) rest_made),
            places_then r x w first.after.places rest_made.after.places,
          )

  -- the loop is over
  over_keeps : (entries : List Entry) (end : End) → out ≡ does entries (Over end) → NoneIsHurt (h ++ entries) → Keeps t h w out
  over_keeps entries end is_out quiet = keeps_so t h w out entries (Over end) is_out (record { unhurt = quiet; after = λ going s leads. absurd (going end refl) })

  pub exit_turn : turn.IsExit t v (store_view w) out → Keeps t h w out
  exit_turn l =
      let none = first_none l.core l.comes.is_at.runs l.comes.homefree l.between l.hurt l.comes.publishes in
      let cancelled : List Entry = cancels t.cores t.state t.core in
      over_keeps (cancels t.cores t.state t.core ++ entry t.core what.Commit) _
      (l.out_is ∙ ap (λ es. does (es ++ (cancels t.cores t.state t.core ++ entry t.core what.Commit)) (Over (end.Exit l.core.epoch))) (hurts_none t.cores t.state t.core l.hurt none))
      (unhurt-append h (cancels t.cores t.state t.core ++ entry t.core what.Commit) unhurt
      (unhurt-append (cancels t.cores t.state t.core) (entry t.core what.Commit) (unhurt-cancels t.core (is_other t.state.cores t.core) (epoch_on t.state.cores) t.cores)
      (unhurt-one (record { by = t.core; what = what.Commit }) refl)))

  pub fault_turn : turn.IsFault t v (store_view w) out → Keeps t h w out
  fault_turn l =
      let none = first_none l.core l.comes.is_at.runs l.comes.homefree (store_view w) l.hurt l.comes.publishes in
      over_keeps (entry t.core (what.Fault l.cause l.pc)) _
      (l.out_is ∙ ap (λ es. does (es ++ entry t.core (what.Fault l.cause l.pc)) (Over (end.Fault l.core.epoch l.cause l.pc))) (hurts_none t.cores t.state t.core l.hurt none))
      (unhurt-append h (entry t.core (what.Fault l.cause l.pc)) unhurt (unhurt-one (record { by = t.core; what = what.Fault l.cause l.pc }) refl))
