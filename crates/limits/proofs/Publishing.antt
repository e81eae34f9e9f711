-- A core publishes, and then accesses memory in the same turn.
use Rattle.std.proofs.Common.{◌≡◌, ◌≢◌, ℕ, ◌+◌, ◌-◌, ◌<◌, ◌≤◌, ◌==◌, ◌&&◌, not, Bool, true, false, List, ◌++◌, length, Some, None, if◌then◌else◌, refl, sym, ap, subst, ◌∙◌, inl, inr, true≢false, arith, eq-eqb, ne_eqb}
use Rattle.std.proofs.Math.Path.{fun_ext}
use Rattle.std.proofs.lemmas.List.Elements.{All-weaker}
use Rattle.memory_bytes.specs.Bytes.{number_at}
use Rattle.memory_bytes.specs.Maps.{nothing, over, stored}
use Rattle.rv32_image.specs.Image.{IsImage, LoadedImage}
use Rattle.rv32_exec.specs.declared.stop.Stop.TheVariants as stop
use Rattle.rv32_exec.specs.NextEvent.{next_event}
use Rattle.spec_history.specs.declared.entry.Entry.{Entry}
use Rattle.spec_history.specs.declared.entry.What.{What}
use Rattle.spec_history.specs.declared.entry.What.TheVariants as what
use Rattle.spec_history.specs.Effect.{after_publish, effect_on}
use Rattle.spec_history.specs.FlatState.{CoreState, FlatState}
use Rattle.spec_history.specs.Refusal.{refusal_of}
use Rattle.spec_history.specs.Replay.{replay, replay_from}
use Rattle.spec_history.proofs.OneEntry.Going.{Going}
use Rattle.spec_history.proofs.OneEntry.Keeping.{with_core_other, with_core_same}
use Rattle.spec_history.proofs.OneEntry.Legal.{legal_is}
use Rattle.spec_history.proofs.Replay.Joining.{history_goes_on, one_entry, spares_all, then_entries}
use Rattle.spec_history.proofs.Replay.Replays.{effect-on, replayed}
use Rattle.spec_history.proofs.Searches.Missing.{misses_by}
use Rattle.violations.specs.View.{IsSettled, StoreView, attempt_of, epoch_of, is_accessed, line_of}
use Rattle.violations.specs.Rule.{Guards, HurtsLater, IsCrowded, IsSameCore, LoadsStraight, OwnsIn, Publishes, StoresStraight}
use Rattle.homefree.specs.Agrees.{Agrees, AgreesCore}
use Rattle.homefree.specs.Hurts.{entry, entry_for_each, epoch_on, hurts, with_hurts}
use Rattle.homefree.specs.Turned.{loaded_hart, publishes_unless, stored_hart}
use Rattle.homefree.proofs.State.Ends as ending
use Rattle.homefree.proofs.State.Legality.{by_it}
use Rattle.homefree.proofs.State.Others.{agrees_with, runs_on, same_at}
use Rattle.homefree.proofs.Cases.GoingStraight.{published_epoch}
use Rattle.limits.specs.declared.limit.Waits.{Waits}
use Rattle.limits.specs.declared.limit.Waits.TheVariants.{Store}
use Rattle.limits.proofs.Marks.{IsTimedIn, IsUnder, Marks}
use Rattle.limits.proofs.Marking.{Alters, goes, hurt_some}
use Rattle.limits.proofs.Pathing.{path_published, shown_by, shown_more, shown_past}
use Rattle.limits.proofs.Leaving.{homefree_read}
use Rattle.limits.proofs.Acting.{Went, gap, gap_hurt, gap_on, loads_straight, stores_straight, unread}

-- ---- the view with nothing kept for one core, which sees what is committed

cleared : StoreView → ℕ → StoreView
cleared v core = record v {
  sees = λ k a. if k == core then v.committed a else v.sees k a;
  own = λ k a. if k == core then false else v.own k a;
  guarded = λ k a. if k == core then false else v.guarded k a;
}

by_other : {A : Type 0} (k core : ℕ) (x y : A) → k ≢ core → (if k == core then x else y) ≡ y
by_other k core x y other = ap (λ (b : Bool). if b then x else y) (ne_eqb k core other)

by_it_self : {A : Type 0} (core : ℕ) (x y : A) → (if core == core then x else y) ≡ x
by_it_self core x y = ap (λ (b : Bool). if b then x else y) (eq-eqb core core refl)

module _ (v : StoreView) (core : ℕ) where
  abbrev c : StoreView
  c = cleared v core

  same_others : (k : ℕ) → k ≢ core → IsSameCore v c k
  unfolding cleared
  same_others k other = record {
    attempt = refl;
    own = λ a. by_other k core false (v.own k a) other;
    guarded = λ a. by_other k core false (v.guarded k a) other;
    sees = λ a. by_other k core (v.committed a) (v.sees k a) other;
  }

  same_kind : (c.shape ≡ v.shape) × (c.cached ≡ v.cached)
  unfolding cleared
  same_kind = (refl, refl)

  same_committed : (a : ℕ) → c.committed a ≡ v.committed a
  unfolding cleared
  same_committed a = refl

  same_attempt : (k : ℕ) → c.attempt k ≡ v.attempt k
  unfolding cleared
  same_attempt k = refl

  none_own : (a : ℕ) → c.own core a ≡ false
  unfolding cleared
  none_own a = by_it_self core false (v.own core a)

  none_guarded : (a : ℕ) → c.guarded core a ≡ false
  unfolding cleared
  none_guarded a = by_it_self core false (v.guarded core a)

  sees_committed : (a : ℕ) → c.sees core a ≡ v.committed a
  unfolding cleared
  sees_committed a = by_it_self core (v.committed a) (v.sees core a)

  -- ---- what a call does that doesn't look at it

  owns_too : (k line : ℕ) → k ≢ core → OwnsIn v k line → OwnsIn c k line
  owns_too k line other o = record {
    at = o.at;
    within = subst (λ s. o.at < s.size) (sym same_kind.0) o.within;
    in_line = subst (λ s. line_of s o.at ≡ line) (sym same_kind.0) o.in_line;
    owned = (same_others k other).own o.at ∙ o.owned;
  }

  line_same : (a : ℕ) → line_of c.shape a ≡ line_of v.shape a
  line_same a = ap (λ s. line_of s a) same_kind.0

  crowded_too : (k address : ℕ) → k ≢ core → IsCrowded v k address → IsCrowded c k address
  crowded_too k address other x = record {
    cached = same_kind.1 ∙ x.cached;
    here = subst (OwnsIn c k) (sym (line_same address)) (owns_too k (line_of v.shape address) other x.here);
    others = x.others;
    full = subst (λ s. s.machine.buffer_lines ≤ length x.others) (sym same_kind.0) x.full;
    apart = x.apart;
    each = All-weaker (λ line. (line ≢ line_of v.shape address) × OwnsIn v k line) (λ line. (line ≢ line_of c.shape address) × OwnsIn c k line)
        (λ line y. (λ same. y.0 (same ∙ line_same address), owns_too k line other y.1)) x.others x.each;
  }

  guards_back : (k : ℕ) (bytes : ℕ → Bool) → k ≢ core → Guards c k bytes → Guards v k bytes
  guards_back k bytes other g = record { at = g.at; is_one = g.is_one; guarded = sym ((same_others k other).guarded g.at) ∙ g.guarded }

  guards_too : (k : ℕ) (bytes : ℕ → Bool) → k ≢ core → Guards v k bytes → Guards c k bytes
  guards_too k bytes other g = record { at = g.at; is_one = g.is_one; guarded = (same_others k other).guarded g.at ∙ g.guarded }

  module _ (w : StoreView) (hurt : ℕ → Bool) (o : HurtsLater v w core hurt) where
    not_it : (k : ℕ) → hurt k ≡ true → k ≢ core
    not_it k is same = true≢false (sym is ∙ (ap hurt same ∙ o.not_itself))

    hurts_too : HurtsLater c w core hurt
    hurts_too = record {
      not_itself = o.not_itself;
      hurts = λ k is. let h = o.hurts k is in record {
        attempt = h.attempt;
        had = same_attempt k ∙ h.had;
        later = subst (λ x. epoch_of x < h.attempt.epoch) (sym (same_attempt core)) h.later;
        none = h.none;
      };
      spares = λ k other is. let h = o.spares k other is in let same = same_others k other in record {
        attempt = h.attempt ∙ sym same.attempt;
        own = λ a. h.own a ∙ sym (same.own a);
        guarded = λ a. h.guarded a ∙ sym (same.guarded a);
        sees_own = λ a mine. h.sees_own a (sym (same.own a) ∙ mine) ∙ sym (same.sees a);
        sees_rest = λ a none. h.sees_rest a (sym (same.own a) ∙ none);
        stands = λ a guards. h.stands a (sym (same.guarded a) ∙ guards) ∙ sym (same_committed a);
      };
    }

  loads_too : (w : StoreView) (address width value : ℕ) (hurt : ℕ → Bool) → LoadsStraight v w core address width value hurt → LoadsStraight c w core address width value hurt
  loads_too w address width value hurt l = record {
    shape = l.shape ∙ sym same_kind.0;
    cached = l.cached ∙ sym same_kind.1;
    others = hurts_too w hurt l.others;
    committed = λ a. l.committed a ∙ sym (same_committed a);
    value_is = subst (λ f. value ≡ number_at f address width) (sym (fun_ext same_committed)) l.value_is;
    small = l.small;
    attempt = l.attempt ∙ sym (same_attempt core);
    crowded = λ k is. crowded_too k address (not_it w hurt l.others k is) (l.crowded k is);
  }

  stores_too : (w : StoreView) (address width value : ℕ) (hurt : ℕ → Bool) → StoresStraight v w core address width value hurt → StoresStraight c w core address width value hurt
  stores_too w address width value hurt l = record {
    shape = l.shape ∙ sym same_kind.0;
    cached = l.cached ∙ sym same_kind.1;
    others = hurts_too w hurt l.others;
    committed = λ a. l.committed a ∙ ap (λ f. over (stored address width value) f a) (sym (fun_ext same_committed));
    attempt = l.attempt ∙ sym (same_attempt core);
    meets = λ k is. elim (l.meets k is) [
      | inl g ↦ inl (guards_too k (is_accessed address width) (not_it w hurt l.others k is) g)
      | inr x ↦ inr (crowded_too k address (not_it w hurt l.others k is) x)
    ];
    tells = λ k other g. l.tells k other (guards_back k (is_accessed address width) other g);
  }

-- ---- the publish

nothing_read : (a byte : ℕ) → nothing a ≡ Some byte → ⊥
nothing_read a byte read = cc

module _ (image : LoadedImage) (cores core : ℕ) (kind : Waits) (now : ℕ) (s : FlatState) (m : Marks) (v : StoreView) (history : List Entry) (is : IsImage image)
    (reached : replay image cores history ≡ Some s) (still : s.end ≡ None) (agrees : Agrees s v) (timed : IsTimedIn image kind cores now s m)
    (due : m.from core + gap image (s.cores core) ≤ now)
    (c : CoreState) (at : s.cores core ≡ Some c) (unhurt : c.hurt ≡ false) (speculates : c.straight ≡ false) (homefree : c.epoch ≡ s.homefree) (store : kind ≡ Store)
    (between : StoreView) (hurt : ℕ → Bool) (p : Publishes v between core hurt) where
  abbrev going : Going image cores s
  going = (replayed image cores history s is reached).going still

  abbrev u : FlatState
  u = with_hurts hurt s

  abbrev bytes : ℕ → ℕ
  bytes = over c.own s.committed

  abbrev has : ending.HasPublished image cores s core c between hurt
  has = ending.has_published image cores s v core c still going.kept agrees at unhurt between hurt (subst (λ b. publishes_unless b v between core hurt) (sym speculates) p)

  abbrev new : CoreState
  new = after_publish c

  abbrev state : FlatState
  state = effect_on image u core c what.Publish

  abbrev marks : Marks
  marks = record m { shown = shown_by c.own m.shown now }

  abbrev view_after : StoreView
  view_after = cleared between core

  legal : refusal_of image cores u (record { by = core; what = what.Publish }) ≡ None
  legal = legal_is image cores u (record { by = core; what = what.Publish }) (record {
    going = still;
    there = by_it (u.cores core) c (λ x. not x.hurt && not x.straight) has.at (rw (unhurt, speculates) refl);
    next = refl;
    homefree = by_it (u.cores core) c (λ x. x.epoch == s.homefree) has.at (eq-eqb c.epoch s.homefree homefree);
    value = refl;
    spares = misses_by image cores u core what.Publish c bytes has.at refl ∙ spares_all image.size cores u core bytes has.spares;
    cancelled = refl;
  })

  replays : replay_from image cores s (hurts cores s core hurt ++ entry core what.Publish) ≡ Some state
  replays = then_entries image cores (hurts cores s core hurt) (entry core what.Publish) s u state has.replays
      (one_entry image cores u (record { by = core; what = what.Publish }) legal ∙ ap Some (effect-on image u core what.Publish c has.at))

  abbrev history_after : List Entry
  history_after = history ++ (hurts cores s core hurt ++ entry core what.Publish)

  reached_after : replay image cores history_after ≡ Some state
  reached_after = history_goes_on image cores history (hurts cores s core hurt ++ entry core what.Publish) s state reached replays

  mine : AgreesCore s.committed v core c
  mine = (agrees.core still core).runs c at unhurt

  new_agrees : AgreesCore bytes view_after core new
  new_agrees = record {
    attempt = same_attempt between core core ∙ (p.attempt ∙ ap (λ o. Some (attempt_of (epoch_of o) true)) mine.attempt);
    sees = λ a. sees_committed between core a ∙ has.committed a;
    own = λ a. none_own between core a;
    guards_read = λ a byte read. absurd (nothing_read a byte read);
    guards_only = λ a guards. absurd (true≢false (sym guards ∙ none_guarded between core a));
  }

  agrees_after : Agrees state view_after
  agrees_after = record {
    committed = λ a. same_committed between core a ∙ has.committed a;
    core = λ none k. agrees_with bytes view_after core (Some new) u.cores (runs_on bytes view_after core new unhurt new_agrees)
        (λ j other. same_at bytes bytes between view_after j (u.cores j) (same_kind between core) (λ a. refl) (same_others between core j other) (has.others j other)) k;
  }

  going_u : Going image cores u
  going_u = (replayed image cores _ u is (history_goes_on image cores history (hurts cores s core hurt) s u reached has.replays)).going still

  timed_u : IsTimedIn image kind cores now u m
  timed_u = hurt_some image kind cores now s m hurt timed

  under : IsUnder image kind m core c
  under = (timed.core core c at).under unhurt

  from : m.from core ≤ now
  from = omega (arith, due)

  new_under : IsUnder image kind marks core new
  new_under = record {
    begun = under.begun;
    steps = under.steps;
    first = under.first;
    next = under.next;
    path = λ read. path_published image kind m core now c timed.past speculates (under.path (homefree_read image cores s core c going at homefree unhurt)) under from
        (λ d low. timed.done d (omega (arith, low, homefree)));
  }

  alters : Alters m marks core c.epoch now
  alters = record {
    begin = λ d other. refl;
    begin_on = omega arith;
    begin_by = timed.begun c.epoch;
    at = λ d place other. refl;
    commit = λ d other. refl;
    from = λ k other. refl;
    shown = shown_more c.own m.shown now timed.past;
    past = shown_past c.own m.shown now timed.past;
  }

  timed_after : IsTimedIn image kind cores now state marks
  timed_after = goes image kind cores now u m marks core c going_u.kept timed_u has.at alters refl
      (unread image cores core kind now s m v v history is reached still agrees timed due c at unhurt hurt between (subst (λ b. publishes_unless b v between core hurt) (sym speculates) p))
      new refl (λ straight. store) (λ free. new_under)

  runs_after : state.cores core ≡ Some new
  runs_after = with_core_same u.cores core (Some new)

  due_after : marks.from core + gap image (state.cores core) ≤ now
  due_after =
      let now_gap = gap_on image (state.cores core) new runs_after unhurt in
      let was_gap = gap_on image (s.cores core) c at unhurt in omega (arith, due, now_gap, was_gap)

  -- what is hurt later is named by the same epochs
  hurts_same : (later : ℕ → Bool) → hurts cores state core later ≡ hurts cores s core later
  hurts_same later =
      let same : epoch_on state.cores ≡ epoch_on s.cores = fun_ext (published_epoch hurt s.cores core c new at refl) in
      ap (λ (e : ℕ → ℕ). entry_for_each core later (λ k. what.Hurt (e k)) cores) same

  others_after : (k : ℕ) → k ≢ core → marks.from k + gap image (state.cores k) ≤ m.from k + gap image (s.cores k)
  others_after k other =
      let it = ap (gap image) (with_core_other u.cores core (Some new) k other) in
      let less = gap_hurt image (hurt k) (s.cores k) in omega (arith, it, less)

  -- and then comes an access
  then_goes : (more : ℕ) (later : ℕ → Bool) (x : What) (w : StoreView) → Went image kind cores now core more state marks (hurts cores state core later ++ entry core x) w
      → Went image kind cores now core more s m ((hurts cores s core hurt ++ entry core what.Publish) ++ (hurts cores s core later ++ entry core x)) w
  then_goes more later x w y = record {
    state = y.state;
    marks = y.marks;
    replays = then_entries image cores (hurts cores s core hurt ++ entry core what.Publish) (hurts cores s core later ++ entry core x) s state y.state replays
        (subst (λ xs. replay_from image cores state (xs ++ entry core x) ≡ Some y.state) (hurts_same later) y.replays);
    agrees = y.agrees;
    going = y.going;
    timed = y.timed;
    own = y.own;
    others = λ k other. let last = y.others k other in let first = others_after k other in omega (arith, last, first);
  }

  pub then_loads : (w : StoreView) → IsSettled w → (address width rd value : ℕ) (signed : Bool) (later : ℕ → Bool) → (next_event image c.hart).at ≡ stop.Load address width signed rd
      → LoadsStraight between w core address width value later
      → Went image kind cores now core ((next_event image (loaded_hart image c value)).now.done - (loaded_hart image c value).done) s m
      ((hurts cores s core hurt ++ entry core what.Publish) ++ (hurts cores s core later ++ entry core (what.Load address width value))) w
  then_loads w kept address width rd value signed later next l =
      then_goes ((next_event image (loaded_hart image c value)).now.done - (loaded_hart image c value).done) later (what.Load address width value) w
      (loads_straight image cores core kind now state marks view_after w history_after is reached_after still agrees_after timed_after due_after new runs_after unhurt homefree refl kept
      address width rd value signed later next (loads_too between core w address width value later l))

  pub then_stores : (w : StoreView) → IsSettled w → (address width value : ℕ) (later : ℕ → Bool) → (next_event image c.hart).at ≡ stop.Store address width value
      → StoresStraight between w core address width value later
      → Went image kind cores now core ((next_event image (stored_hart image c)).now.done - (stored_hart image c).done) s m
      ((hurts cores s core hurt ++ entry core what.Publish) ++ (hurts cores s core later ++ entry core (what.Store address width value))) w
  then_stores w kept address width value later next l =
      then_goes ((next_event image (stored_hart image c)).now.done - (stored_hart image c).done) later (what.Store address width value) w
      (stores_straight image cores core kind now state marks view_after w history_after is reached_after still agrees_after timed_after due_after new runs_after unhurt homefree refl kept
      address width value later next (stores_too between core w address width value later l))
