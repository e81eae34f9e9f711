-- A turn that makes an entry of its own is taken so too by a core that has its hart in hand; any other leaves the store as it was.
use Rattle.std.proofs.Common.{◌≡◌, ◌≢◌, ℕ, zero, suc, ◌+◌, ◌<◌, ◌==◌, ◌&&◌, nat_lt, not, Bool, true, false, if◌then◌else◌, cond, List, [], ◌∷◌, ◌++◌, Option, Some, None, IsSome, option_map, ◌⊎◌, inl, inr, refl, sym, ap, subst, ◌∙◌, true≢false, ne_eqb}
use Rattle.std.proofs.lemmas.Bool.{lt-ltb, le-ltb, and_right, and_left, cond-false, cond-true}
use Rattle.std.proofs.lemmas.Grind.{flat_map-append}
use Rattle.rv32_image.proofs.SmallFacts.{one_value, none_and_some}
use Rattle.rv32_exec.specs.declared.stop.Stop.{Stop}
use Rattle.rv32_exec.specs.declared.stop.Stop.TheVariants as stop
use Rattle.rv32_exec.specs.Arrival.{Arrival}
use Rattle.rv32_exec.specs.Hart.{HartState}
use Rattle.rv32_exec.specs.NextEvent.{next_event}
use Rattle.spec_history.specs.declared.entry.Entry.{Entry}
use Rattle.spec_history.specs.declared.entry.What.{What}
use Rattle.spec_history.specs.declared.entry.What.TheVariants.{Start, Load, Store, Restart, Publish, Commit, Fault}
use Rattle.spec_history.specs.FlatState.{CoreState, end_at}
use Rattle.rv32_exec.specs.declared.sequential.End.{End}
use Rattle.violations.specs.View.{StoreView}
use Rattle.violations.specs.Calls.{Call, Begin, Leads}
use Rattle.violations.specs.declared.step.WaitCause.{WaitCause}
use Rattle.homefree.specs.declared.answer.Answer.{Answer}
use Rattle.homefree.specs.declared.answer.Answer.TheVariants.{Go, Again, Left, Over}
use Rattle.homefree.specs.declared.answer.Cause.{Cause}
use Rattle.homefree.specs.Hurts.{entry, entry_for_each, hurts, cancels}
use Rattle.homefree.specs.Kept.{kept_of}
use Rattle.homefree.specs.Moves.{HasToWait, Moves, TurnMoves, standing_of, IsHanded, calls_of, exits_of, exit_calls, stop_calls, is_exit}
use Rattle.homefree.specs.Retraced.{is_of_own, turn_of, turns_of}
use Rattle.homefree.specs.Turned as turn
use Rattle.homefree.specs.Turned.{Turn, Outcome, does, publish_of, left_or_over, wait_at, IsEnd, IsHandedIn}
use Rattle.homefree.proofs.Fixed.Outcomes.{handed_true, handed_false}

-- ---- the turns that entries show

one_turn : (cores by : ℕ) (what : What) → by < cores → is_of_own what ≡ true → turns_of cores (entry by what) ≡ by ∷ []
one_turn cores by what there own =
    ap (λ b. (if b then by ∷ [] else []) ++ []) (ap (λ b. b && is_of_own what) (lt-ltb by cores there) ∙ own)

no_turn : (cores by : ℕ) (what : What) → is_of_own what ≡ false → turns_of cores (entry by what) ≡ []
no_turn cores by what other = ap (λ b. (if b then by ∷ [] else []) ++ []) (ap (λ b. nat_lt by cores && b) other ∙ and_right (nat_lt by cores) false refl)

no_turn_if : (cores by : ℕ) (b : Bool) (what : What) → is_of_own what ≡ false → turns_of cores (cond b (entry by what) []) ≡ []
no_turn_if cores by true what other = no_turn cores by what other
no_turn_if cores by false what other = refl

no_turns : (cores by : ℕ) (these : ℕ → Bool) (what : ℕ → What) (n : ℕ) → ((k : ℕ) → is_of_own (what k) ≡ false) → turns_of cores (entry_for_each by these what n) ≡ []
no_turns cores by these what zero other = refl
no_turns cores by these what (suc n) other =
    flat_map-append (turn_of cores) (entry_for_each by these what n) (cond (these n) (entry by (what n)) [])
    ∙ (ap (λ xs. xs ++ turns_of cores (cond (these n) (entry by (what n)) [])) (no_turns cores by these what n other) ∙ no_turn_if cores by (these n) (what n) (other n))

-- entries that show no turn, and then others
then_turns : (cores : ℕ) (first later : List Entry) → turns_of cores first ≡ [] → turns_of cores (first ++ later) ≡ turns_of cores later
then_turns cores first later none = flat_map-append (turn_of cores) first later ∙ ap (λ xs. xs ++ turns_of cores later) none

-- ---- another hand

abbrev pub with_next : Turn → Option Arrival → Turn
with_next t next = record t { next = next }

-- where the core runs an epoch and isn't hurt, it hands in the stop that was reached from its hart
abbrev pub HandsIn : Turn → Option Arrival → Type 0
HandsIn t next = (c : CoreState) → t.state.cores t.core ≡ Some c → c.hurt ≡ false → IsHandedIn next c.hart

-- the turn shows itself by one entry, and would be taken so by whoever hands in the core's hart
pub record IsOwn (t : Turn) (v w : StoreView) (out : Outcome) : Type 0 where
  pub shows : turns_of t.cores out.entries ≡ t.core ∷ []
  pub handed : HandsIn t t.next
  pub hand_in : (next : Option Arrival) → HandsIn t next → turn.Acts (with_next t next) v w out
  pub goes : (cause : Cause) → out.answer ≢ Again cause
  pub leaves : out.answer ≡ Left → (first : List Entry) × (out.entries ≡ first ++ entry t.core Commit)

-- it makes no entry
pub data IsIdle (t : Turn) (v w : StoreView) (out : Outcome) : Type 0 where
  none_left : turn.IsNoneLeft t v w out → IsIdle t v w out
  told : turn.IsTold t v w out → IsIdle t v w out
  waits : turn.IsWait t v w out → IsIdle t v w out
  early : turn.IsEarly t v w out → IsIdle t v w out

handed_here : (t : Turn) (c : CoreState) (next : Option Arrival) → t.state.cores t.core ≡ Some c → IsHandedIn next c.hart → HandsIn t next
handed_here t c next runs handed d at unhurt = subst (λ (x : CoreState). IsHandedIn next x.hart) (one_value (t.state.cores t.core) c d runs at) handed

idle_hands : (t : Turn) (next : Option Arrival) → t.state.cores t.core ≡ None → HandsIn t next
idle_hands t next idle c at unhurt = absurd (none_and_some (t.state.cores t.core) c idle at)

hurt_hands : (t : Turn) (c : CoreState) (next : Option Arrival) → t.state.cores t.core ≡ Some c → c.hurt ≡ true → HandsIn t next
hurt_hands t c next runs hurt d at unhurt =
    absurd (true≢false (sym hurt ∙ (ap (λ (x : CoreState). x.hurt) (one_value (t.state.cores t.core) c d runs at) ∙ unhurt)))

go_again : (hart : HartState) (cause : Cause) → Go hart ≢ Again cause
go_again hart cause is = cc

go_left : (hart : HartState) → Go hart ≢ Left
go_left hart is = cc

over_again : (end : End) (cause : Cause) → Over end ≢ Again cause
over_again end cause is = cc

over_left : (end : End) → Over end ≢ Left
over_left end is = cc

left_again : (o : Option End) (cause : Cause) → left_or_over o ≢ Again cause
left_again None cause is = cc
left_again (Some end) cause is = cc

module _ (t : Turn) (v w : StoreView) (out : Outcome) (there : t.core < t.cores) where
  answer_is : (entries : List Entry) (answer : Answer) → out ≡ does entries answer → out.answer ≡ answer
  answer_is entries answer is = ap (λ (o : Outcome). o.answer) is

  turns_are : (entries : List Entry) (answer : Answer) → out ≡ does entries answer → turns_of t.cores entries ≡ t.core ∷ [] → turns_of t.cores out.entries ≡ t.core ∷ []
  turns_are entries answer is shows = ap (λ (o : Outcome). turns_of t.cores o.entries) is ∙ shows

  hurts_show : (hurt : ℕ → Bool) (later : List Entry) → turns_of t.cores (hurts t.cores t.state t.core hurt ++ later) ≡ turns_of t.cores later
  hurts_show hurt later = then_turns t.cores (hurts t.cores t.state t.core hurt) later (no_turns t.cores t.core hurt _ t.cores (λ k. refl))

  cancels_show : (later : List Entry) → turns_of t.cores (cancels t.cores t.state t.core ++ later) ≡ turns_of t.cores later
  cancels_show later = then_turns t.cores (cancels t.cores t.state t.core) later (no_turns t.cores t.core _ _ t.cores (λ k. refl))

  publish_shows : (b : Bool) (hurt : ℕ → Bool) → turns_of t.cores (cond b [] (hurts t.cores t.state t.core hurt ++ entry t.core Publish)) ≡ []
  publish_shows true hurt = refl
  publish_shows false hurt = hurts_show hurt (entry t.core Publish) ∙ no_turn t.cores t.core Publish refl

  straight_shows : (c : CoreState) (first hurt : ℕ → Bool) (what : What) → is_of_own what ≡ true
      → turns_of t.cores (publish_of t c first ++ (hurts t.cores t.state t.core hurt ++ entry t.core what)) ≡ t.core ∷ []
  straight_shows c first hurt what own =
      then_turns t.cores (publish_of t c first) _ (publish_shows c.straight first) ∙ (hurts_show hurt (entry t.core what) ∙ one_turn t.cores t.core what there own)

  -- a turn of a core at this stop, with such an answer
  module _ (c : CoreState) (at : Stop) where
    abbrev at_next : (next : Option Arrival) → HandsIn t next → turn.IsAt t c at → turn.IsAt (with_next t next) c at
    at_next next hands a = record { runs = a.runs; unhurt = a.unhurt; handed_in = hands c a.runs a.unhurt; event = a.event }

    abbrev speculates_next : (next : Option Arrival) → HandsIn t next → turn.Speculates t c at → turn.Speculates (with_next t next) c at
    speculates_next next hands a = record { is_at = at_next next hands a.is_at; speculates = a.speculates }

    abbrev publishing_next : (x : StoreView) (hurt : ℕ → Bool) (next : Option Arrival) → HandsIn t next → turn.Publishing t c at v x hurt → turn.Publishing (with_next t next) c at v x hurt
    publishing_next x hurt next hands a = record { is_at = at_next next hands a.is_at; homefree = a.homefree; publishes = a.publishes }

  goes_by : (entries : List Entry) (hart : HartState) → out ≡ does entries (Go hart) → (cause : Cause) → out.answer ≢ Again cause
  goes_by entries hart is cause again = go_again hart cause (sym (answer_is entries (Go hart) is) ∙ again)

  stays_by : (entries : List Entry) (hart : HartState) → out ≡ does entries (Go hart) → out.answer ≡ Left → (first : List Entry) × (out.entries ≡ first ++ entry t.core Commit)
  stays_by entries hart is left = absurd (go_left hart (sym (answer_is entries (Go hart) is) ∙ left))

  ends_by : (entries : List Entry) (end : End) → out ≡ does entries (Over end) → (cause : Cause) → out.answer ≢ Again cause
  ends_by entries end is cause again = over_again end cause (sym (answer_is entries (Over end) is) ∙ again)

  over_by : (entries : List Entry) (end : End) → out ≡ does entries (Over end) → out.answer ≡ Left → (first : List Entry) × (out.entries ≡ first ++ entry t.core Commit)
  over_by entries end is left = absurd (over_left end (sym (answer_is entries (Over end) is) ∙ left))

  starts_own : turn.IsStart t v w out → IsOwn t v w out
  starts_own l = record {
    shows = turns_are _ _ l.out_is (one_turn t.cores t.core (Start t.state.next_epoch) there refl);
    handed = idle_hands t t.next l.idle;
    hand_in = λ next hands. turn.starts (record { idle = l.idle; left = l.left; store = l.store; out_is = l.out_is });
    goes = goes_by _ _ l.out_is;
    leaves = stays_by _ _ l.out_is;
  }

  restarts_own : turn.IsRestart t v w out → IsOwn t v w out
  restarts_own l = record {
    shows = turns_are _ _ l.out_is (one_turn t.cores t.core Restart there refl);
    handed = hurt_hands t l.core t.next l.runs l.hurt;
    hand_in = λ next hands. turn.restarts (record { core = l.core; runs = l.runs; hurt = l.hurt; store = l.store; out_is = l.out_is });
    goes = goes_by _ _ l.out_is;
    leaves = stays_by _ _ l.out_is;
  }

  loads_own : turn.IsLoad t v w out → IsOwn t v w out
  loads_own l = record {
    shows = turns_are _ _ l.out_is (hurts_show l.hurt _ ∙ one_turn t.cores t.core (Load l.address l.width l.value) there refl);
    handed = handed_here t l.core t.next l.comes.is_at.runs l.comes.is_at.handed_in;
    hand_in = λ next hands. turn.follows (turn.loads (record {
      core = l.core;
      address = l.address;
      width = l.width;
      rd = l.rd;
      value = l.value;
      signed = l.signed;
      hurt = l.hurt;
      comes = speculates_next l.core _ next hands l.comes;
      goes_on = l.goes_on;
      store = l.store;
      out_is = l.out_is;
    }));
    goes = goes_by _ _ l.out_is;
    leaves = stays_by _ _ l.out_is;
  }

  stores_own : turn.IsStore t v w out → IsOwn t v w out
  stores_own l = record {
    shows = turns_are _ _ l.out_is (hurts_show l.hurt _ ∙ one_turn t.cores t.core (Store l.address l.width l.value) there refl);
    handed = handed_here t l.core t.next l.comes.is_at.runs l.comes.is_at.handed_in;
    hand_in = λ next hands. turn.follows (turn.stores (record {
      core = l.core;
      address = l.address;
      width = l.width;
      value = l.value;
      hurt = l.hurt;
      comes = speculates_next l.core _ next hands l.comes;
      goes_on = l.goes_on;
      store = l.store;
      out_is = l.out_is;
    }));
    goes = goes_by _ _ l.out_is;
    leaves = stays_by _ _ l.out_is;
  }

  loads_straight_own : turn.IsStraightLoad t v w out → IsOwn t v w out
  loads_straight_own l = record {
    shows = turns_are _ _ l.out_is (straight_shows l.core l.first l.hurt (Load l.address l.width l.value) refl);
    handed = handed_here t l.core t.next l.comes.is_at.runs l.comes.is_at.handed_in;
    hand_in = λ next hands. turn.follows (turn.loads_straight (record {
      core = l.core;
      address = l.address;
      width = l.width;
      rd = l.rd;
      value = l.value;
      signed = l.signed;
      between = l.between;
      first = l.first;
      hurt = l.hurt;
      comes = publishing_next l.core _ l.between l.first next hands l.comes;
      waits = l.waits;
      store = l.store;
      out_is = l.out_is;
    }));
    goes = goes_by _ _ l.out_is;
    leaves = stays_by _ _ l.out_is;
  }

  stores_straight_own : turn.IsStraightStore t v w out → IsOwn t v w out
  stores_straight_own l = record {
    shows = turns_are _ _ l.out_is (straight_shows l.core l.first l.hurt (Store l.address l.width l.value) refl);
    handed = handed_here t l.core t.next l.comes.is_at.runs l.comes.is_at.handed_in;
    hand_in = λ next hands. turn.follows (turn.stores_straight (record {
      core = l.core;
      address = l.address;
      width = l.width;
      value = l.value;
      between = l.between;
      first = l.first;
      hurt = l.hurt;
      comes = publishing_next l.core _ l.between l.first next hands l.comes;
      waits = l.waits;
      store = l.store;
      out_is = l.out_is;
    }));
    goes = goes_by _ _ l.out_is;
    leaves = stays_by _ _ l.out_is;
  }

  commits_own : turn.IsCommit t v w out → IsOwn t v w out
  commits_own l = record {
    shows = turns_are _ _ l.out_is (hurts_show l.hurt _ ∙ one_turn t.cores t.core Commit there refl);
    handed = handed_here t l.core t.next l.comes.is_at.runs l.comes.is_at.handed_in;
    hand_in = λ next hands. turn.follows (turn.commits (record {
      core = l.core;
      between = l.between;
      hurt = l.hurt;
      comes = publishing_next l.core _ l.between l.hurt next hands l.comes;
      stays = l.stays;
      store = l.store;
      out_is = l.out_is;
    }));
    goes = λ cause again. left_again (end_at t.image (t.state.homefree + 1)) cause (sym (answer_is _ _ l.out_is) ∙ again);
    leaves = λ left. (hurts t.cores t.state t.core l.hurt, ap (λ (o : Outcome). o.entries) l.out_is);
  }

  exits_own : turn.IsExit t v w out → IsOwn t v w out
  exits_own l = record {
    shows = turns_are _ _ l.out_is (hurts_show l.hurt _ ∙ (cancels_show _ ∙ one_turn t.cores t.core Commit there refl));
    handed = handed_here t l.core t.next l.comes.is_at.runs l.comes.is_at.handed_in;
    hand_in = λ next hands. turn.follows (turn.exits_loop (record {
      core = l.core;
      between = l.between;
      alone = l.alone;
      hurt = l.hurt;
      comes = publishing_next l.core _ l.between l.hurt next hands l.comes;
      exits = l.exits;
      cancelled = l.cancelled;
      store = l.store;
      out_is = l.out_is;
    }));
    goes = ends_by _ _ l.out_is;
    leaves = over_by _ _ l.out_is;
  }

  faults_own : turn.IsFault t v w out → IsOwn t v w out
  faults_own l = record {
    shows = turns_are _ _ l.out_is (hurts_show l.hurt _ ∙ one_turn t.cores t.core (Fault l.cause l.pc) there refl);
    handed = handed_here t l.core t.next l.comes.is_at.runs l.comes.is_at.handed_in;
    hand_in = λ next hands. turn.follows (turn.faults (record {
      core = l.core;
      cause = l.cause;
      pc = l.pc;
      hurt = l.hurt;
      comes = publishing_next l.core _ w l.hurt next hands l.comes;
      out_is = l.out_is;
    }));
    goes = ends_by _ _ l.out_is;
    leaves = over_by _ _ l.out_is;
  }

  follows_sort : turn.Follows t v w out → IsOwn t v w out ⊎ IsIdle t v w out
  follows_sort (turn.loads l) = inl (loads_own l)
  follows_sort (turn.stores l) = inl (stores_own l)
  follows_sort (turn.waits l) = inr (waits l)
  follows_sort (turn.loads_straight l) = inl (loads_straight_own l)
  follows_sort (turn.stores_straight l) = inl (stores_straight_own l)
  follows_sort (turn.is_early l) = inr (early l)
  follows_sort (turn.commits l) = inl (commits_own l)
  follows_sort (turn.exits_loop l) = inl (exits_own l)
  follows_sort (turn.faults l) = inl (faults_own l)

  pub acts_sort : turn.Acts t v w out → IsOwn t v w out ⊎ IsIdle t v w out
  acts_sort (turn.starts l) = inl (starts_own l)
  acts_sort (turn.finds_none l) = inr (none_left l)
  acts_sort (turn.restarts l) = inl (restarts_own l)
  acts_sort (turn.is_told l) = inr (told l)
  acts_sort (turn.follows l) = follows_sort l

-- it has no entries, and shows the store that it found
pub idle_entries : (t : Turn) (v w : StoreView) (out : Outcome) → IsIdle t v w out → out.entries ≡ []
idle_entries t v w out (none_left l) = ap (λ (o : Outcome). o.entries) l.out_is
idle_entries t v w out (told l) = ap (λ (o : Outcome). o.entries) l.out_is
idle_entries t v w out (waits l) = ap (λ (o : Outcome). o.entries) l.out_is
idle_entries t v w out (early l) = ap (λ (o : Outcome). o.entries) l.out_is

pub idle_view : (t : Turn) (v w : StoreView) (out : Outcome) → IsIdle t v w out → w ≡ v
idle_view t v w out (none_left l) = l.store
idle_view t v w out (told l) = l.store
idle_view t v w out (waits l) = l.store
idle_view t v w out (early l) = l.store

-- ---- the calls of a turn

module _ {S : Type 0} (makes : S → Call → S → Type 0) (view : S → StoreView) (t : Turn) (r u : S) (moves : TurnMoves makes view (standing_of t) r u) where
  no_moves : (calls : List Call) (exits : Bool) → calls ≡ [] → exits ≡ false → Moves makes view calls exits t.cores t.core r u → u ≡ r
  no_moves calls exits none stays m =
      let first : m.mid ≡ r = subst (λ c. Leads makes c r m.mid) none m.leads in
      let rest : u ≡ m.mid = subst (λ b. Leads makes (exit_calls b t.cores t.core (view m.mid)) m.mid u) stays m.rest in
      rest ∙ first

  moves_at : (o : Option CoreState) → t.state.cores t.core ≡ o → Moves makes view (calls_of (standing_of t) (option_map kept_of o) moves.handed) (exits_of (standing_of t) (option_map kept_of o) moves.handed) t.cores t.core r u
  moves_at o at = subst (λ x. Moves makes view (calls_of (standing_of t) (option_map kept_of x) moves.handed) (exits_of (standing_of t) (option_map kept_of x) moves.handed) t.cores t.core r u) at moves.moves

  handed_at : (o : Option CoreState) → t.state.cores t.core ≡ o → IsHanded (option_map kept_of o) t.next moves.handed
  handed_at o at = subst (λ x. IsHanded (option_map kept_of x) t.next moves.handed) at moves.is_handed

  no_calls : (hurt handed : Bool) (first calls : List Call) → hurt ≡ false → calls ≡ [] → (if hurt then first else if handed then calls else []) ≡ []
  no_calls true handed first calls unhurt none = absurd (true≢false unhurt)
  no_calls false true first calls unhurt none = none
  no_calls false false first calls unhurt none = refl

  not_handed : (hurt handed : Bool) (first calls : List Call) → hurt ≡ false → handed ≡ false → (if hurt then first else if handed then calls else []) ≡ []
  not_handed true handed first calls unhurt none = absurd (true≢false unhurt)
  not_handed false true first calls unhurt none = absurd (true≢false none)
  not_handed false false first calls unhurt none = refl

  no_exit : (hurt handed exit : Bool) → exit ≡ false → (not hurt && handed && exit) ≡ false
  no_exit true handed exit none = refl
  no_exit false true exit none = none
  no_exit false false exit none = refl

  never_handed : (hurt handed exit : Bool) → handed ≡ false → (not hurt && handed && exit) ≡ false
  never_handed true handed exit none = refl
  never_handed false true exit none = absurd (true≢false none)
  never_handed false false exit none = refl

  hurt_stays : (hurt handed exit : Bool) → hurt ≡ true → (not hurt && handed && exit) ≡ false
  hurt_stays true handed exit is = refl
  hurt_stays false handed exit is = absurd (true≢false (sym is))

  none_rests : (v w : StoreView) (out : Outcome) → turn.IsNoneLeft t v w out → u ≡ r
  none_rests v w out l =
      no_moves _ _ (cond-false _ _ _ (le-ltb t.state.next_epoch t.image.epochs l.left)) refl (moves_at None l.idle)

  told_rests : (v w : StoreView) (out : Outcome) → turn.IsTold t v w out → u ≡ r
  told_rests v w out l =
      let none = handed_false t.next l.core moves.handed (handed_at (Some l.core) l.runs) l.stale in
      no_moves _ _ (not_handed l.core.hurt moves.handed _ _ l.unhurt none) (never_handed l.core.hurt moves.handed _ none) (moves_at (Some l.core) l.runs)

  early_rests : (v w : StoreView) (out : Outcome) → turn.IsEarly t v w out → u ≡ r
  early_rests v w out l =
      no_moves _ _ (no_calls l.core.hurt moves.handed _ _ l.comes.unhurt (ap (stop_calls t.image t.waits t.state.homefree t.core (kept_of l.core) now) l.comes.event ∙ calls l.at l.ends))
      (no_exit l.core.hurt moves.handed _ (ap (is_exit t.image t.state.homefree (kept_of l.core) now) l.comes.event ∙ exits l.at l.ends)) (moves_at (Some l.core) l.comes.runs)
    where
      now : HartState
      now = (next_event t.image l.core.hart).now

      apart : (l.core.epoch == t.state.homefree) ≡ false
      apart = ne_eqb l.core.epoch t.state.homefree l.later

      calls : (at : Stop) → IsEnd at → stop_calls t.image t.waits t.state.homefree t.core (kept_of l.core) now at ≡ []
      calls (stop.Load address width signed rd) ends = absurd ends
      calls (stop.Store address width value) ends = absurd ends
      calls stop.Ended ends = cond-false _ _ _ apart
      calls (stop.Fault cause pc) ends = cond-false _ _ _ apart

      exits : (at : Stop) → IsEnd at → is_exit t.image t.state.homefree (kept_of l.core) now at ≡ false
      exits (stop.Load address width signed rd) ends = absurd ends
      exits (stop.Store address width value) ends = absurd ends
      exits stop.Ended ends = and_left _ _ apart
      exits (stop.Fault cause pc) ends = refl

  has_to_wait : (v w : StoreView) (out : Outcome) → (l : turn.IsWait t v w out) → HasToWait t.waits t.state.homefree t.core (kept_of l.core) (next_event t.image l.core.hart).at
  has_to_wait v w out l = record {
    speculates = l.comes.speculates;
    later = l.later;
    waits_there = subst (λ (o : Option WaitCause). IsSome o) (sym (ap (wait_at t.waits t.core) l.comes.is_at.event ∙ l.waits)) refl;
  }

  -- a turn without entries makes no call, or waits
  pub idle_rests : (P : Type 0) (v w : StoreView) (out : Outcome) → (u ≡ r → P)
      → ((c : CoreState) → t.state.cores t.core ≡ Some c → c.hurt ≡ false → HasToWait t.waits t.state.homefree t.core (kept_of c) (next_event t.image c.hart).at → P) → IsIdle t v w out → P
  idle_rests P v w out rests waiting (none_left l) = rests (none_rests v w out l)
  idle_rests P v w out rests waiting (told l) = rests (told_rests v w out l)
  idle_rests P v w out rests waiting (waits l) = waiting l.core l.comes.is_at.runs l.comes.is_at.unhurt (has_to_wait v w out l)
  idle_rests P v w out rests waiting (early l) = rests (early_rests v w out l)

  -- the calls are the same for whoever hands in the core's hart
  pub moves_with : (next : Option Arrival) → HandsIn t t.next → HandsIn t next → TurnMoves makes view (standing_of (with_next t next)) r u
  moves_with next handed hands = pick (t.state.cores t.core) refl
    where
      hurt_calls : (c : CoreState) → c.hurt ≡ true → (b : Bool) → calls_of (standing_of t) (Some (kept_of c)) b ≡ Begin t.core c.epoch ∷ []
      hurt_calls c hurt b = cond-true _ _ _ hurt

      hurt_exits : (c : CoreState) → c.hurt ≡ true → (b : Bool) → exits_of (standing_of t) (Some (kept_of c)) b ≡ false
      hurt_exits c hurt b = hurt_stays c.hurt b _ hurt

      back : (o : Option CoreState) (b : Bool) → t.state.cores t.core ≡ o
          → Moves makes view (calls_of (standing_of (with_next t next)) (option_map kept_of o) b) (exits_of (standing_of (with_next t next)) (option_map kept_of o) b) t.cores t.core r u
          → Moves makes view (calls_of (standing_of (with_next t next)) (standing_of t).running b) (exits_of (standing_of (with_next t next)) (standing_of t).running b) t.cores t.core r u
      back o b at m = subst (λ x. Moves makes view (calls_of (standing_of (with_next t next)) (option_map kept_of x) b) (exits_of (standing_of (with_next t next)) (option_map kept_of x) b) t.cores t.core r u) (sym at) m

      by_hurt : (c : CoreState) (b : Bool) → c.hurt ≡ b → t.state.cores t.core ≡ Some c → TurnMoves makes view (standing_of (with_next t next)) r u
      by_hurt c true hurt at = record {
        handed = false;
        is_handed = subst (λ o. IsHanded (option_map kept_of o) next false) (sym at) (λ unhurt. absurd (true≢false (sym hurt ∙ unhurt)));
        moves = back (Some c) false at
            (subst (λ x. Moves makes view (calls_of (standing_of t) (Some (kept_of c)) false) x t.cores t.core r u) (hurt_exits c hurt moves.handed ∙ sym (hurt_exits c hurt false))
            (subst (λ x. Moves makes view x (exits_of (standing_of t) (Some (kept_of c)) moves.handed) t.cores t.core r u) (hurt_calls c hurt moves.handed ∙ sym (hurt_calls c hurt false))
            (moves_at (Some c) at)));
      }
      by_hurt c false unhurt at = record {
        handed = true;
        is_handed = subst (λ o. IsHanded (option_map kept_of o) next true) (sym at) (hands c at unhurt);
        moves = back (Some c) true at
            (subst (λ b. Moves makes view (calls_of (standing_of t) (Some (kept_of c)) b) (exits_of (standing_of t) (Some (kept_of c)) b) t.cores t.core r u)
            (handed_true t.next c moves.handed (handed_at (Some c) at) unhurt (handed c at unhurt)) (moves_at (Some c) at));
      }

      pick : (o : Option CoreState) → t.state.cores t.core ≡ o → TurnMoves makes view (standing_of (with_next t next)) r u
      pick None at = record {
        handed = moves.handed;
        is_handed = subst (λ o. IsHanded (option_map kept_of o) next moves.handed) (sym at) tt;
        moves = back None moves.handed at (moves_at None at);
      }
      pick (Some c) at = by_hurt c c.hurt refl at
