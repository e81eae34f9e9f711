-- A turn is fixed by the book and what its store holds.
use Rattle.std.proofs.Common.{◌≡◌, ◌≢◌, ℕ, ◌==◌, ◌&&◌, ◌++◌, not, Bool, true, false, List, [], ◌∷◌, Option, Some, None, Result, Ok, Err, if◌then◌else◌, option_map, refl, sym, ap, subst, ◌∙◌, arith}
use Rattle.std.proofs.lemmas.Bool.{and_right}
use Rattle.std.proofs.Math.Path.{fun_ext}
use Rattle.rv32_image.specs.Image.{LoadedImage}
use Rattle.rv32_exec.specs.declared.stop.Stop.{Stop}
use Rattle.rv32_exec.specs.declared.stop.Stop.TheVariants as stop
use Rattle.rv32_exec.specs.Arrival.{Arrival}
use Rattle.rv32_exec.specs.NextEvent.{next_event}
use Rattle.rv32_exec.specs.Hart.{HartState, start_of}
use Rattle.run_ledger.specs.declared.counts.Counts.{Counts}
use Rattle.run_ledger.specs.Counts.{sum_of}
use Rattle.spec_history.specs.declared.entry.Entry.{Entry}
use Rattle.spec_history.specs.declared.entry.What.TheVariants.{Restart}
use Rattle.spec_history.specs.FlatState.{CoreState, FlatState}
use Rattle.violations.specs.declared.step.WaitCause.{WaitCause}
use Rattle.violations.specs.View.{StoreView, Waits}
use Rattle.violations.specs.Calls.{Call, Reserve, Begin, Leads}
use Rattle.homefree.specs.declared.answer.Answer.{Answer}
use Rattle.homefree.specs.declared.answer.Answer.TheVariants.{Go}
use Rattle.homefree.specs.declared.fault.TurnFault.{TurnFault}
use Rattle.homefree.specs.declared.fault.TurnFault.TheVariants.{NoMemory}
use Rattle.homefree.specs.BookView.{BookView}
use Rattle.homefree.specs.Counted.{counted_in}
use Rattle.homefree.specs.Fixed.{AreTwins, TurnsStore, IsOneTurn, TurnIsFixed}
use Rattle.homefree.specs.Kept.{kept_of}
use Rattle.homefree.specs.Moves.{Moves, TurnMoves, StoreMoves, Standing, standing_of, IsHanded, calls_of, exits_of, running_calls, stop_calls, is_exit}
use Rattle.homefree.specs.Turned as turn
use Rattle.homefree.specs.Turned.{Turn, Turned, Outcome, Acting, does, entry_of, turn_at, wait_at, IsStale, IsHandedIn}
use Rattle.homefree.proofs.Fixed.Hurt.{one_view, one_readers}
use Rattle.homefree.proofs.Fixed.Chains.{Laws, views_are, moves_alike, stop_waits, stop_same}
use Rattle.homefree.proofs.Fixed.Outcomes.{wait_here, publishes_of, publishes_at, wants, IsFirst, IsOutcome, outcome, at_stop, by_wait, loads, loads_straight, stores, stores_straight, acts_is, handed_true, handed_false}

-- ---- what a core hands in, and why it waits, agrees in both turns, as far as it matters

pub record Agree (o : Option CoreState) (handed handed' : Bool) (wait wait' : Option WaitCause) : Type 0 where
  pub handed_is : (c : CoreState) → o ≡ Some c → c.hurt ≡ false → handed ≡ handed'
  pub wait_is : (c : CoreState) → o ≡ Some c → c.hurt ≡ false → handed ≡ true → c.straight ≡ false → wait ≡ wait'

stop_outcome : (t : Turn) (c : CoreState) (wait wait' : Option WaitCause) (first : ℕ → Bool) (v w : StoreView) (at : Stop) → (c.straight ≡ false → wait ≡ wait')
    → at_stop t c wait first v w at ≡ at_stop t c wait' first v w at
stop_outcome t c wait wait' first v w (stop.Load address width signed rd) same = pick c.straight refl
  where
    pick : (b : Bool) → c.straight ≡ b → (if b then loads_straight t c first v w address width else by_wait t c wait (loads t c v w address width) (loads_straight t c first v w address width))
        ≡ (if b then loads_straight t c first v w address width else by_wait t c wait' (loads t c v w address width) (loads_straight t c first v w address width))
    pick true e = refl
    pick false e = ap (λ o. by_wait t c o (loads t c v w address width) (loads_straight t c first v w address width)) (same e)
stop_outcome t c wait wait' first v w (stop.Store address width value) same = pick c.straight refl
  where
    pick : (b : Bool) → c.straight ≡ b → (if b then stores_straight t c first v w address width value else by_wait t c wait (stores t c v w address width value) (stores_straight t c first v w address width value))
        ≡ (if b then stores_straight t c first v w address width value else by_wait t c wait' (stores t c v w address width value) (stores_straight t c first v w address width value))
    pick true e = refl
    pick false e = ap (λ o. by_wait t c o (stores t c v w address width value) (stores_straight t c first v w address width value)) (same e)
stop_outcome t c wait wait' first v w stop.Ended same = refl
stop_outcome t c wait wait' first v w (stop.Fault cause pc) same = refl

same_outcome : (t : Turn) (o : Option CoreState) (handed handed' : Bool) (wait wait' : Option WaitCause) (first : ℕ → Bool) (v w : StoreView) → Agree o handed handed' wait wait'
    → outcome t o wait handed first v w ≡ outcome t o wait' handed' first v w
same_outcome t None handed handed' wait wait' first v w a = refl
same_outcome t (Some c) handed handed' wait wait' first v w a = pick c.hurt refl
  where
    told : Outcome
    told = does [] (Go c.hart)

    at : Stop
    at = (next_event t.image c.hart).at

    restarts : Outcome
    restarts = does (entry_of t Restart) (Go (start_of t.image c.epoch))

    by_handed : (h : Bool) → handed ≡ h → c.hurt ≡ false → (if h then at_stop t c wait first v w at else told) ≡ (if h then at_stop t c wait' first v w at else told)
    by_handed true e unhurt = stop_outcome t c wait wait' first v w at (λ spec. a.wait_is c refl unhurt e spec)
    by_handed false e unhurt = refl

    pick : (b : Bool) → c.hurt ≡ b → (if b then restarts else if handed then at_stop t c wait first v w at else told) ≡ (if b then restarts else if handed' then at_stop t c wait' first v w at else told)
    pick true e = refl
    pick false e = by_handed handed refl e ∙ ap (λ h. if h then at_stop t c wait' first v w at else told) (a.handed_is c refl e)

same_publishes : (t : Turn) (o : Option CoreState) (handed handed' : Bool) (wait wait' : Option WaitCause) → Agree o handed handed' wait wait' → publishes_of t o wait handed ≡ publishes_of t o wait' handed'
same_publishes t None handed handed' wait wait' a = refl
same_publishes t (Some c) handed handed' wait wait' a = pick c.hurt refl
  where
    at : Stop
    at = (next_event t.image c.hart).at

    same : Bool
    same = c.epoch == t.state.homefree

    wanted : Option WaitCause → Bool → Bool
    wanted o b = wants o at && (same && not b)

    never : (x : Bool) → (x && (same && false)) ≡ false
    never x = and_right x (same && false) (and_right same false refl)

    by_straight : (b : Bool) → c.straight ≡ b → handed ≡ true → c.hurt ≡ false → wanted wait b ≡ wanted wait' b
    by_straight true e h unhurt = never (wants wait at) ∙ sym (never (wants wait' at))
    by_straight false e h unhurt = ap (λ o. wanted o false) (a.wait_is c refl unhurt h e)

    by_handed : (h : Bool) → handed ≡ h → c.hurt ≡ false → (h && publishes_at t c wait at) ≡ (h && publishes_at t c wait' at)
    by_handed true e unhurt = by_straight c.straight refl e unhurt
    by_handed false e unhurt = refl

    pick : (b : Bool) → c.hurt ≡ b → (not b && (handed && publishes_at t c wait at)) ≡ (not b && (handed' && publishes_at t c wait' at))
    pick true e = refl
    pick false e = by_handed handed refl e ∙ ap (λ h. h && publishes_at t c wait' at) (a.handed_is c refl e)

same_first : (t : Turn) (v : StoreView) (publishes : Bool) (first first' : ℕ → Bool) → IsFirst t.core v publishes first → IsFirst t.core v publishes first' → first ≡ first'
same_first t v true first first' one two = one_readers v t.core first first' (one.readers refl) (two.readers refl)
same_first t v false first first' one two = fun_ext (λ k. one.nobody refl k ∙ sym (two.nobody refl k))

-- what comes of both turns, from one view to one
pub one_outcome : (t : Turn) (o : Option CoreState) (handed handed' : Bool) (wait wait' : Option WaitCause) (first first' : ℕ → Bool) (v w : StoreView) → Agree o handed handed' wait wait'
    → IsFirst t.core v (publishes_of t o wait handed) first → IsFirst t.core v (publishes_of t o wait' handed') first' → outcome t o wait handed first v w ≡ outcome t o wait' handed' first' v w
one_outcome t o handed handed' wait wait' first first' v w a one two =
    let firsts = same_first t v (publishes_of t o wait handed) first first' one (subst (λ b. IsFirst t.core v b first') (sym (same_publishes t o handed handed' wait wait' a)) two) in
    same_outcome t o handed handed' wait wait' first v w a ∙ ap (λ f. outcome t o wait' handed' f v w) firsts

-- ---- the calls of both

handed_same : (c : CoreState) (next : Option Arrival) (handed handed' : Bool) → IsHanded (Some (kept_of c)) next handed → IsHanded (Some (kept_of c)) next handed' → c.hurt ≡ false → handed ≡ handed'
handed_same c next true handed' one two unhurt = sym (handed_true next c handed' two unhurt one)
handed_same c next false handed' one two unhurt = sym (handed_false next c handed' two (one unhurt))

module _ {S : Type 0} (makes : S → Call → S → Type 0) (alike : S → S → Type 0) (view : S → StoreView) (waits : S → Waits) (laws : Laws makes alike view waits)
    (image : LoadedImage) (count homefree next_epoch core : ℕ) (next : Option Arrival) where
  abbrev pub stand : Option CoreState → Waits → Standing
  stand o w = record { image = image; count = count; waits = w; homefree = homefree; next_epoch = next_epoch; core = core; running = option_map kept_of o; next = next }

  abbrev pub waits_at : Option CoreState → Waits → Option WaitCause
  waits_at None w = None
  waits_at (Some c) w = wait_at w core (next_event image c.hart).at

  -- the stores after both, and what agrees
  pub record Same (o : Option CoreState) (handed handed' : Bool) (s s' u u' : S) : Type 0 where
    pub stores : alike u u'
    pub agree : Agree o handed handed' (waits_at o (waits s)) (waits_at o (waits s'))

  running_same : (c : CoreState) (handed handed' : Bool) (s u s' u' : S) → alike s s' → IsHanded (Some (kept_of c)) next handed → IsHanded (Some (kept_of c)) next handed'
      → Moves makes view (running_calls image (waits s) homefree core (kept_of c) handed) (exits_of (stand (Some c) (waits s)) (Some (kept_of c)) handed) count core s u
      → Moves makes view (running_calls image (waits s') homefree core (kept_of c) handed') (exits_of (stand (Some c) (waits s')) (Some (kept_of c)) handed') count core s' u'
      → Same (Some c) handed handed' s s' u u'
  running_same c handed handed' s u s' u' same is is' one two = record {
    stores = moves_alike makes alike view waits laws (calls (waits s) handed) (calls (waits s') handed') (ends handed) (ends handed') count core s u s' u' calls_are ends_are same one two;
    agree = record {
      handed_is = λ d at unhurt. handed_is (ap hurt (core_is d at) ∙ unhurt);
      wait_is = λ d at unhurt h spec. wait_is (ap hurt (core_is d at) ∙ unhurt) h (ap straight (core_is d at) ∙ spec);
    };
  }
    where
      at : Stop
      at = (next_event image c.hart).at

      hurt : CoreState → Bool
      hurt d = d.hurt

      straight : CoreState → Bool
      straight d = d.straight

      core_is : (d : CoreState) → Some c ≡ Some d → c ≡ d
      core_is d e = cc

      calls : Waits → Bool → List Call
      calls w h = running_calls image w homefree core (kept_of c) h

      ends : Bool → Bool
      ends h = exits_of (stand (Some c) (waits s)) (Some (kept_of c)) h

      now : HartState
      now = (next_event image c.hart).now

      handed_is : c.hurt ≡ false → handed ≡ handed'
      handed_is unhurt = handed_same c next handed handed' is is' unhurt

      at_stop_is : (w : Waits) (h : Bool) → c.hurt ≡ false → h ≡ true → calls w h ≡ stop_calls image w homefree core (kept_of c) now at
      at_stop_is w h unhurt e =
          ap (λ b. if b then Begin core c.epoch ∷ [] else if h then stop_calls image w homefree core (kept_of c) now at else []) unhurt
          ∙ ap (λ b. if b then stop_calls image w homefree core (kept_of c) now at else []) e

      wait_is : c.hurt ≡ false → handed ≡ true → c.straight ≡ false → wait_at (waits s) core at ≡ wait_at (waits s') core at
      wait_is unhurt h spec =
          stop_waits makes alike view waits laws image homefree core (kept_of c) now at s one.mid s' two.mid spec same
          (subst (λ l. Leads makes l s one.mid) (at_stop_is (waits s) handed unhurt h) one.leads)
          (subst (λ l. Leads makes l s' two.mid) (at_stop_is (waits s') handed' unhurt (sym (handed_is unhurt) ∙ h)) two.leads)

      calls_are : calls (waits s) handed ≡ calls (waits s') handed'
      calls_are = by_hurt c.hurt refl
        where
          stops : Waits → List Call
          stops w = stop_calls image w homefree core (kept_of c) now at

          by_handed : (h : Bool) → handed ≡ h → c.hurt ≡ false → (if h then stops (waits s) else []) ≡ (if h then stops (waits s') else [])
          by_handed true e unhurt = stop_same makes alike view waits laws image homefree core (kept_of c) now at (waits s) (waits s') (wait_is unhurt e)
          by_handed false e unhurt = refl

          by_hurt : (b : Bool) → c.hurt ≡ b → (if b then Begin core c.epoch ∷ [] else if handed then stops (waits s) else []) ≡ (if b then Begin core c.epoch ∷ [] else if handed' then stops (waits s') else [])
          by_hurt true e = refl
          by_hurt false e = by_handed handed refl e ∙ ap (λ h. if h then stops (waits s') else []) (handed_is e)

      ends_are : ends handed ≡ ends handed'
      ends_are = by_hurt c.hurt refl
        where
          by_hurt : (b : Bool) → c.hurt ≡ b → (not b && handed && is_exit image homefree (kept_of c) now at) ≡ (not b && handed' && is_exit image homefree (kept_of c) now at)
          by_hurt true e = refl
          by_hurt false e = ap (λ h. h && is_exit image homefree (kept_of c) now at) (handed_is e)

  pub turn_same : (o : Option CoreState) (s u s' u' : S) → alike s s' → (one : TurnMoves makes view (stand o (waits s)) s u) (two : TurnMoves makes view (stand o (waits s')) s' u')
      → Same o one.handed two.handed s s' u u'
  turn_same None s u s' u' same one two = record {
    stores = moves_alike makes alike view waits laws (calls_of (stand None (waits s)) None one.handed) (calls_of (stand None (waits s')) None two.handed) false false count core s u s' u' refl refl same one.moves two.moves;
    agree = record { handed_is = λ c at unhurt. absurd cc; wait_is = λ c at unhurt h spec. absurd cc };
  }
  turn_same (Some c) s u s' u' same one two = running_same c one.handed two.handed s u s' u' same one.is_handed two.is_handed one.moves two.moves

-- ---- the turn of a book

abbrev pub with_store : {S : Type 0} → BookView S → S → BookView S
with_store b store = record b { store = store }

pub twin_is : {S : Type 0} (alike : S → S → Type 0) (b c : BookView S) → AreTwins alike b c → with_store b c.store ≡ c
twin_is alike b c twins = (λ i. record {
  image = sym twins.image i;
  cores = sym twins.cores i;
  room = sym twins.room i;
  history = sym twins.history i;
  totals = sym twins.totals i;
  store = c.store;
  stopped = sym twins.stopped i;
})

module _ {S : Type 0} (makes : S → Call → S → Type 0) (alike : S → S → Type 0) (view : S → StoreView) (waits : S → Waits) (laws : Laws makes alike view waits)
    (old : BookView S) (store : S) (s : FlatState) (shares : Counts) (core : ℕ) (next : Option Arrival) (stores : alike old.store store) where
  pub twins_after : (new new' : BookView S) (entries entries' : List Entry) (after after' : Counts) → entries ≡ entries' → alike new.store new'.store → turn.Grows old new shares after entries
      → turn.Grows (with_store old store) new' shares after' entries' → (after' ≡ after) × AreTwins alike new new'
  twins_after new new' entries entries' after after' same are one two = (
    two.held ∙ (ap (λ l. sum_of shares (counted_in l)) (sym same) ∙ sym one.held),
    record {
      image = two.image ∙ sym one.image;
      cores = two.cores ∙ sym one.cores;
      room = two.room ∙ sym one.room;
      history = two.history ∙ (ap (λ l. old.history ++ l) (sym same) ∙ sym one.history);
      totals = two.totals ∙ (ap (λ l. sum_of old.totals (counted_in l)) (sym same) ∙ sym one.totals);
      stopped = two.stopped ∙ sym one.stopped;
      stores = are;
    },
  )

  -- the calls of the turn of a book with this loop, after it has made room
  record Taken (b : BookView S) (u : S) : Type 0 where
    reserved : S
    reserves : makes b.store Reserve reserved
    waits_are : waits reserved ≡ waits b.store
    moves : TurnMoves makes view (stand makes alike view waits laws b.image b.cores s.homefree s.next_epoch core next (s.cores core) (waits reserved)) reserved u

  taken : (b : BookView S) (u : S) → StoreMoves makes view waits (standing_of (turn_at waits b s core next)) b.store u → Taken b u
  taken b u t = record {
    reserved = t.reserved;
    reserves = t.reserves;
    waits_are = t.waits_are;
    moves = subst (λ w. TurnMoves makes view (stand makes alike view waits laws b.image b.cores s.homefree s.next_epoch core next (s.cores core) w) t.reserved u) (sym t.waits_are) t.moves;
  }

  wait_as : (t : Turn) (o : Option CoreState) → t.image ≡ old.image → t.core ≡ core → wait_here t o ≡ waits_at makes alike view waits laws old.image old.cores s.homefree s.next_epoch core next o t.waits
  wait_as t None image_is core_is = refl
  wait_as t (Some c) image_is core_is = (λ i. wait_at t.waits (core_is i) (next_event (image_is i) c.hart).at)

  -- both turns are taken
  acts_same : (new new' : BookView S) (after after' : Counts) (answer answer' : Result Answer TurnFault) → Acting view waits old new s shares after core next answer
      → Acting view waits (with_store old store) new' s shares after' core next answer' → StoreMoves makes view waits (standing_of (turn_at waits old s core next)) old.store new.store
      → StoreMoves makes view waits (standing_of (turn_at waits (with_store old store) s core next)) store new'.store → IsOneTurn alike answer answer' new new' after after'
  acts_same new new' after after' answer answer' a b m n = record {
    answer_is = b.answer_is ∙ (ap (λ (x : Outcome). Ok x.answer) (sym outs) ∙ sym a.answer_is);
    shares_are = grown.0;
    twins = grown.1;
  }
    where
      o : Option CoreState
      o = s.cores core

      t : Turn
      t = turn_at waits old s core next

      u : Turn
      u = turn_at waits (with_store old store) s core next

      one : Taken old new.store
      one = taken old new.store m

      two : Taken (with_store old store) new'.store
      two = taken (with_store old store) new'.store n

      reserved : alike one.reserved two.reserved
      reserved = laws.fixed old.store one.reserved store two.reserved Reserve stores one.reserves two.reserves

      h : Bool
      h = one.moves.handed

      k : Bool
      k = two.moves.handed

      same : Same makes alike view waits laws old.image old.cores s.homefree s.next_epoch core next o h k one.reserved two.reserved new.store new'.store
      same = turn_same makes alike view waits laws old.image old.cores s.homefree s.next_epoch core next o one.reserved new.store two.reserved new'.store reserved one.moves two.moves

      at : (w : Waits) → Option WaitCause
      at w = waits_at makes alike view waits laws old.image old.cores s.homefree s.next_epoch core next o w

      agree : Agree o h k (wait_here t o) (wait_here u o)
      agree = record {
        handed_is = same.agree.handed_is;
        wait_is = λ c is unhurt handed spec. (wait_as t o refl refl ∙ ap at (sym one.waits_are)) ∙ (same.agree.wait_is c is unhurt handed spec ∙ sym (wait_as u o refl refl ∙ ap at (sym two.waits_are)));
      }

      before : a.reserved ≡ b.reserved
      before = sym (one_view (view old.store) a.reserved a.same) ∙ (views_are makes alike view waits laws old.store store stores ∙ one_view (view store) b.reserved b.same)

      behind : view new.store ≡ view new'.store
      behind = views_are makes alike view waits laws new.store new'.store same.stores

      x : IsOutcome t o h a.reserved (view new.store) a.out
      x = acts_is t h a.reserved (view new.store) a.out one.moves.is_handed a.acts

      y : IsOutcome u o k b.reserved (view new'.store) b.out
      y = acts_is u k b.reserved (view new'.store) b.out two.moves.is_handed b.acts

      outs : a.out ≡ b.out
      outs = x.out_is ∙ (one_outcome t o h k (wait_here t o) (wait_here u o) x.first y.first a.reserved (view new.store) agree x.is_first
          (subst (λ v. IsFirst t.core v (publishes_of t o (wait_here u o) k) y.first) (sym before) y.is_first)
          ∙ ((λ i. outcome t o (wait_here u o) k y.first (before i) (behind i)) ∙ sym y.out_is))

      grown : (after' ≡ after) × AreTwins alike new new'
      grown = twins_after new new' a.out.entries b.out.entries after after' (ap (λ (z : Outcome). z.entries) outs) same.stores a.grows b.grows

  -- neither changes anything
  still : (new new' : BookView S) (after after' : Counts) (answer answer' : Result Answer TurnFault) → answer' ≡ answer → new ≡ old → new' ≡ with_store old store → after ≡ shares → after' ≡ shares
      → IsOneTurn alike answer answer' new new' after after'
  still new new' after after' answer answer' same one two first second = record {
    answer_is = same;
    shares_are = second ∙ sym first;
    twins = subst (λ b. AreTwins alike b new') (sym one) (subst (AreTwins alike old) (sym two)
        (record { image = refl; cores = refl; room = refl; history = refl; totals = refl; stopped = refl; stores = stores }));
  }

  pub turned_same : (new new' : BookView S) (after after' : Counts) (answer answer' : Result Answer TurnFault) → answer ≢ Err NoMemory → answer' ≢ Err NoMemory
      → TurnsStore makes view waits old s shares core next answer new after → TurnsStore makes view waits (with_store old store) s shares core next answer' new' after'
      → IsOneTurn alike answer answer' new new' after after'
  turned_same new new' after after' answer answer' fed fed' one two = by_case one.turned two.turned
    where
      b : BookView S
      b = with_store old store

      by_case : Turned view waits old s shares core next answer new after → Turned view waits b s shares core next answer' new' after' → IsOneTurn alike answer answer' new new' after after'
      by_case (turn.no_memory may same grows is) y = absurd (fed is)
      by_case x (turn.no_memory may same grows is) = absurd (fed' is)
      by_case (turn.over h new_is after_is) (turn.over k new_is' after_is') =
          still new new' after after' answer answer' (let e = h.over in let f = k.over in let g = h.answer_is in let i = k.answer_is in cc) new_is new_is' after_is after_is'
      by_case (turn.over h new_is after_is) (turn.stopped k new_is' after_is') = let e = h.over in let f = k.going in absurd cc
      by_case (turn.over h new_is after_is) (turn.full k new_is' after_is') = let e = h.over in let f = k.going in absurd cc
      by_case (turn.over h new_is after_is) (turn.acts k) = let e = h.over in let f = k.may.going in absurd cc
      by_case (turn.stopped h new_is after_is) (turn.over k new_is' after_is') = let e = h.going in let f = k.over in absurd cc
      by_case (turn.stopped h new_is after_is) (turn.stopped k new_is' after_is') =
          still new new' after after' answer answer' (let e = h.stopped in let f = k.stopped in let g = h.answer_is in let i = k.answer_is in cc) new_is new_is' after_is after_is'
      by_case (turn.stopped h new_is after_is) (turn.full k new_is' after_is') = let e = h.stopped in let f = k.unstopped in absurd cc
      by_case (turn.stopped h new_is after_is) (turn.acts k) = let e = h.stopped in let f = k.may.unstopped in absurd cc
      by_case (turn.full h new_is after_is) (turn.over k new_is' after_is') = let e = h.going in let f = k.over in absurd cc
      by_case (turn.full h new_is after_is) (turn.stopped k new_is' after_is') = let e = h.unstopped in let f = k.stopped in absurd cc
      by_case (turn.full h new_is after_is) (turn.full k new_is' after_is') = still new new' after after' answer answer' (k.answer_is ∙ sym h.answer_is) new_is new_is' after_is after_is'
      by_case (turn.full h new_is after_is) (turn.acts k) = absurd (omega (arith, h.full, k.may.free))
      by_case (turn.acts h) (turn.over k new_is' after_is') = let e = h.may.going in let f = k.over in absurd cc
      by_case (turn.acts h) (turn.stopped k new_is' after_is') = let e = h.may.unstopped in let f = k.stopped in absurd cc
      by_case (turn.acts h) (turn.full k new_is' after_is') = absurd (omega (arith, h.may.free, k.full))
      by_case (turn.acts h) (turn.acts k) = acts_same new new' after after' answer answer' h k (one.moves h.out.answer h.may h.answer_is) (two.moves k.out.answer k.may k.answer_is)

pub turn_fixed : {S : Type 0} (makes : S → Call → S → Type 0) (alike : S → S → Type 0) (view : S → StoreView) (waits : S → Waits) → Laws makes alike view waits → TurnIsFixed makes alike view waits
turn_fixed makes alike view waits laws old new old' new' s shares after after' core next answer answer' twins replays one two fed fed' =
    turned_same makes alike view waits laws old old'.store s shares core next twins.stores new new' after after' answer answer' fed fed' one
    (subst (λ b. TurnsStore makes view waits b s shares core next answer' new' after') (sym (twin_is alike old old' twins)) two)
