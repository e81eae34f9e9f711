-- A turn of a core: what follows its answer, and a book that is stopped where the turn failed.
use Rattle.std.proofs.Common.{◌≡◌, ◌≢◌, ◌⊎◌, ℕ, suc, true, cond, ◌&&◌, is_none, Option, Some, None, Result, Ok, Err, IsOk, IsErr, refl, sym, ap, ◌∙◌, subst, inl, inr}
use Rattle.std.proofs.lemmas.List.{append-nil}
use Rattle.rv32_exec.specs.declared.sequential.End.{End}
use Rattle.rv32_exec.specs.Arrival.{Arrival}
use Rattle.rv32_exec.specs.Hart.{HartState}
use Rattle.rv32_exec.specs.NextEvent.{Event, next_event}
use Rattle.rv32_image.specs.Image.{LoadedImage}
use Rattle.run_ledger.specs.declared.counts.Counts.{Counts}
use Rattle.spec_history.specs.FlatState.{FlatState}
use Rattle.spec_history.specs.Replay.{replay}
use Rattle.ticket_lock.specs.Past.{StartsWith}
use Rattle.violations.specs.View.{StoreView, Waits}
use Rattle.violations.specs.Calls.{Call}
use Rattle.homefree.specs.declared.answer.Answer.{Answer}
use Rattle.homefree.specs.declared.answer.Answer.TheVariants.{Go, Again, Left, Over, Stopped}
use Rattle.homefree.specs.declared.answer.StopCause.{StopCause}
use Rattle.homefree.specs.declared.fault.TurnFault.{TurnFault}
use Rattle.homefree.specs.declared.book.Loop.{Loop}
use Rattle.homefree.specs.BookView.{BookView}
use Rattle.homefree.specs.Driven.{arrival_of}
use Rattle.homefree.specs.LockView.{loop_of, past_of}
use Rattle.homefree.specs.Turned.{Turn, Outcome}
use Rattle.homefree.specs.Fixed.{TurnsStore}
use Rattle.homefree.specs.Turned as turn
use Rattle.homefree.proofs.Books.Unstopped.{acts_isnt, err_isnt, over_isnt, same_answer}
use Rattle.core_threads.specs.declared.turns.After.{After}
use Rattle.core_threads.specs.declared.turns.After.TheVariants.{Goes, Waits as Comes, Leaves, Ends}
use Rattle.core_threads.specs.declared.turns.LoopEnd.{LoopEnd}
use Rattle.core_threads.specs.declared.turns.LoopEnd.TheVariants as loop
use Rattle.core_threads.specs.Answered.{EndsOrGoes, IsShut, Takes, TakesTurn, TakesTurns, after_answer, hand_after, hart_after, cause_for}
use Rattle.core_threads.specs.Passes.{IsGoing, Knows}
use Rattle.core_threads.proofs.Counting.{history-past}

-- ---- answers

pub over_answer : (answer : Answer) → after_answer answer ≡ Ends loop.Over → (end : End) × (answer ≡ Over end)
over_answer (Go reached) is = absurd cc
over_answer (Again cause) is = absurd cc
over_answer Left is = absurd cc
over_answer (Over end) is = (end, refl)
over_answer (Stopped cause) is = absurd cc

pub stopped_answer : (answer : Answer) → after_answer answer ≡ Ends loop.Stopped → (cause : StopCause) × (answer ≡ Stopped cause)
stopped_answer (Go reached) is = absurd cc
stopped_answer (Again cause) is = absurd cc
stopped_answer Left is = absurd cc
stopped_answer (Over end) is = absurd cc
stopped_answer (Stopped cause) is = (cause, refl)

-- ---- its turns

goes_by : (after : After) (ends : LoopEnd → Type 0) (goes : Type 0) → ((end : LoopEnd) → after ≢ Ends end) → goes → EndsOrGoes after ends goes
goes_by Goes ends goes going so = so
goes_by Comes ends goes going so = so
goes_by Leaves ends goes going so = so
goes_by (Ends end) ends goes going so = absurd (going end refl)

pub isnt_goes : (after : After) (end : LoopEnd) → after ≡ Goes → after ≢ Ends end
isnt_goes after end is ends = cc

pub isnt_waits : (after : After) (end : LoopEnd) → after ≡ Comes → after ≢ Ends end
isnt_waits after end is ends = cc

pub isnt_leaves : (after : After) (end : LoopEnd) → after ≡ Leaves → after ≢ Ends end
isnt_leaves after end is ends = cc

-- a turn ends them, but not where no ticket is left
pub turn_count : LoopEnd → ℕ
turn_count loop.Over = 1
turn_count loop.Stopped = 1
turn_count loop.Spent = 0

-- ---- books

module _ {S : Type 0} where
  pub going_past : (b : BookView S) (s : FlatState) → replay b.image b.cores b.history ≡ Some s → s.end ≡ None → IsGoing (loop_of b) (past_of b.history)
  going_past b s replays going = record { state = s; replays = ap (λ h. replay b.image b.cores h) (history-past b.history) ∙ replays; going = going }

  pub going_where : (b : BookView S) (s : FlatState) (ended : Option End) → replay b.image b.cores b.history ≡ Some s → ended ≡ s.end → ended ≡ None → IsGoing (loop_of b) (past_of b.history)
  going_where b s ended replays same is = going_past b s replays (sym same ∙ is)

  -- a turn that failed: its book leads where it did, the loop isn't over, and the book isn't stopped
  pub record Fails (turned : BookView S) (s : FlatState) : Type 0 where
    pub replays : replay turned.image turned.cores turned.history ≡ Some s
    pub going : s.end ≡ None
    pub unstopped : turned.stopped ≡ None

  replays_so : (old new : BookView S) (s : FlatState) → new.image ≡ old.image → new.cores ≡ old.cores → new.history ≡ old.history → replay old.image old.cores old.history ≡ Some s
      → replay new.image new.cores new.history ≡ Some s
  replays_so old new s image cores history replays = (λ i. replay (image i) (cores i) (history i)) ∙ replays

  module _ (makes : S → Call → S → Type 0) (view : S → StoreView) (waits : S → Waits) (old turned : BookView S) (s : FlatState) (core : ℕ) (next : Option Arrival) (shares shares' : Counts) (result : Result Answer TurnFault)
      (t : TurnsStore makes view waits old s shares core next result turned shares') where
    pub takes_answer : (hart hart' : HartState) (after : After) (answer : Answer) → result ≡ Ok answer → after ≡ after_answer answer → hart' ≡ hart_after answer hart
        → Takes makes view waits old turned s core next shares shares' hart hart' after
    takes_answer hart hart' after answer is after_is hart_is = record {
      turned = turned;
      answer = Ok answer;
      turns = subst (λ (r : Result Answer TurnFault). TurnsStore makes view waits old s shares core next r turned shares') is t;
      follows = (refl, after_is, hart_is);
    }

  pub failed : (view : S → StoreView) (waits : S → Waits) (old turned : BookView S) (s : FlatState) (core : ℕ) (next : Option Arrival) (shares shares' : Counts) (result : Result Answer TurnFault) (fault : TurnFault)
      → replay old.image old.cores old.history ≡ Some s → turn.Turned view waits old s shares core next result turned shares' → result ≡ Err fault → Fails turned s
  failed view waits old turned s core next shares shares' result fault replays (turn.over o same held) is = absurd (err_isnt (Over o.end) fault (sym o.answer_is ∙ is))
  failed view waits old turned s core next shares shares' result fault replays (turn.stopped o same held) is = absurd (err_isnt (Stopped o.cause) fault (sym o.answer_is ∙ is))
  failed view waits old turned s core next shares shares' result fault replays (turn.full o same held) is = record {
    replays = replays_so old turned s (ap (λ (b : BookView S). b.image) same) (ap (λ (b : BookView S). b.cores) same) (ap (λ (b : BookView S). b.history) same) replays;
    going = o.going;
    unstopped = ap (λ (b : BookView S). b.stopped) same ∙ o.unstopped;
  }
  failed view waits old turned s core next shares shares' result fault replays (turn.no_memory may seen grows none) is = record {
    replays = replays_so old turned s grows.image grows.cores (grows.history ∙ append-nil old.history) replays;
    going = may.going;
    unstopped = grows.stopped ∙ may.unstopped;
  }
  failed view waits old turned s core next shares shares' result fault replays (turn.acts a) is = absurd (err_isnt a.out.answer fault (sym a.answer_is ∙ is))

  -- where the answer is that the book was stopped, the loop isn't over
  pub stopped_going : (view : S → StoreView) (waits : S → Waits) (old turned : BookView S) (s : FlatState) (core : ℕ) (next : Option Arrival) (shares shares' : Counts) (result : Result Answer TurnFault) (cause : StopCause)
      → replay old.image old.cores old.history ≡ Some s → turn.Turned view waits old s shares core next result turned shares' → result ≡ Ok (Stopped cause) → IsGoing (loop_of turned) (past_of turned.history)
  stopped_going view waits old turned s core next shares shares' result cause replays (turn.over o same held) is = absurd (over_isnt o.end cause (same_answer result (Over o.end) (Stopped cause) o.answer_is is))
  stopped_going view waits old turned s core next shares shares' result cause replays (turn.stopped o same held) is =
      going_past turned s (replays_so old turned s (ap (λ (b : BookView S). b.image) same) (ap (λ (b : BookView S). b.cores) same) (ap (λ (b : BookView S). b.history) same) replays) o.going
  stopped_going view waits old turned s core next shares shares' result cause replays (turn.full o same held) is = absurd (err_isnt (Stopped cause) _ (sym is ∙ o.answer_is))
  stopped_going view waits old turned s core next shares shares' result cause replays (turn.no_memory may seen grows none) is = absurd (err_isnt (Stopped cause) _ (sym is ∙ none))
  stopped_going view waits old turned s core next shares shares' result cause replays (turn.acts a) is =
      absurd (acts_isnt (turn.turn_at waits old s core next) a.reserved (view turned.store) a.out cause a.acts (same_answer result a.out.answer (Stopped cause) a.answer_is is))

  -- ---- a book that is stopped for a turn that failed

  pub stopped_so : (turned new : BookView S) (s : FlatState) (cause : StopCause) → Fails turned s
      → new ≡ cond (is_none s.end && is_none turned.stopped) (record turned { stopped = Some cause }) turned → new ≡ record turned { stopped = Some cause }
  stopped_so turned new s cause f is =
      let halted : BookView S = record turned { stopped = Some cause } in
      is ∙ (λ i. cond (is_none (f.going i) && is_none (f.unstopped i)) halted turned)

  pub going_stopped : (turned new : BookView S) (s : FlatState) (cause : StopCause) → Fails turned s → new ≡ record turned { stopped = Some cause } → IsGoing (loop_of new) (past_of new.history)
  going_stopped turned new s cause f is = subst (λ (b : BookView S). IsGoing (loop_of b) (past_of b.history)) (sym is) (going_past turned s f.replays f.going)

  pub takes_fault : (makes : S → Call → S → Type 0) (view : S → StoreView) (waits : S → Waits) (old turned new : BookView S) (s : FlatState) (core : ℕ) (next : Option Arrival) (shares shares' : Counts) (hart hart' : HartState) (after : After)
      (result : Result Answer TurnFault) (fault : TurnFault) → TurnsStore makes view waits old s shares core next result turned shares' → result ≡ Err fault → new ≡ record turned { stopped = Some (cause_for fault) }
      → after ≡ Ends loop.Stopped → hart' ≡ hart → Takes makes view waits old new s core next shares shares' hart hart' after
  takes_fault makes view waits old turned new s core next shares shares' hart hart' after result fault t is new_is after_is hart_is = record {
    turned = turned;
    answer = Err fault;
    turns = subst (λ (r : Result Answer TurnFault). TurnsStore makes view waits old s shares core next r turned shares') is t;
    follows = (new_is, after_is, hart_is);
  }

  -- ---- what a core did while it held the book

  by_gate : {E : Type 0} (makes : S → Call → S → Type 0) (view : S → StoreView) (waits : S → Waits) (old new : BookView S) (s : FlatState) (core : ℕ) (next : Option Arrival) (shares shares' : Counts) (hart hart' : HartState)
      (after : After) (passed : Result Unit E) → (IsOk passed → Takes makes view waits old new s core next shares shares' hart hart' after) → (IsErr passed → IsShut old new s after)
      → Takes makes view waits old new s core next shares shares' hart hart' after ⊎ IsShut old new s after
  by_gate makes view waits old new s core next shares shares' hart hart' after (Ok done) takes shut = inl (takes refl)
  by_gate makes view waits old new s core next shares shares' hart hart' after (Err fault) takes shut = inr (shut refl)

  pub takes_turn : {E : Type 0} (makes : S → Call → S → Type 0) (view : S → StoreView) (waits : S → Waits) (l : Loop) (next : Option Arrival) (p hp r : Knows) (v b n : BookView S) (core : ℕ) (shares shares' : Counts)
      (hart hart' : HartState) (after : After) (passed : Result Unit E) → loop_of v ≡ l → StartsWith (past_of v.history) p.seen → b ≡ v → core ≡ p.lo → r ≡ record hp { seen = past_of n.history }
      → (IsOk passed → (s : FlatState) → replay b.image b.cores b.history ≡ Some s → Takes makes view waits b n s core next shares shares' hart hart' after)
      → (IsErr passed → (s : FlatState) → replay b.image b.cores b.history ≡ Some s → IsShut b n s after)
      → TakesTurn makes view waits l p.lo next p r shares shares' hart hart' after
  takes_turn makes view waits l next p hp r v b n core shares shares' hart hart' after passed loop begins shows who release takes shut = record {
    old = b;
    new = n;
    loop = ap (λ (x : BookView S). loop_of x) shows ∙ loop;
    begins = subst (λ (x : BookView S). StartsWith (past_of x.history) p.seen) (sym shows) begins;
    seen = ap (λ (k : Knows). k.seen) release;
    does = λ s replays. subst (λ k. Takes makes view waits b n s k next shares shares' hart hart' after ⊎ IsShut b n s after) who
        (by_gate makes view waits b n s core next shares shares' hart hart' after passed (λ ok. takes ok s replays) (λ err. shut err s replays));
  }

  -- ---- its turns, one after another

  module _ (makes : S → Call → S → Type 0) (view : S → StoreView) (waits : S → Waits) (l : Loop) (core : ℕ) (p mid q : Knows) (shares counted shares' : Counts) (next : Option Arrival) (hart hart' : HartState)
      (after : After) (end : LoopEnd) (turn : TakesTurn makes view waits l core next p mid shares counted hart hart' after) where
    pub one_more : (n : ℕ) (then : Option Arrival) → ((e : LoopEnd) → after ≢ Ends e) → then ≡ hand_after l.image after hart' next
        → TakesTurns makes view waits l core n mid counted then q shares' end → TakesTurns makes view waits l core (suc n) p shares next q shares' end
    one_more n then going is rest =
        (mid, counted, hart, hart', after, turn, goes_by after _ _ going (subst (λ x. TakesTurns makes view waits l core n mid counted x q shares' end) is rest))

  -- the same of its own number and of what it has in hand
  pub its_turn : (makes : S → Call → S → Type 0) (view : S → StoreView) (waits : S → Waits) (l : Loop) (lo core : ℕ) (p q : Knows) (shares shares' : Counts) (handed next : Option Arrival) (hart hart' : HartState) (after : After)
      → lo ≡ core → handed ≡ next → TakesTurn makes view waits l lo handed p q shares shares' hart hart' after → TakesTurn makes view waits l core next p q shares shares' hart hart' after
  its_turn makes view waits l lo core p q shares shares' handed next hart hart' after who same turn =
      subst (λ (x : ℕ × Option Arrival). TakesTurn makes view waits l x.0 x.1 p q shares shares' hart hart' after) (λ i. (who i, same i)) turn

  pub ends_by : (makes : S → Call → S → Type 0) (view : S → StoreView) (waits : S → Waits) (l : Loop) (core : ℕ) (p q : Knows) (shares shares' : Counts) (next : Option Arrival) (hart hart' : HartState) (after : After)
      (end : LoopEnd) → after ≡ Ends end → (after ≡ Ends loop.Spent → (q ≡ record p { out = true }) × (shares' ≡ shares))
      → (after ≢ Ends loop.Spent → TakesTurn makes view waits l core next p q shares shares' hart hart' after)
      → TakesTurns makes view waits l core (turn_count end) p shares next q shares' end
  unfolding turn_count
  ends_by makes view waits l core p q shares shares' next hart hart' after loop.Over is none turn =
      (q, shares', hart, hart', Ends loop.Over, subst (λ a. TakesTurn makes view waits l core next p q shares shares' hart hart' a) is (turn (λ spent. absurd cc)), (refl, refl, refl))
  ends_by makes view waits l core p q shares shares' next hart hart' after loop.Stopped is none turn =
      (q, shares', hart, hart', Ends loop.Stopped, subst (λ a. TakesTurn makes view waits l core next p q shares shares' hart hart' a) is (turn (λ spent. absurd cc)), (refl, refl, refl))
  ends_by makes view waits l core p q shares shares' next hart hart' after loop.Spent is none turn = let spent = none is in (spent.0, spent.1, refl)

-- the arrival that `advance` came to from a hart
pub arrival_is : (kept image : LoadedImage) (hart : HartState) (at : Arrival) → kept ≡ image → at.base ≡ hart → at.now ≡ (next_event image hart).now → at.at ≡ (next_event image hart).at
    → at ≡ arrival_of kept hart
arrival_is kept image hart at same base now stop =
    let event : next_event image hart ≡ next_event kept hart = ap (λ i. next_event i hart) (sym same) in
    let now_is = now ∙ ap (λ (e : Event). e.now) event in
    let stop_is = stop ∙ ap (λ (e : Event). e.at) event in
    λ i. record { base = base i; now = now_is i; at = stop_is i }
