-- A book that its history's turns make again is one after each turn.
use Rattle.std.proofs.Common.{◌≡◌, ◌≢◌, ◌⊎◌, ℕ, ◌<◌, ◌≤◌, cond, false, List, [], ◌∷◌, ◌++◌, length, Option, Some, None, Result, Ok, option_map, refl, sym, ap, subst, ◌∙◌, inl, inr, append-nil, ne_eqb, eq-eqb}
use Rattle.std.proofs.lemmas.Bool.{cases_eq}
use Rattle.std.proofs.lemmas.List.{append_assoc}
use Rattle.std.proofs.lemmas.Grind.{flat_map-append}
use Rattle.memory_bytes.proofs.SmallFacts.{ok_same}
use Rattle.rv32_image.specs.Image.{LoadedImage, IsImage}
use Rattle.rv32_image.proofs.SmallFacts.{one_value, none_and_some}
use Rattle.rv32_exec.specs.declared.sequential.End.{End}
use Rattle.rv32_exec.specs.Arrival.{Arrival}
use Rattle.rv32_exec.specs.Hart.{HartState}
use Rattle.rv32_exec.specs.NextEvent.{next_event}
use Rattle.run_ledger.specs.declared.counts.Counts.{Counts}
use Rattle.run_ledger.specs.Counts.{no_counts, sum_of}
use Rattle.spec_history.specs.declared.entry.Entry.{Entry}
use Rattle.spec_history.specs.declared.entry.What.TheVariants.{Commit}
use Rattle.spec_history.specs.FlatState.{CoreState, FlatState, first_state, end_at}
use Rattle.spec_history.specs.Replay.{replay}
use Rattle.spec_history.proofs.Replay.Reaching.{no_entries}
use Rattle.violations.specs.View.{StoreView, Waits}
use Rattle.violations.specs.Calls.{Call, Reserve, RoomsJoin}
use Rattle.violations.specs.Rule.{IsSameView, IsCoreCount, IsFresh}
use Rattle.homefree.specs.declared.answer.Answer.{Answer}
use Rattle.homefree.specs.declared.answer.Answer.TheVariants.{Go, Again, Left, Over, Stopped}
use Rattle.homefree.specs.declared.answer.StopCause.{StopCause}
use Rattle.homefree.specs.declared.fault.TurnFault.{TurnFault}
use Rattle.homefree.specs.declared.answer.Came.{Came}
use Rattle.homefree.specs.declared.answer.Came.TheVariants as came
use Rattle.homefree.specs.declared.register.Register.{Register}
use Rattle.homefree.specs.declared.register.Running.{Running}
use Rattle.homefree.specs.BookInside.{IsAsBefore, IsBook, book_of}
use Rattle.homefree.specs.BookView.{BookView, ReplaysTo}
use Rattle.homefree.specs.Came.{answer_of, go_on}
use Rattle.homefree.specs.Counted.{counted_in}
use Rattle.homefree.specs.Driven.{Driven, Driver, TurnedWith, EndsOrGoes, driver, arrival_of, held_after, with_held}
use Rattle.homefree.specs.Hurts.{entry}
use Rattle.homefree.specs.InStep.{InStep}
use Rattle.homefree.specs.Kept.{Fits, Shows, kept_of, running_at}
use Rattle.homefree.specs.Moves.{HasToWait, TurnMoves, StoreMoves, standing_of}
use Rattle.homefree.specs.Room.{most_room}
use Rattle.homefree.specs.Retraced.{IsNew, IsRetraced, IsStill, GoesOn, HaveHarts, book_over, turn_of, turns_of}
use Rattle.homefree.specs.Turned as turn
use Rattle.homefree.specs.Turned.{Turn, Turned, Acting, MayAct, Outcome, IsHandedIn, turn_at}
use Rattle.homefree.proofs.Books.Entries.{acts_by}
use Rattle.homefree.proofs.Books.Following.{turn_ends}
use Rattle.homefree.proofs.Books.Turns.{first_book, sum_nothing}
use Rattle.homefree.proofs.Books.Unstopped.{acts_isnt, err_isnt}
use Rattle.homefree.proofs.Retracing.Harts.{others_stay, idle_after}
use Rattle.homefree.proofs.Retracing.Taking.{IsOwn, IsIdle, HandsIn, with_next, acts_sort, idle_entries, idle_rests, idle_view, moves_with}

-- ---- views

seen_same : (v : StoreView) → IsSameView v v
seen_same v = record {
  shape = refl;
  cached = refl;
  committed = λ a. refl;
  cores = λ k. record { attempt = refl; own = λ a. refl; guarded = λ a. refl; sees = λ a. refl };
}

seen_then : (v w x : StoreView) → IsSameView v w → IsSameView w x → IsSameView v x
seen_then v w x one two = record {
  shape = two.shape ∙ one.shape;
  cached = two.cached ∙ one.cached;
  committed = λ a. two.committed a ∙ one.committed a;
  cores = λ k. record {
    attempt = (two.cores k).attempt ∙ (one.cores k).attempt;
    own = λ a. (two.cores k).own a ∙ (one.cores k).own a;
    guarded = λ a. (two.cores k).guarded a ∙ (one.cores k).guarded a;
    sees = λ a. (two.cores k).sees a ∙ (one.cores k).sees a;
  };
}

-- ---- stores that made room

pub still_same : {S : Type 0} (makes : S → Call → S → Type 0) (view : S → StoreView) (waits : S → Waits) (s : S) → IsStill makes view waits s s
still_same makes view waits s = record { made = inl refl; same = seen_same (view s); waits_are = refl }

module _ {S : Type 0} (makes : S → Call → S → Type 0) (joins : RoomsJoin makes) where
  made_then : (s t u : S) → (t ≡ s) ⊎ makes s Reserve t → (u ≡ t) ⊎ makes t Reserve u → (u ≡ s) ⊎ makes s Reserve u
  made_then s t u (inl e) (inl f) = inl (f ∙ e)
  made_then s t u (inl e) (inr n) = inr (subst (λ x. makes x Reserve u) e n)
  made_then s t u (inr m) (inl f) = inr (subst (λ x. makes s Reserve x) (sym f) m)
  made_then s t u (inr m) (inr n) = inr (joins s t u m n)

  reserved_then : (s t u : S) → (t ≡ s) ⊎ makes s Reserve t → makes t Reserve u → makes s Reserve u
  reserved_then s t u (inl e) n = subst (λ x. makes x Reserve u) e n
  reserved_then s t u (inr m) n = joins s t u m n

-- ---- a new book, and a book that is stopped

module _ {S : Type 0} (starts : LoadedImage → ℕ → S → Type 0) (makes : S → Call → S → Type 0) (view : S → StoreView) (waits : S → Waits) where
  pub retraced_first : (b : BookView S) → b.history ≡ [] → b.totals ≡ no_counts → b.stopped ≡ None → IsFresh b.image b.cores (view b.store) → starts b.image b.cores b.store
      → IsRetraced starts makes view waits b
  retraced_first b history totals unstopped fresh started = record {
    first = b;
    is_new = record { loop = refl; history = history; totals = totals; store = fresh; started = started; stopped = unstopped };
    store = b.store;
    still = still_same makes view waits b.store;
    shares = no_counts;
    result = None;
    drives = subst (λ xs. Driven makes view waits (λ _. None) (driver b no_counts) xs (Ok None) here) (sym no_turns) (same, refl);
    goes_on = λ s replays going. record {
      held = λ _. None;
      harts = λ k c at unhurt.
          let first = one_value (replay b.image b.cores b.history) s (first_state b.image) replays (ap (replay b.image b.cores) history ∙ no_entries b.image b.cores) in
          let none : s.cores k ≡ None = ap (λ (x : FlatState). x.cores k) first in
          absurd (none_and_some (s.cores k) c none at);
      leads = λ more result new d.
          subst (λ xs. Driven makes view waits (λ _. None) (driver b no_counts) (xs ++ more) result new) (sym no_turns)
          (subst (λ x. Driven makes view waits (λ _. None) x more result new) same d);
    };
  }
    where
      here : Driver S
      here = driver (book_over b b.store) no_counts

      no_turns : turns_of b.cores b.history ≡ []
      no_turns = ap (turns_of b.cores) history

      same : here ≡ driver b no_counts
      same = ap (λ (c : Option StopCause). driver (let x : BookView S = record b { stopped = c } in x) no_counts) (sym unstopped)

  abbrev pub over_store : BookView S → S → Option StopCause → BookView S
  over_store b store cause = record b { store = store; stopped = cause }

  pub retraced_stopped : (b : BookView S) (cause : Option StopCause) → IsRetraced starts makes view waits b → IsRetraced starts makes view waits (over_store b b.store cause)
  retraced_stopped b cause r = record {
    first = r.first;
    is_new = r.is_new;
    store = r.store;
    still = r.still;
    shares = r.shares;
    result = r.result;
    drives = r.drives;
    goes_on = r.goes_on;
  }

-- what a new book keeps
pub first_whole : {S : Type 0} (starts : LoadedImage → ℕ → S → Type 0) (makes : S → Call → S → Type 0) (view : S → StoreView) (waits : S → Waits) (r : Register) (store : S) (cores room : ℕ) → IsImage r.image
    → IsCoreCount r.image cores → IsFresh r.image cores (view store) → starts r.image cores store → length r.running.items ≡ cores → ((k : ℕ) → running_at r.running.items k ≡ None) → r.history.items ≡ []
    → r.totals ≡ no_counts → r.homefree ≡ 0 → r.next_epoch ≡ 0 → r.end ≡ end_at r.image 0 → room ≤ most_room
    → IsBook view r store room None × IsRetraced starts makes view waits (book_of r store room None)
first_whole starts makes view waits r store cores room is count fresh started long idle history totals homefree next_epoch end most = (
  first_book view r store cores room is count fresh long idle history totals homefree next_epoch end most,
  retraced_first starts makes view waits (book_of r store room None) history totals refl (subst (λ n. IsFresh r.image n (view store)) (sym long) fresh) (subst (λ n. starts r.image n store) (sym long) started),
)

-- ---- a book whose history stays

module _ {S : Type 0} (starts : LoadedImage → ℕ → S → Type 0) (makes : S → Call → S → Type 0) (view : S → StoreView) (waits : S → Waits) (joins : RoomsJoin makes) where
  still_then : (s t u : S) → IsStill makes view waits s t → IsStill makes view waits t u → IsStill makes view waits s u
  still_then s t u one two = record {
    made = made_then makes joins s t u one.made two.made;
    same = seen_then (view s) (view t) (view u) one.same two.same;
    waits_are = two.waits_are ∙ one.waits_are;
  }

  over_is : (b : BookView S) (store : S) (cause : Option StopCause) → IsStill makes view waits b.store store → IsRetraced starts makes view waits b → IsRetraced starts makes view waits (over_store starts makes view waits b store cause)
  over_is b store cause still r = record {
    first = r.first;
    is_new = r.is_new;
    store = r.store;
    still = still_then r.store b.store store r.still still;
    shares = r.shares;
    result = r.result;
    drives = r.drives;
    goes_on = r.goes_on;
  }

  -- the store may have made room, and the book may have been stopped
  pub retraced_same : (old new : BookView S) → new.image ≡ old.image → new.cores ≡ old.cores → new.room ≡ old.room → new.history ≡ old.history → new.totals ≡ old.totals
      → IsStill makes view waits old.store new.store → IsRetraced starts makes view waits old → IsRetraced starts makes view waits new
  retraced_same old new image cores room history totals still r =
      subst (IsRetraced starts makes view waits) same (over_is old new.store new.stopped still r)
    where
      same : over_store starts makes view waits old new.store new.stopped ≡ new
      same = (λ i. record { image = sym image i; cores = sym cores i; room = sym room i; history = sym history i; totals = sym totals i; store = new.store; stopped = new.stopped })

  -- ---- a turn with an entry of its own

  module _ (old new : BookView S) (s : FlatState) (shares shares' : Counts) (core : ℕ) (next : Option Arrival) (r : IsRetraced starts makes view waits old) (replays : ReplaysTo old s)
      (given : Result Answer TurnFault) (a : Acting view waits old new s shares shares' core next given) (moves : StoreMoves makes view waits (standing_of (turn_at waits old s core next)) old.store new.store)
      (own : IsOwn (turn_at waits old s core next) a.reserved (view new.store) a.out)
      (ends : (end : End) → a.out.answer ≡ Over end → (t : FlatState) → ReplaysTo new t → t.end ≡ Some end)
      (unstopped : (cause : StopCause) → a.out.answer ≢ Stopped cause)
      (reached : (hart : HartState) → a.out.answer ≡ Go hart → (t : FlatState) (c : CoreState) → ReplaysTo new t → t.cores core ≡ Some c → c.hart ≡ hart) where
    abbrev before : Turn
    before = turn_at waits old s core next

    goes : GoesOn makes view waits (driver r.first no_counts) (driver (book_over old r.store) r.shares) (turns_of old.cores old.history) s
    goes = r.goes_on s replays a.may.going

    abbrev now_next : Option Arrival
    now_next = option_map (arrival_of old.image) (goes.held core)

    hands : HandsIn before now_next
    hands c at unhurt = subst (λ o. IsHandedIn (option_map (arrival_of old.image) o) c.hart) (sym (goes.harts core c at unhurt)) refl

    abbrev ghost : Turn
    ghost = turn_at waits (book_over old r.store) s core now_next

    ghost_is : with_next before now_next ≡ ghost
    ghost_is = ap (λ (k : Waits). let t : Turn = record { image = old.image; cores = old.cores; waits = k; state = s; core = core; next = now_next } in t) r.still.waits_are

    abbrev after : Counts
    after = sum_of r.shares (counted_in a.out.entries)

    abbrev mid : Driver S
    mid = driver (book_over new new.store) after

    turned : (answer : Answer) → a.out.answer ≡ answer → TurnedWith makes view waits (driver (book_over old r.store) r.shares) core (goes.held core) (Ok answer) mid
    turned answer is = record {
      state = s;
      replays = replays;
      turns = record {
        turned = turn.acts (record {
          may = record { going = a.may.going; unstopped = refl; free = a.may.free };
          reserved = a.reserved;
          same = seen_then (view r.store) (view old.store) a.reserved r.still.same a.same;
          out = a.out;
          acts = subst (λ t. turn.Acts t a.reserved (view new.store) a.out) ghost_is (own.hand_in now_next hands);
          grows = record { image = a.grows.image; cores = a.grows.cores; room = a.grows.room; history = a.grows.history; totals = a.grows.totals; held = refl; stopped = refl };
          answer_is = ap Ok (sym is);
        });
        moves = λ x may ok. record {
          reserved = moves.reserved;
          reserves = reserved_then makes joins r.store old.store moves.reserved r.still.made moves.reserves;
          waits_are = moves.waits_are ∙ r.still.waits_are;
          moves = subst (λ t. TurnMoves makes view (standing_of t) moves.reserved new.store) ghost_is (moves_with makes view before moves.reserved new.store moves.moves now_next own.handed hands);
        };
      };
    }

    schedule_is : turns_of new.cores new.history ≡ turns_of old.cores old.history ++ core ∷ []
    schedule_is =
        ap (λ n. turns_of n new.history) a.grows.cores
        ∙ (ap (turns_of old.cores) a.grows.history
        ∙ (flat_map-append (turn_of old.cores) old.history a.out.entries ∙ ap (λ xs. turns_of old.cores old.history ++ xs) own.shows))

    abbrev drive : List ℕ → Result (Option End) TurnFault → Driver S → Type 0
    drive = Driven makes view waits (λ _. None) (driver r.first no_counts)

    drives_to : (result : Result (Option End) TurnFault) → drive (turns_of old.cores old.history ++ core ∷ []) result mid → drive (turns_of new.cores new.history) result mid
    drives_to result d = subst (λ xs. drive xs result mid) (sym schedule_is) d

    -- the turn alone
    one_turn : (answer : Answer) → a.out.answer ≡ answer → (result : Option End) × drive (turns_of new.cores new.history) (Ok result) mid
    one_turn (Go hart) is = (None, drives_to (Ok None) (goes.leads (core ∷ []) (Ok None) mid (mid, Ok (Go hart), turned (Go hart) is, (refl, refl))))
    one_turn (Again cause) is = absurd (own.goes cause is)
    one_turn Left is = (None, drives_to (Ok None) (goes.leads (core ∷ []) (Ok None) mid (mid, Ok Left, turned Left is, (refl, refl))))
    one_turn (Over end) is = (Some end, drives_to (Ok (Some end)) (goes.leads (core ∷ []) (Ok (Some end)) mid (mid, Ok (Over end), turned (Over end) is, (refl, refl))))
    one_turn (Stopped cause) is = absurd (unstopped cause is)

    no_end : (end : End) (t : FlatState) → t.end ≡ None → t.end ≡ Some end → ⊥
    no_end end t none some = none_and_some t.end end none some

    -- the turn and more
    more_turns : (answer : Answer) → a.out.answer ≡ answer → (t : FlatState) → ReplaysTo new t → t.end ≡ None → (more : List ℕ) (result : Result (Option End) TurnFault) (last : Driver S)
        → Driven makes view waits (with_held goes.held core (held_after answer (goes.held core))) mid more result last → drive (turns_of new.cores new.history ++ more) result last
    more_turns answer is t leads going more result last d =
        subst (λ xs. drive (xs ++ more) result last) (sym schedule_is)
        (subst (λ xs. drive xs result last) (sym (append_assoc (turns_of old.cores old.history) (core ∷ []) more))
        (goes.leads (core ∷ more) result last (mid, Ok answer, turned answer is, by_answer answer is d)))
      where
        by_answer : (x : Answer) → a.out.answer ≡ x → Driven makes view waits (with_held goes.held core (held_after x (goes.held core))) mid more result last
            → EndsOrGoes (Ok x) (λ e. (last ≡ mid) × (result ≡ e)) (λ y. Driven makes view waits (with_held goes.held core (held_after y (goes.held core))) mid more result last)
        by_answer (Go hart) e q = q
        by_answer (Again cause) e q = q
        by_answer Left e q = q
        by_answer (Over end) e q = absurd (no_end end t going (ends end e t leads))
        by_answer (Stopped cause) e q = absurd (unstopped cause e)

    -- what the core has in hand
    own_hart : (answer : Answer) → a.out.answer ≡ answer → (t : FlatState) → ReplaysTo new t → t.end ≡ None → (c : CoreState) → t.cores core ≡ Some c → held_after answer (goes.held core) ≡ Some c.hart
    own_hart (Go hart) is t leads going c at = ap Some (sym (reached hart is t c leads at))
    own_hart (Again cause) is t leads going c at = absurd (own.goes cause is)
    own_hart Left is t leads going c at = absurd (none_and_some (t.cores core) c none at)
      where
        first : (xs : List Entry) × (a.out.entries ≡ xs ++ entry core Commit)
        first = own.leaves is

        history_is : replay old.image old.cores ((old.history ++ first.0) ++ entry core Commit) ≡ Some t
        history_is =
            ap (replay old.image old.cores) (append_assoc old.history first.0 (entry core Commit) ∙ (ap (λ xs. old.history ++ xs) (sym first.1) ∙ sym a.grows.history))
            ∙ ((λ i. replay (sym a.grows.image i) (sym a.grows.cores i) new.history) ∙ leads)

        none : t.cores core ≡ None
        none = idle_after old.image old.cores (old.history ++ first.0) t core history_is
    own_hart (Over end) is t leads going c at = absurd (no_end end t going (ends end is t leads))
    own_hart (Stopped cause) is t leads going c at = absurd (unstopped cause is)

    harts : (t : FlatState) → ReplaysTo new t → t.end ≡ None → HaveHarts (with_held goes.held core (held_after a.out.answer (goes.held core))) t
    harts t leads going k c at unhurt = elim (cases_eq k core) [
      | inl e ↦ ap (λ b. cond b (held_after a.out.answer (goes.held core)) (goes.held k)) (eq-eqb k core e)
          ∙ own_hart a.out.answer refl t leads going c (ap t.cores (sym e) ∙ at)
      | inr other ↦ ap (λ b. cond b (held_after a.out.answer (goes.held core)) (goes.held k)) (ne_eqb k core other)
          ∙ goes.harts k c (others_stay old.image old.cores old.history a.out.entries s t core k replays whole (acts_by before a.reserved (view new.store) a.out a.acts) other c at unhurt) unhurt
    ]
      where
        whole : replay old.image old.cores (old.history ++ a.out.entries) ≡ Some t
        whole = ap (replay old.image old.cores) (sym a.grows.history) ∙ ((λ i. replay (sym a.grows.image i) (sym a.grows.cores i) new.history) ∙ leads)

    pub retraced_more : IsRetraced starts makes view waits new
    retraced_more =
        let d = one_turn a.out.answer refl in record {
          first = r.first;
          is_new = subst (λ l. IsNew starts view l r.first) (λ i. record { image = sym a.grows.image i; cores = sym a.grows.cores i; room = sym a.grows.room i }) r.is_new;
          store = new.store;
          still = still_same makes view waits new.store;
          shares = after;
          result = d.0;
          drives = d.1;
          goes_on = λ t leads going. record {
            held = with_held goes.held core (held_after a.out.answer (goes.held core));
            harts = harts t leads going;
            leads = more_turns a.out.answer refl t leads going;
          };
        }

  -- ---- any turn

  module _ (old new : BookView S) (s : FlatState) (shares shares' : Counts) (core : ℕ) (next : Option Arrival) (answer : Answer) (i : InStep view old) (r : IsRetraced starts makes view waits old)
      (replays : ReplaysTo old s) (there : core < old.cores) (takes : MayAct old s → StoreMoves makes view waits (standing_of (turn_at waits old s core next)) old.store new.store)
      (waiting : (c : CoreState) → s.cores core ≡ Some c → c.hurt ≡ false → HasToWait (waits old.store) s.homefree core (kept_of c) (next_event old.image c.hart).at → IsStill makes view waits old.store new.store)
      (reached : (hart : HartState) → answer ≡ Go hart → (t : FlatState) (c : CoreState) → ReplaysTo new t → t.cores core ≡ Some c → c.hart ≡ hart) where
    retraced_acts : Acting view waits old new s shares shares' core next (Ok answer) → IsRetraced starts makes view waits new
    retraced_acts a = by_sort (acts_sort before a.reserved (view new.store) a.out there a.acts)
      where
        before : Turn
        before = turn_at waits old s core next

        moves : StoreMoves makes view waits (standing_of before) old.store new.store
        moves = takes a.may

        by_sort : IsOwn before a.reserved (view new.store) a.out ⊎ IsIdle before a.reserved (view new.store) a.out → IsRetraced starts makes view waits new
        by_sort (inl own) =
            retraced_more old new s shares shares' core next r replays (Ok answer) a moves own
            (λ end is t leads. turn_ends view waits old new s shares shares' core next (Ok answer) replays i (turn.acts a) end (a.answer_is ∙ ap Ok is) t leads)
            (λ cause. acts_isnt before a.reserved (view new.store) a.out cause a.acts)
            (λ hart is t c leads at. reached hart (ok_same answer a.out.answer a.answer_is ∙ is) t c leads at)
        by_sort (inr idle) =
            let none = idle_entries before a.reserved (view new.store) a.out idle in
            retraced_same old new a.grows.image a.grows.cores a.grows.room (a.grows.history ∙ (ap (λ xs. old.history ++ xs) none ∙ append-nil old.history))
            (a.grows.totals ∙ (ap (λ xs. sum_of old.totals (counted_in xs)) none ∙ sym (sum_nothing old.totals)))
            (idle_rests makes view before moves.reserved new.store moves.moves (IsStill makes view waits old.store new.store) a.reserved (view new.store) a.out
            (λ rest. record {
              made = inr (subst (λ x. makes old.store Reserve x) (sym rest) moves.reserves);
              same = subst (λ v. IsSameView (view old.store) v) (sym (idle_view before a.reserved (view new.store) a.out idle)) a.same;
              waits_are = ap waits rest ∙ moves.waits_are;
            }) waiting idle) r

    pub retraced_turn : Turned view waits old s shares core next (Ok answer) new shares' → IsRetraced starts makes view waits new
    retraced_turn (turn.over o same held) = subst (IsRetraced starts makes view waits) (sym same) r
    retraced_turn (turn.stopped o same held) = subst (IsRetraced starts makes view waits) (sym same) r
    retraced_turn (turn.full o same held) = subst (IsRetraced starts makes view waits) (sym same) r
    retraced_turn (turn.no_memory may seen grows is) = absurd (err_isnt answer _ is)
    retraced_turn (turn.acts a) = retraced_acts a

-- ---- a core that goes on, by what the register has of it

reached_by : (running : List (Option Running)) (core : ℕ) (came : Came) (hart : HartState) (c : CoreState) → answer_of running core came ≡ Go hart → running_at running core ≡ Some (kept_of c) → c.hart ≡ hart
reached_by running core came.Goes hart c is at = let same : Go c.hart ≡ Go hart = sym (ap go_on at) ∙ is in cc
reached_by running core (came.Again cause) hart c is at = absurd cc
reached_by running core came.Left hart c is at = absurd cc
reached_by running core (came.Over end) hart c is at = absurd cc

pub reached_hart : {S : Type 0} (r : Register) (v : StoreView) (store : S) (room core : ℕ) (stopped : Option StopCause) (came : Came) (answer : Answer) → Fits r v → answer ≡ answer_of r.running.items core came
    → (hart : HartState) → answer ≡ Go hart → (t : FlatState) (c : CoreState) → ReplaysTo (book_of r store room stopped) t → t.cores core ≡ Some c → c.hart ≡ hart
reached_hart r v store room core stopped came answer fits is hart goes t c leads at =
    let same = one_value (replay r.image (length r.running.items) r.history.items) fits.state t fits.replays leads in
    reached_by r.running.items core came hart c (sym is ∙ goes) (fits.shows.running core ∙ ap (λ (x : FlatState). option_map kept_of (x.cores core)) same ∙ ap (option_map kept_of) at)

-- ---- a core that has to wait leaves the store, by what the register has of it

pub waits_still : {S : Type 0} (makes : S → Call → S → Type 0) (view : S → StoreView) (waits : S → Waits) (r q : Register) (store reserved left : S) (s : FlatState) (core : ℕ) → Fits r (view store)
    → replay r.image (length r.running.items) r.history.items ≡ Some s → IsAsBefore r q → IsStill makes view waits store reserved
    → ((now : Running) → running_at q.running.items core ≡ Some now → now.hurt ≡ false → HasToWait (waits reserved) q.homefree core now (next_event q.image now.hart).at → left ≡ reserved)
    → (c : CoreState) → s.cores core ≡ Some c → c.hurt ≡ false → HasToWait (waits store) s.homefree core (kept_of c) (next_event r.image c.hart).at → IsStill makes view waits store left
waits_still makes view waits r q store reserved left s core fits replays same room still c at unhurt wait =
    let state = one_value (replay r.image (length r.running.items) r.history.items) fits.state s fits.replays replays in
    let shows : Shows r s = subst (Shows r) state fits.shows in
    let home : s.homefree ≡ q.homefree = sym (same.homefree ∙ shows.homefree) in
    let image : r.image ≡ q.image = sym same.image in
    let runs : running_at q.running.items core ≡ Some (kept_of c) = ap (λ v. running_at v.items core) same.running ∙ (shows.running core ∙ ap (option_map kept_of) at) in
    let waits_there : HasToWait (waits reserved) q.homefree core (kept_of c) (next_event q.image c.hart).at =
    subst (λ (x : LoadedImage). HasToWait (waits reserved) q.homefree core (kept_of c) (next_event x c.hart).at) image
    (subst (λ n. HasToWait (waits reserved) n core (kept_of c) (next_event r.image c.hart).at) home
    (subst (λ (k : Waits). HasToWait k s.homefree core (kept_of c) (next_event r.image c.hart).at) (sym room.waits_are) wait)) in
    subst (IsStill makes view waits store) (sym (still (kept_of c) runs unhurt waits_there)) room
