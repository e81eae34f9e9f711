-- A book's first state, and its turns: from what the parts did to a turn of the book.
use Rattle.std.proofs.Common.{◌≡◌, ◌≤◌, ◌<◌, ◌*◌, Bool, true, false, ℕ, ◌+◌, ◌-◌, All, List, [], ◌++◌, length, Option, Some, None, Ok, Err, ◌⊎◌, refl, sym, ap, subst, ◌∙◌, inl, inr, arith, length-append, append-nil, vec_len, vec_capacity}
use Rattle.std.proofs.lemmas.List.Elements.{All-nil, All-append}
use Rattle.rv32_image.proofs.SmallFacts.{one_value, none_and_some}
use Rattle.rv32_exec.specs.declared.sequential.End.{End}
use Rattle.rv32_exec.specs.declared.sequential.End.TheVariants.{Exit}
use Rattle.rv32_exec.specs.Arrival.{Arrival}
use Rattle.rv32_image.specs.Image.{LoadedImage, IsImage}
use Rattle.rv32_image.specs.Version.{limits_of}
use Rattle.rv32_image.specs.declared.version.Version.{Version}
use Rattle.rv32_image.specs.declared.version.Version.TheVariants.{One, Two}
use Rattle.run_ledger.specs.declared.counts.Counts.{Counts}
use Rattle.run_ledger.specs.Counts.{no_counts, sum_of, IsAtMost}
use Rattle.spec_history.specs.declared.entry.Entry.{Entry}
use Rattle.spec_history.specs.FlatState.{FlatState, first_state, end_at}
use Rattle.spec_history.specs.Laws.{IsKept}
use Rattle.spec_history.specs.Replay.{replay, counts_of}
use Rattle.spec_history.specs.Replay.{replay_from}
use Rattle.spec_history.proofs.Replay.Joining.{splits}
use Rattle.spec_history.proofs.Replay.Reaching.{no_entries}
use Rattle.spec_history.proofs.Replay.Replays.{replayed}
use Rattle.violations.specs.View.{StoreView, Waits, IsSettled}
use Rattle.violations.specs.Rule.{IsSameView, IsCoreCount, IsFresh}
use Rattle.homefree.specs.declared.answer.Answer.{Answer}
use Rattle.homefree.specs.declared.answer.StopCause.{StopCause}
use Rattle.homefree.specs.declared.answer.StopCause.TheVariants as stop
use Rattle.homefree.specs.declared.fault.TurnFault.TheVariants.{NoMemory}
use Rattle.homefree.specs.declared.register.Register.{Register}
use Rattle.homefree.specs.Agrees.{Agrees}
use Rattle.homefree.specs.Acted.{Acted, AreFew, MayNote, turn_of}
use Rattle.homefree.specs.Caused.{HasKinds, MeetInBytes}
use Rattle.homefree.specs.BookInside.{IsBook, IsAsBefore, book_of}
use Rattle.homefree.specs.Counted.{counted_in, IsNoMore}
use Rattle.homefree.specs.InStep.{InStep}
use Rattle.homefree.specs.Kept.{Fits, running_at}
use Rattle.homefree.specs.Missed.{PassesOverNone, IsOfCaches}
use Rattle.homefree.specs.Room.{most_room}
use Rattle.homefree.specs.Turned as turn
use Rattle.homefree.specs.Turned.{Turned, does}
use Rattle.homefree.proofs.Violations.Caused.{acts, grown, none_yet}
use Rattle.homefree.proofs.Violations.Ending.{AddsToEnd, HasNo, cancels_at_exit, exit_starts_none, is_cancel, none_cancelled, none_started, over_grown, starts_grown}
use Rattle.homefree.proofs.Violations.Explaining.{acts_known}
use Rattle.homefree.proofs.Violations.Knowing.{explained, grown_explained, grown_passes, kinds_of, meetings_of, no_kinds, no_meetings, no_passes}
use Rattle.homefree.proofs.State.Others.{idle_on, same_at}
use Rattle.homefree.proofs.Books.Tallies.{few_counts}
use Rattle.homefree.proofs.Books.Entries.{acts_by, of_cores}
use Rattle.homefree.proofs.Books.Over.{acts_ends}

-- ---- a new book

-- an empty history over a fresh store
pub fits_first : (r : Register) (w : StoreView) (cores : ℕ) → IsImage r.image → IsCoreCount r.image cores → IsFresh r.image cores w → length r.running.items ≡ cores
    → ((k : ℕ) → running_at r.running.items k ≡ None) → r.history.items ≡ [] → r.totals ≡ no_counts → r.homefree ≡ 0 → r.next_epoch ≡ 0 → r.end ≡ end_at r.image 0 → Fits r w
unfolding counts_of
fits_first r w cores is count fresh len idle history totals homefree next_epoch end = record {
  state = first_state r.image;
  replays = rw history (no_entries r.image (length r.running.items));
  shows = record { homefree = homefree; next_epoch = next_epoch; end = end; running = idle };
  agrees = record { committed = fresh.committed; core = λ going k. idle_on _ w k (fresh.idle k) };
  shape = rw len fresh.shape;
  counted = rw history totals;
  is_image = is;
  core_count = rw len count;
}

pub first_book : {S : Type 0} (view : S → StoreView) (r : Register) (store : S) (cores room : ℕ) → IsImage r.image → IsCoreCount r.image cores → IsFresh r.image cores (view store) → length r.running.items ≡ cores
    → ((k : ℕ) → running_at r.running.items k ≡ None) → r.history.items ≡ [] → r.totals ≡ no_counts → r.homefree ≡ 0 → r.next_epoch ≡ 0 → r.end ≡ end_at r.image 0
    → room ≤ most_room → IsBook view r store room None
first_book view r store cores room is count fresh len idle history totals homefree next_epoch end most = record {
  fits = fits_first r (view store) cores is count fresh len idle history totals homefree next_epoch end;
  by_cores = rw history (All-nil (λ (e : Entry). e.by < length r.running.items));
  caused = rw history none_yet;
  over = rw history (none_cancelled r.end);
  starts = rw history none_started;
  kinds = rw history (no_kinds r.image (length r.running.items));
  meets = λ alone. rw history (no_meetings r.image (length r.running.items));
  passes = λ caches. rw history (no_passes r.image (length r.running.items));
  within = rw history (omega arith);
  most = most;
  full = λ is. absurd cc;
}

-- ---- the book as contracts see it

pub in_step : {S : Type 0} (view : S → StoreView) (r : Register) (store : S) (room : ℕ) (cause : Option StopCause) → IsBook view r store room cause → InStep view (book_of r store room cause)
in_step view r store room cause b = record {
  state = b.fits.state;
  replays = b.fits.replays;
  agrees = b.fits.agrees;
  shape = b.fits.shape;
  by_cores = b.by_cores;
  caused = b.caused;
  kinds = b.kinds;
  meets = b.meets;
  starts = b.starts;
  passes = b.passes;
  counted = b.fits.counted;
  is_image = b.fits.is_image;
  core_count = b.fits.core_count;
  within = b.within;
  most = b.most;
  full = b.full;
}

-- it takes no more turns, for this cause
pub book_stopped : {S : Type 0} (view : S → StoreView) (r : Register) (store : S) (room : ℕ) (old : Option StopCause) (cause : StopCause) → IsBook view r store room old
    → (cause ≡ stop.HistoryFull → room < length r.history.items + (limits_of r.image.version).free_entries) → IsBook view r store room (Some cause)
book_stopped view r store room old cause b full = record {
  fits = b.fits;
  by_cores = b.by_cores;
  caused = b.caused;
  over = b.over;
  starts = b.starts;
  kinds = b.kinds;
  meets = b.meets;
  passes = b.passes;
  within = b.within;
  most = b.most;
  full = λ is. full (this cause is);
}
  where
    this : (cause : StopCause) → Some cause ≡ Some stop.HistoryFull → cause ≡ stop.HistoryFull
    this cause is = cc

-- ---- turns that change nothing

pub end_of : (r : Register) (v : StoreView) (s : FlatState) → Fits r v → replay r.image (length r.running.items) r.history.items ≡ Some s → s.end ≡ r.end
end_of r v s f replays = ap (λ (x : FlatState). x.end) (one_value (replay r.image (length r.running.items) r.history.items) s f.state replays f.replays) ∙ sym f.shows.end

-- ---- room for a turn

pub agrees_same : (s : FlatState) (v w : StoreView) → Agrees s v → IsSameView v w → Agrees s w
agrees_same s v w agrees same = record {
  committed = λ a. same.committed a ∙ agrees.committed a;
  core = λ going k. same_at s.committed s.committed v w k (s.cores k) (same.shape, same.cached) (λ a. refl) (same.cores k) (agrees.core going k);
}

pub fits_same : (r q : Register) (v w : StoreView) → Fits r v → IsAsBefore r q → IsSameView v w → Fits q w
fits_same r q v w f same view = record {
  state = f.state;
  replays = rw (same.image, same.running, same.history) f.replays;
  shows = record {
    homefree = same.homefree ∙ f.shows.homefree;
    next_epoch = same.next_epoch ∙ f.shows.next_epoch;
    end = same.end ∙ f.shows.end;
    running = λ k. rw same.running (f.shows.running k);
  };
  agrees = agrees_same f.state v w f.agrees view;
  shape = rw (same.image, same.running) (view.shape ∙ f.shape);
  counted = rw (same.totals, same.history) f.counted;
  is_image = rw same.image f.is_image;
  core_count = rw (same.image, same.running) f.core_count;
}

pub book_same : {S : Type 0} (view : S → StoreView) (r q : Register) (store reserved : S) (room : ℕ) (cause : Option StopCause) → IsBook view r store room cause → IsAsBefore r q
    → IsSameView (view store) (view reserved) → IsBook view q reserved room cause
book_same view r q store reserved room cause b same seen = record {
  fits = fits_same r q (view store) (view reserved) b.fits same seen;
  by_cores = rw (same.running, same.history) b.by_cores;
  caused = rw same.history b.caused;
  over = rw (same.history, same.end) b.over;
  starts = rw same.history b.starts;
  kinds = rw (same.image, same.running, same.history) b.kinds;
  meets = λ alone. rw (same.image, same.running, same.history) (b.meets (sym seen.cached ∙ alone));
  passes = λ caches. rw (same.image, same.running, same.history) (b.passes caches);
  within = rw same.history b.within;
  most = b.most;
  full = rw (same.history, same.image) b.full;
}

pub sum_nothing : (a : Counts) → a ≡ sum_of a (counted_in [])
unfolding counts_of
sum_nothing a = let same : (l s r c : ℕ) → l ≡ l + 0 → s ≡ s + 0 → r ≡ r + 0 → c ≡ c + 0 → (let x : Counts = record { loads = l; stores = s; restarts = r; commits = c } in x ≡ sum_of x no_counts) = λ l s r c e f g h. λ i. record { loads = e i; stores = f i; restarts = g i; commits = h i } in
    same a.loads a.stores a.restarts a.commits (omega arith) (omega arith) (omega arith) (omega arith)

module _ {S : Type 0} (view : S → StoreView) (waits : S → Waits) (r q : Register) (store reserved : S) (room core : ℕ) (cause : Option StopCause) (shares : Counts) (next : Option Arrival) (f : Fits r (view store))
    (going : r.end ≡ None) (unstopped : cause ≡ None) (free : length r.history.items + (limits_of r.image.version).free_entries ≤ room) (same : IsAsBefore r q) (same_view : IsSameView (view store) (view reserved)) (same_waits : waits reserved ≡ waits store) where
  may_act : (s : FlatState) → replay r.image (length r.running.items) r.history.items ≡ Some s → turn.MayAct (book_of r store room cause) s
  may_act s replays = record { going = end_of r (view store) s f replays ∙ going; unstopped = unstopped; free = free }

  pub turned_refused : (s : FlatState) → replay r.image (length r.running.items) r.history.items ≡ Some s
      → Turned view waits (book_of r store room cause) s shares core next (Err NoMemory) (book_of q reserved room cause) shares
  turned_refused s replays = turn.no_memory (may_act s replays) same_view
      (record {
        image = same.image;
        cores = ap (λ v. length v.items) same.running;
        room = refl;
        history = same.history ∙ sym (append-nil r.history.items);
        totals = same.totals ∙ sum_nothing r.totals;
        held = sum_nothing shares;
        stopped = refl;
      }) refl

  pub turned_acts : (new : Register) (after : S) (shares' : Counts) (answer : Answer) → Acted q new (waits reserved) (view reserved) (view after) shares shares' core next answer
      → (s : FlatState) → replay r.image (length r.running.items) r.history.items ≡ Some s
      → Turned view waits (book_of r store room cause) s shares core next (Ok answer) (book_of new after room cause) shares'
  turned_acts new after shares' answer a s replays =
      let cores : length q.running.items ≡ length r.running.items = ap (λ v. length v.items) same.running in
      turn.acts (record {
        may = may_act s replays;
        reserved = view reserved;
        same = same_view;
        out = does a.entries answer;
        acts = rw (← same.image, ← cores)
            (subst (λ (k : Waits). turn.Acts (turn_of q k s core next) (view reserved) (view after) (does a.entries answer)) same_waits
            (a.acts s (rw (same.image, cores, same.history) replays)));
        grows = record {
          image = a.steps.image ∙ same.image;
          cores = a.steps.cores ∙ cores;
          room = refl;
          history = a.steps.history ∙ ap (λ h. h ++ a.entries) same.history;
          totals = a.steps.totals ∙ ap (λ n. sum_of n (counted_in a.entries)) same.totals;
          held = a.steps.held;
          stopped = refl;
        };
        answer_is = refl;
      })

-- ---- caches

published_kind : (v x : StoreView) (by : ℕ) (hurt : ℕ → Bool) (b : Bool) → turn.publishes_unless b v x by hurt → x.cached ≡ v.cached
published_kind v x by hurt true p = ap (λ (y : StoreView). y.cached) p.0
published_kind v x by hurt false p = p.cached

follows_kind : (t : turn.Turn) (v w : StoreView) (out : turn.Outcome) → turn.Follows t v w out → w.cached ≡ v.cached
follows_kind t v w out (turn.loads x) = x.store.cached
follows_kind t v w out (turn.stores x) = x.store.cached
follows_kind t v w out (turn.waits x) = ap (λ (y : StoreView). y.cached) x.store
follows_kind t v w out (turn.loads_straight x) = x.store.cached ∙ published_kind v x.between t.core x.first x.core.straight x.comes.publishes
follows_kind t v w out (turn.stores_straight x) = x.store.cached ∙ published_kind v x.between t.core x.first x.core.straight x.comes.publishes
follows_kind t v w out (turn.is_early x) = ap (λ (y : StoreView). y.cached) x.store
follows_kind t v w out (turn.commits x) = x.store.cached ∙ published_kind v x.between t.core x.hurt x.core.straight x.comes.publishes
follows_kind t v w out (turn.exits_loop x) = x.store.cached ∙ (x.cancelled.cached ∙ published_kind v x.between t.core x.hurt x.core.straight x.comes.publishes)
follows_kind t v w out (turn.faults x) = published_kind v w t.core x.hurt x.core.straight x.comes.publishes

-- a store has caches after a turn where it had them before
acts_kind : (t : turn.Turn) (v w : StoreView) (out : turn.Outcome) → turn.Acts t v w out → w.cached ≡ v.cached
acts_kind t v w out (turn.starts x) = x.store.cached
acts_kind t v w out (turn.finds_none x) = ap (λ (y : StoreView). y.cached) x.store
acts_kind t v w out (turn.restarts x) = x.store.cached
acts_kind t v w out (turn.is_told x) = ap (λ (y : StoreView). y.cached) x.store
acts_kind t v w out (turn.follows x) = follows_kind t v w out x

-- ---- what a turn needs, and what it keeps

most_entries : (version : Version) (cores : ℕ) → cores ≤ (limits_of version).most_cores → 2 * cores ≤ (limits_of version).free_entries
most_entries One cores most = omega arith
most_entries Two cores most = omega arith

few_entries : (version : Version) (cores entries : ℕ) → cores ≤ (limits_of version).most_cores → AreFew entries cores → entries < (limits_of version).free_entries
few_entries One cores entries most (inl few) = omega (arith, most, few)
few_entries One cores entries most (inr few) = omega (arith, most, few)
few_entries Two cores entries most (inl few) = omega (arith, most, few)
few_entries Two cores entries most (inr few) = omega (arith, most, few)

-- the counts of a book are small
small_totals : {S : Type 0} (view : S → StoreView) (r : Register) (store : S) (room : ℕ) (cause : Option StopCause) → IsBook view r store room cause → IsAtMost most_room r.totals
small_totals view r store room cause b =
    let few = few_counts r.history.items in
    let l = few.loads in let s = few.stores in let e = few.restarts in let c = few.commits in
    let within = b.within in let most = b.most in
    subst (IsAtMost most_room) (sym b.fits.counted) (record { loads = omega arith; stores = omega arith; restarts = omega arith; commits = omega arith })

pub may_note : {S : Type 0} (view : S → StoreView) (r q : Register) (store : S) (room : ℕ) (shares : Counts) (cause : Option StopCause) → IsBook view r store room cause → IsAsBefore r q
    → vec_len q.history + (limits_of r.image.version).free_entries ≤ vec_capacity q.history → IsNoMore shares r.totals → MayNote q shares
may_note view r q store room shares cause b same has less =
    let small = small_totals view r store room cause b in
    let sl = small.loads in let ss = small.stores in let sr = small.restarts in let sc = small.commits in
    let enough = most_entries r.image.version (length r.running.items) b.fits.core_count.most in record {
      room = rw same.running (omega (arith, has, enough));
      loads = rw same.totals less.loads;
      stores = rw same.totals less.stores;
      restarts = rw same.totals less.restarts;
      commits = rw same.totals less.commits;
      few_loads = rw same.totals (omega (arith, sl));
      few_stores = rw same.totals (omega (arith, ss));
      few_restarts = rw same.totals (omega (arith, sr));
      few_commits = rw same.totals (omega (arith, sc));
    }

-- from the state of the first entries on, the others lead to the last
goes_on_from : (image : LoadedImage) (count : ℕ) (first later : List Entry) (s u : FlatState) → replay image count first ≡ Some s → replay image count (first ++ later) ≡ Some u
    → replay_from image count s later ≡ Some u
goes_on_from image count first later s u replays all =
    let parts = splits image count first later u all in
    subst (λ t. replay_from image count t later ≡ Some u) (one_value (replay image count first) parts.between s parts.first_replays replays) parts.later_replays

-- a turn cancels nothing, or it starts nothing and the loop is over
adds_to_end : (t : turn.Turn) (v w : StoreView) (out : turn.Outcome) (end : Option End) (u : FlatState) → end ≡ u.end → t.state.end ≡ None → IsKept t.image t.cores t.state → Agrees t.state v
    → replay_from t.image t.cores t.state out.entries ≡ Some u → turn.Acts t v w out → AddsToEnd out.entries end
adds_to_end t v w out end u is going kept agrees goes acted = by_kind (cancels_at_exit t v w out acted)
  where
    by_kind : HasNo is_cancel out.entries ⊎ turn.IsExit t v w out → AddsToEnd out.entries end
    by_kind (inl none) = inl none
    by_kind (inr exit) =
        let over = acts_ends t v w out going kept agrees (Exit exit.core.epoch) (ap (λ (o : turn.Outcome). o.answer) exit.out_is) acted in
        let same : u.end ≡ Some (Exit exit.core.epoch) = ap (λ (x : FlatState). x.end) (one_value (replay_from t.image t.cores t.state out.entries) u over.0 goes over.1) ∙ over.2 in
        inr (exit_starts_none t v w out exit, λ none. none_and_some end (Exit exit.core.epoch) none (is ∙ same))

pub book_acts : {S : Type 0} {waits : Waits} (view : S → StoreView) (r q new : Register) (store reserved after : S) (room core : ℕ) (cause : Option StopCause) (shares shares' : Counts) (next : Option Arrival) (answer : Answer) → IsBook view r store room cause → r.end ≡ None → cause ≡ None → IsAsBefore r q
    → core < length r.running.items → length r.history.items + (limits_of r.image.version).free_entries ≤ room → IsSettled (view reserved) → IsSameView (view store) (view reserved) → Fits q (view reserved)
    → Acted q new waits (view reserved) (view after) shares shares' core next answer
    → IsBook view new after room cause
book_acts {S} {waits} view r q new store reserved after room core cause shares shares' next answer b going unstopped same there free settled seen f a =
    let cores : length q.running.items ≡ length r.running.items = ap (λ v. length v.items) same.running in
    let few = few_entries r.image.version (length r.running.items) (length a.entries) b.fits.core_count.most (subst (λ n. AreFew (length a.entries) n) cores a.short) in
    let acted = a.acts f.state f.replays in
    let mine = acts_by _ (view reserved) (view after) _ acted in
    let all_cores : All (λ (e : Entry). e.by < length r.running.items) (r.history.items ++ a.entries) =
    All-append (λ (e : Entry). e.by < length r.running.items) r.history.items a.entries b.by_cores (of_cores core (length r.running.items) a.entries there mine) in
    let count = length q.running.items in
    let kinds : HasKinds q.image (length q.running.items) q.history.items = rw (same.image, same.running, same.history) b.kinds in
    let passes : IsOfCaches view → PassesOverNone q.image (length q.running.items) q.history.items = λ caches. rw (same.image, same.running, same.history) (b.passes caches) in
    let later : replay q.image (length q.running.items) (q.history.items ++ a.entries) ≡ Some a.fits.state =
    subst (λ xs. replay q.image (length q.running.items) xs ≡ Some a.fits.state) a.steps.history
    (subst (λ n. replay q.image n new.history.items ≡ Some a.fits.state) a.steps.cores (subst (λ i. replay i (length new.running.items) new.history.items ≡ Some a.fits.state) a.steps.image a.fits.replays)) in
    let goes = goes_on_from q.image count q.history.items a.entries f.state a.fits.state f.replays later in
    let here = turn_of q waits f.state core next in
    let still : f.state.end ≡ None = sym f.shows.end ∙ (same.end ∙ going) in
    let kept = ((replayed q.image count q.history.items f.state f.is_image f.replays).going still).kept in
    let adds = adds_to_end here (view reserved) (view after) (does a.entries answer) new.end a.fits.state a.fits.shows.end still kept f.agrees goes acted in
    let meets : (view reserved).cached ≡ false → MeetInBytes q.image (length q.running.items) q.history.items =
    λ alone. rw (same.image, same.running, same.history) (b.meets (sym seen.cached ∙ alone)) in
    let kind = acts_kind here (view reserved) (view after) (does a.entries answer) acted in
    let known = acts_known (IsOfCaches view) (turn_of q waits f.state core next) (view reserved) (view after) (does a.entries answer) still kept f.agrees f.is_image.machine_allowed f.shape settled (λ caches. caches reserved) acted in
    let all = grown_explained ((view reserved).cached ≡ false) (IsOfCaches view) q.image count q.history.items a.entries f.state a.fits.state
    (explained ((view reserved).cached ≡ false) q.image count q.history.items kinds meets) f.replays goes known in record {
      fits = a.fits;
      by_cores = rw (a.steps.cores, cores, a.steps.history, same.history) all_cores;
      over = rw (a.steps.history, same.history) (over_grown r.history.items a.entries r.end new.end going b.over adds);
      starts = rw (a.steps.history, same.history) (starts_grown r.history.items a.entries r.end new.end going b.over adds b.starts);
      caused = rw (a.steps.history, same.history) (grown r.history.items a.entries b.caused (acts _ (view reserved) (view after) _ acted));
      kinds = rw (a.steps.image, a.steps.cores, a.steps.history) (kinds_of ((view reserved).cached ≡ false) q.image count (q.history.items ++ a.entries) all);
      meets = λ alone. rw (a.steps.image, a.steps.cores, a.steps.history)
          (meetings_of ((view reserved).cached ≡ false) q.image count (q.history.items ++ a.entries) all (sym kind ∙ alone));
      passes = λ caches. rw (a.steps.image, a.steps.cores, a.steps.history)
          (grown_passes ((view reserved).cached ≡ false) (IsOfCaches view) q.image count q.history.items a.entries f.state a.fits.state caches (passes caches) f.replays goes known);
      within = rw (a.steps.history, same.history, length-append r.history.items a.entries) (omega (arith, free, few));
      most = b.most;
      full = λ is. absurd (none_and_some cause stop.HistoryFull unstopped is);
    }

-- ---- what the code's numbers say

-- the history has fewer entries more than a turn asks for
pub acts_most : {S : Type 0} {waits : Waits} (view : S → StoreView) (r q new : Register) (store reserved after : S) (room core : ℕ) (cause : Option StopCause) (shares shares' : Counts) (next : Option Arrival) (answer : Answer) → IsBook view r store room cause → IsAsBefore r q
    → Acted q new waits (view reserved) (view after) shares shares' core next answer → length new.history.items < length r.history.items + (limits_of r.image.version).free_entries
acts_most view r q new store reserved after room core cause shares shares' next answer b same a =
    let cores : length q.running.items ≡ length r.running.items = ap (λ v. length v.items) same.running in
    let few = few_entries r.image.version (length r.running.items) (length a.entries) b.fits.core_count.most (subst (λ n. AreFew (length a.entries) n) cores a.short) in
    rw (a.steps.history, same.history, length-append r.history.items a.entries) (omega (arith, few))

pub same_most : (version : Version) (xs ys : List Entry) → ys ≡ xs → length ys < length xs + (limits_of version).free_entries
same_most One xs ys same = rw same (omega arith)
same_most Two xs ys same = rw same (omega arith)

pub has_free : (r : Register) (free room count : ℕ) → free ≡ (limits_of r.image.version).free_entries → count ≡ vec_len r.history
    → free ≤ room - count → length r.history.items ≤ room → length r.history.items + (limits_of r.image.version).free_entries ≤ room
has_free r free room count is counts enough within = let ok = r.history.ok.0 in omega (arith, is, counts, enough, within, ok)

pub has_room : (r q : Register) (free : ℕ) → free ≡ (limits_of r.image.version).free_entries → vec_len q.history + free ≤ vec_capacity q.history
    → vec_len q.history + (limits_of r.image.version).free_entries ≤ vec_capacity q.history
has_room r q free is has = omega (arith, is, has)
