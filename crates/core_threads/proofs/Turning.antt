-- A turn under the lock: what the shares are before and after it, and what may be released.
use Rattle.std.proofs.Common.{◌≡◌, ℕ, ◌<◌, ◌≤◌, Bool, true, false, cond, List, [], ◌∷◌, ◌++◌, All, Some, None, Option, is_some, length, sym, ap, ◌∙◌, subst, arith}
use Rattle.std.proofs.lemmas.List.{append-nil}
use Rattle.std.proofs.lemmas.List.Elements.{All-nil, All-cons, All-head, All-tail}
use Rattle.rv32_image.specs.Image.{LoadedImage}
use Rattle.rv32_exec.specs.declared.sequential.End.{End}
use Rattle.rv32_exec.specs.Arrival.{Arrival}
use Rattle.rv32_exec.specs.Hart.{HartState}
use Rattle.rv32_exec.specs.NextEvent.{Event, next_event}
use Rattle.run_ledger.specs.declared.counts.Counts.{Counts}
use Rattle.run_ledger.specs.Counts.{sum_of}
use Rattle.spec_history.specs.declared.entry.Entry.{Entry}
use Rattle.spec_history.specs.declared.entry.What.{What}
use Rattle.spec_history.specs.FlatState.{FlatState}
use Rattle.spec_history.specs.Replay.{replay}
use Rattle.ticket_lock.specs.Past.{GrowsBy, entries_of}
use Rattle.ticket_lock.specs.Known.{mine}
use Rattle.ticket_lock.proofs.Turns.{mine-grown}
use Rattle.homefree.specs.Acted.{IfArrived}
use Rattle.homefree.specs.declared.answer.StopCause.{StopCause}
use Rattle.homefree.specs.BookView.{BookView, IsOfSameLoop}
use Rattle.homefree.specs.Counted.{counted_in, IsNoMore}
use Rattle.homefree.specs.LockView.{loop_of, past_of}
use Rattle.homefree.specs.Room.{most_room}
use Rattle.homefree.proofs.Books.Turns.{sum_nothing}
use Rattle.core_threads.specs.Adds.{Adds}
use Rattle.core_threads.specs.Passes.{Knows, IsCounted, IsOver, counts_in}
use Rattle.core_threads.proofs.Counting.{own_no_more, counts-append, counts-past, past-append, past-length, history-past}

abbrev Past : Type 0
Past = List (ℕ × What)

-- entries of this core, as the lock sees them
by_past : (core : ℕ) (entries : List Entry) → All (λ (e : Entry). e.by ≡ core) entries → All (λ (e : ℕ × What). e.0 ≡ core) (past_of entries)
by_past core [] by = All-nil (λ (e : ℕ × What). e.0 ≡ core)
by_past core (e ∷ es) by = All-cons (λ (e : ℕ × What). e.0 ≡ core) (e.by, e.what) (past_of es) (All-head (λ (e : Entry). e.by ≡ core) e es by) (by_past core es (All-tail (λ (e : Entry). e.by ≡ core) e es by))

-- where `advance` came to, with the image that the lock keeps
pub arrived_at : (kept image : LoadedImage) (hart : HartState) (at : Arrival) → kept ≡ image → at.base ≡ hart
    → at.now ≡ (next_event image hart).now → at.at ≡ (next_event image hart).at → IfArrived kept (Some at)
arrived_at kept image hart at same base now stop =
    let next : next_event image hart ≡ next_event kept at.base = λ i. next_event (sym same i) (sym base i) in
    (now ∙ ap (λ (e : Event). e.now) next, stop ∙ ap (λ (e : Event). e.at) next)

module _ {S : Type 0} where
  -- ---- the book in hand

  own_of_held : (p hp : Knows) (v : BookView S) → hp ≡ record p { seen = past_of v.history } → mine hp ≡ mine p → entries_of p.lo p.hi (past_of v.history) ≡ mine p
  own_of_held p hp v pass own = ap (λ (k : Knows). mine k) (sym pass) ∙ own

  -- the shares that a pass comes with count no more than the history of the book that it is handed
  pub handed_no_more : (p hp : Knows) (v b : BookView S) (s : Counts) → hp ≡ record p { seen = past_of v.history } → mine hp ≡ mine p → b ≡ v → s ≡ counts_in (mine p) → IsNoMore s (counted_in b.history)
  handed_no_more p hp v b s pass own shows is =
      let mine_is : counts_in (mine p) ≡ counts_in (entries_of p.lo p.hi (past_of v.history)) = ap (λ (x : Past). counts_in x) (sym (own_of_held p hp v pass own)) in
      let all_is : counts_in (past_of v.history) ≡ counted_in b.history = counts-past v.history ∙ ap (λ (x : BookView S). counted_in x.history) (sym shows) in
      subst (λ (q : Counts × Counts). IsNoMore q.0 q.1) (λ i. (sym (is ∙ mine_is) i, all_is i)) (own_no_more p.lo p.hi (past_of v.history))

  -- ---- the turn

  -- the history grew as the lock asks
  adds_grows : (core : ℕ) (old new : BookView S) (s u : Counts) → Adds core old new s u → GrowsBy core (past_of old.history) (past_of new.history)
  adds_grows core old new s u a = record {
    added = past_of a.entries;
    is = ap (λ h. past_of h) a.history ∙ past-append old.history a.entries;
    by = by_past core a.entries a.by;
  }

  pub may_release : (p hp : Knows) (v b n : BookView S) (core : ℕ) (s u : Counts) → hp ≡ record p { seen = past_of v.history } → b ≡ v → core ≡ p.lo → Adds core b n s u
      → GrowsBy hp.lo hp.seen (past_of n.history)
  may_release p hp v b n core s u pass shows who a =
      let seen : hp.seen ≡ past_of b.history = ap (λ (k : Knows). k.seen) pass ∙ sym (ap (λ (x : BookView S). past_of x.history) shows) in
      let lo : core ≡ hp.lo = who ∙ sym (ap (λ (k : Knows). k.lo) pass) in
      subst (λ (q : ℕ × Past). GrowsBy q.0 q.1 (past_of n.history)) (λ i. (lo i, sym seen i)) (adds_grows core b n s u a)

  -- the shares after a turn are the counts of the pass's own entries
  turned_counted : (p : Knows) (core : ℕ) (old new : BookView S) (s u : Counts) → p.lo < p.hi → core ≡ p.lo → entries_of p.lo p.hi (past_of old.history) ≡ mine p → s ≡ counts_in (mine p)
      → Adds core old new s u → u ≡ counts_in (entries_of p.lo p.hi (past_of new.history))
  turned_counted p core old new s u some who own is a =
      let q : Knows = record p { seen = past_of old.history } in
      let g : GrowsBy p.lo (past_of old.history) (past_of new.history) = record {
        added = past_of a.entries;
        is = ap (λ h. past_of h) a.history ∙ past-append old.history a.entries;
        by = subst (λ (k : ℕ). All (λ (e : ℕ × What). e.0 ≡ k) (past_of a.entries)) who (by_past core a.entries a.by);
      } in
      let more : entries_of p.lo p.hi (past_of new.history) ≡ mine p ++ past_of a.entries = mine-grown q (past_of new.history) some g ∙ ap (λ (x : Past). x ++ past_of a.entries) own in
      let sum : counts_in (entries_of p.lo p.hi (past_of new.history)) ≡ sum_of (counts_in (mine p)) (counts_in (past_of a.entries)) =
      ap (λ (x : Past). counts_in x) more ∙ counts-append (mine p) (past_of a.entries) in
      a.held ∙ ((λ i. sum_of (is i) (sym (counts-past a.entries) i)) ∙ sym sum)

  -- the pass after a turn
  pub after_turn : (p hp r : Knows) (v b n : BookView S) (core : ℕ) (s u : Counts) → hp ≡ record p { seen = past_of v.history } → mine hp ≡ mine p → b ≡ v → p.lo < p.hi → core ≡ p.lo
      → s ≡ counts_in (mine p) → Adds core b n s u → length n.history ≤ most_room → r ≡ record hp { seen = past_of n.history } → IsCounted r u
  after_turn p hp r v b n core s u pass own shows some who is a few after =
      let q : Knows = record p { seen = past_of n.history } in
      let same : r ≡ q = after ∙ ap (λ (k : Knows). let z : Knows = record k { seen = past_of n.history } in z) pass in
      let own_b : entries_of p.lo p.hi (past_of b.history) ≡ mine p = ap (λ (x : BookView S). entries_of p.lo p.hi (past_of x.history)) shows ∙ own_of_held p hp v pass own in
      let c : IsCounted q u = record {
        counted = turned_counted p core b n s u some who own_b is a;
        few = (let l = past-length n.history in omega (arith, l, few));
      } in
      subst (λ (k : Knows). IsCounted k u) (sym same) c

  -- ---- stopping the book adds nothing

  pub adds_none : (core : ℕ) (old new : BookView S) (s : Counts) → IsOfSameLoop old new → new.history ≡ old.history → Adds core old new s s
  adds_none core old new s same history = record {
    same = same;
    entries = [];
    history = history ∙ sym (append-nil old.history);
    by = All-nil (λ (e : Entry). e.by ≡ core);
    held = sum_nothing s;
  }

  -- whether or not it is stopped, the book is of the same loop and has the same history
  pub stopped_same : (b n : BookView S) (stops : Bool) (cause : StopCause) → n ≡ cond stops (record b { stopped = Some cause }) b → IsOfSameLoop b n × (n.history ≡ b.history)
  stopped_same b n true cause is =
      (record { image = ap (λ (x : BookView S). x.image) is; cores = ap (λ (x : BookView S). x.cores) is; room = ap (λ (x : BookView S). x.room) is }, ap (λ (x : BookView S). x.history) is)
  stopped_same b n false cause is =
      (record { image = ap (λ (x : BookView S). x.image) is; cores = ap (λ (x : BookView S). x.cores) is; room = ap (λ (x : BookView S). x.room) is }, ap (λ (x : BookView S). x.history) is)

  pub still_few : (b n : BookView S) → n.history ≡ b.history → length b.history ≤ b.room → b.room ≤ most_room → length n.history ≤ most_room
  still_few b n same within most = subst (λ (h : List Entry). length h ≤ most_room) (sym same) (omega arith)

  -- ---- an end

  -- where the book's history leads to a state with an end, the loop is over after its past
  pub over_past : (b : BookView S) (s : FlatState) (end : End) → replay b.image b.cores b.history ≡ Some s → s.end ≡ Some end → IsOver (loop_of b) (past_of b.history)
  over_past b s end replays over = record {
    state = s;
    replays = ap (λ h. replay b.image b.cores h) (history-past b.history) ∙ replays;
    end = end;
    over = over;
  }

  pub over_where : (b : BookView S) (s : FlatState) (ended : Option End) → replay b.image b.cores b.history ≡ Some s → ended ≡ s.end → is_some ended ≡ true → IsOver (loop_of b) (past_of b.history)
  over_where b s None replays same some = absurd cc
  over_where b s (Some end) replays same some = over_past b s end replays (sym same)
