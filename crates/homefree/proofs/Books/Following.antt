-- What follows from a turn, over the definitions alone: how the history grows, why a core has to come again, and that an end
-- which a turn answers is that of its history.
use Rattle.std.proofs.Common.{◌≡◌, ◌≢◌, ◌≤◌, ◌<◌, ℕ, ◌+◌, List, [], Option, Some, None, Result, Ok, Err, refl, sym, ap, subst, ◌∙◌, arith, append-nil}
use Rattle.std.proofs.lemmas.List.Elements.{All-nil}
use Rattle.rv32_image.proofs.SmallFacts.{one_value}
use Rattle.rv32_exec.specs.declared.sequential.End.{End}
use Rattle.rv32_exec.specs.Arrival.{Arrival}
use Rattle.run_ledger.specs.declared.counts.Counts.{Counts}
use Rattle.spec_history.specs.declared.entry.Entry.{Entry}
use Rattle.spec_history.specs.FlatState.{CoreState, FlatState, end_at}
use Rattle.spec_history.specs.Replay.{replay}
use Rattle.spec_history.specs.Laws.{IsKept}
use Rattle.spec_history.proofs.Replay.Joining.{history_goes_on}
use Rattle.spec_history.proofs.Replay.Replays.{replayed}
use Rattle.violations.specs.View.{StoreView, Waits}
use Rattle.violations.specs.declared.step.WaitCause.{WaitCause}
use Rattle.violations.specs.declared.step.WaitCause.TheVariants as wait
use Rattle.homefree.specs.declared.answer.Answer.{Answer}
use Rattle.homefree.specs.declared.answer.Answer.TheVariants.{Again, Over, Stopped}
use Rattle.homefree.specs.declared.answer.Cause.{Cause}
use Rattle.homefree.specs.declared.answer.StopCause.{StopCause}
use Rattle.homefree.specs.declared.fault.TurnFault.{TurnFault}
use Rattle.homefree.specs.declared.fault.TurnFault.TheVariants.{HistoryFull}
use Rattle.homefree.specs.Again.{IsWhy, IfAgain, IsWaitFor}
use Rattle.homefree.specs.Agrees.{Agrees}
use Rattle.homefree.specs.BookView.{BookView, IsFull}
use Rattle.homefree.specs.Grown.{GrowsBy}
use Rattle.homefree.specs.InStep.{InStep}
use Rattle.homefree.specs.Turned as turn
use Rattle.homefree.specs.Turned.{Turn, Outcome, Turned, turn_at, does, wait_at, cause_of, left_or_over}
use Rattle.homefree.proofs.Books.Turns.{agrees_same, sum_nothing}
use Rattle.homefree.proofs.Books.Entries.{AllBy, acts_by}
use Rattle.homefree.proofs.Books.Over.{acts_ends, over_same}
use Rattle.homefree.proofs.Books.NeverAgain.{never_again}

-- ---- the state of a book

kept_in : {S : Type 0} (view : S → StoreView) (b : BookView S) (i : InStep view b) (s : FlatState) → replay b.image b.cores b.history ≡ Some s → s.end ≡ None
    → IsKept b.image b.cores s
kept_in view b i s replays going = ((replayed b.image b.cores b.history s i.is_image replays).going going).kept

agrees_in : {S : Type 0} (view : S → StoreView) (b : BookView S) (i : InStep view b) (s : FlatState) → replay b.image b.cores b.history ≡ Some s → Agrees s (view b.store)
agrees_in view b i s replays = subst (λ x. Agrees x (view b.store)) (one_value (replay b.image b.cores b.history) i.state s i.replays replays) i.agrees

-- ---- a core that has to come again

why_by : (P : Cause → Type 0) (answer other : Result Answer TurnFault) → answer ≡ other → IfAgain other P → IfAgain answer P
why_by P answer other is why = subst (λ a. IfAgain a P) (sym is) why

why_does : (P : Cause → Type 0) (out : Outcome) (entries : List Entry) (answer : Answer) → out ≡ does entries answer → IfAgain (Ok answer) P → IfAgain (Ok out.answer) P
why_does P out entries answer is why = why_by P (Ok out.answer) (Ok answer) (ap (λ (o : Outcome). Ok o.answer) is) why

left_never : (P : Cause → Type 0) (o : Option End) → IfAgain (Ok (left_or_over o)) P
left_never P None = tt
left_never P (Some end) = tt

later_by : (homefree epoch : ℕ) → homefree ≤ epoch → epoch ≢ homefree → homefree < epoch
later_by homefree epoch from isnt = omega (arith, from, isnt)

waits_for : (t : Turn) (cause : WaitCause) → IsWaitFor t cause → IfAgain (Ok (Again (cause_of cause))) (IsWhy t)
waits_for t wait.NoWay l = l
waits_for t wait.OrbFull l = l
waits_for t wait.OrbBusy l = l

module _ (t : Turn) (v w : StoreView) (out : Outcome) (kept : IsKept t.image t.cores t.state) where
  follows_why : turn.Follows t v w out → IfAgain (Ok out.answer) (IsWhy t)
  follows_why (turn.loads l) = why_does (IsWhy t) out _ _ l.out_is tt
  follows_why (turn.stores l) = why_does (IsWhy t) out _ _ l.out_is tt
  follows_why (turn.waits l) = why_does (IsWhy t) out _ _ l.out_is (waits_for t l.cause (record {
    core = l.core;
    runs = l.comes.is_at.runs;
    unhurt = l.comes.is_at.unhurt;
    later = later_by t.state.homefree l.core.epoch (kept.core t.core l.core l.comes.is_at.runs).from l.later;
    event = subst (λ a. wait_at t.waits t.core a ≡ Some l.cause) (sym l.comes.is_at.event) l.waits;
  }))
  follows_why (turn.loads_straight l) = why_does (IsWhy t) out _ _ l.out_is tt
  follows_why (turn.stores_straight l) = why_does (IsWhy t) out _ _ l.out_is tt
  follows_why (turn.is_early l) = why_does (IsWhy t) out _ _ l.out_is (record {
    core = l.core;
    runs = l.comes.runs;
    unhurt = l.comes.unhurt;
    later = later_by t.state.homefree l.core.epoch (kept.core t.core l.core l.comes.runs).from l.later;
    event = subst (λ a. turn.IsEnd a) (sym l.comes.event) l.ends;
  })
  follows_why (turn.commits l) = why_does (IsWhy t) out _ _ l.out_is (left_never (IsWhy t) (end_at t.image (t.state.homefree + 1)))
  follows_why (turn.exits_loop l) = why_does (IsWhy t) out _ _ l.out_is tt
  follows_why (turn.faults l) = why_does (IsWhy t) out _ _ l.out_is tt

  acts_why : turn.Acts t v w out → IfAgain (Ok out.answer) (IsWhy t)
  acts_why (turn.starts l) = why_does (IsWhy t) out _ _ l.out_is tt
  acts_why (turn.finds_none l) = why_does (IsWhy t) out _ _ l.out_is (record { idle = l.idle; left = l.left })
  acts_why (turn.restarts l) = why_does (IsWhy t) out _ _ l.out_is tt
  acts_why (turn.is_told l) = why_does (IsWhy t) out _ _ l.out_is tt
  acts_why (turn.follows l) = follows_why l

-- ---- a turn of a book

ok_over : (answer : Result Answer TurnFault) (other : Answer) (end : End) → answer ≡ Ok other → answer ≡ Ok (Over end) → other ≡ Over end
ok_over answer other end is over = cc

ok_stopped : (answer : Result Answer TurnFault) (cause : StopCause) (end : End) → answer ≡ Ok (Stopped cause) → answer ≡ Ok (Over end) → ⊥
ok_stopped answer cause end is over = cc

err_over : (answer : Result Answer TurnFault) (fault : TurnFault) (end : End) → answer ≡ Err fault → answer ≡ Ok (Over end) → ⊥
err_over answer fault end is over = cc

module _ {S : Type 0} (view : S → StoreView) (waits : S → Waits) (old new : BookView S) (s : FlatState) (shares shares' : Counts) (core : ℕ) (next : Option Arrival) (answer : Result Answer TurnFault)
    (replays : replay old.image old.cores old.history ≡ Some s) where
  abbrev here : Turn
  here = turn_at waits old s core next

  same_grows : new ≡ old → shares' ≡ shares → GrowsBy core old new shares shares'
  same_grows same held = subst (λ b. GrowsBy core old b shares shares') (sym same) (subst (λ c. GrowsBy core old old shares c) (sym held) (record {
    image = refl;
    cores = refl;
    room = refl;
    stopped = refl;
    entries = [];
    history = sym (append-nil old.history);
    by = All-nil (λ (e : Entry). e.by ≡ core);
    totals = sum_nothing old.totals;
    held = sum_nothing shares;
  }))

  grown : (entries : List Entry) → turn.Grows old new shares shares' entries → AllBy core entries → GrowsBy core old new shares shares'
  grown entries g by = record {
    image = g.image;
    cores = g.cores;
    room = g.room;
    stopped = g.stopped;
    entries = entries;
    history = g.history;
    by = by;
    totals = g.totals;
    held = g.held;
  }

  pub turn_grows : Turned view waits old s shares core next answer new shares' → GrowsBy core old new shares shares'
  turn_grows (turn.over o same held) = same_grows same held
  turn_grows (turn.stopped o same held) = same_grows same held
  turn_grows (turn.full o same held) = same_grows same held
  turn_grows (turn.no_memory may same grows is) = grown [] grows (All-nil (λ (e : Entry). e.by ≡ core))
  turn_grows (turn.acts a) = grown a.out.entries a.grows (acts_by here a.reserved (view new.store) a.out a.acts)

  pub turn_why : InStep view old → Turned view waits old s shares core next answer new shares' → IfAgain answer (IsWhy here)
  turn_why i (turn.over o same held) = why_by (IsWhy here) answer _ o.answer_is tt
  turn_why i (turn.stopped o same held) = why_by (IsWhy here) answer _ o.answer_is tt
  turn_why i (turn.full o same held) = why_by (IsWhy here) answer _ o.answer_is tt
  turn_why i (turn.no_memory may same grows is) = why_by (IsWhy here) answer _ is tt
  turn_why i (turn.acts a) = why_by (IsWhy here) answer _ a.answer_is
      (acts_why here a.reserved (view new.store) a.out (kept_in view old i s replays a.may.going) a.acts)

  pub turn_never_again : (c : CoreState) (cause : Cause) → s.cores core ≡ Some c → c.epoch ≡ s.homefree → Turned view waits old s shares core next answer new shares' → answer ≢ Ok (Again cause)
  turn_never_again c cause at home (turn.over o same held) is = let e = o.answer_is in cc
  turn_never_again c cause at home (turn.stopped o same held) is = let e = o.answer_is in cc
  turn_never_again c cause at home (turn.full o same held) is = let e = o.answer_is in cc
  turn_never_again c cause at home (turn.no_memory may same grows e) is = cc
  turn_never_again c cause at home (turn.acts a) is = let e = a.answer_is in
      never_again here a.reserved (view new.store) a.out c cause at home a.acts (ok_again answer a.out.answer cause e is)
    where
      ok_again : (answer : Result Answer TurnFault) (other : Answer) (cause : Cause) → answer ≡ Ok other → answer ≡ Ok (Again cause) → other ≡ Again cause
      ok_again answer other cause is again = cc

  -- where the history led to a state of this end, it still does
  same_end : (end : End) → new ≡ old → s.end ≡ Some end → (u : FlatState) → replay new.image new.cores new.history ≡ Some u → u.end ≡ Some end
  same_end end same is = subst (λ b. (u : FlatState) → replay b.image b.cores b.history ≡ Some u → u.end ≡ Some end) (sym same)
      (λ u leads. ap (λ (x : FlatState). x.end) (one_value (replay old.image old.cores old.history) u s leads replays) ∙ is)

  pub turn_ends : InStep view old → Turned view waits old s shares core next answer new shares' → (end : End) → answer ≡ Ok (Over end)
      → (u : FlatState) → replay new.image new.cores new.history ≡ Some u → u.end ≡ Some end
  turn_ends i (turn.over o same held) end is u leads = same_end o.end same o.over u leads ∙ ap Some (over_same o.end end (ok_over answer (Over o.end) end o.answer_is is))
  turn_ends i (turn.stopped o same held) end is u leads = absurd (ok_stopped answer o.cause end o.answer_is is)
  turn_ends i (turn.full o same held) end is u leads = absurd (err_over answer _ end o.answer_is is)
  turn_ends i (turn.no_memory may same grows refused) end is u leads = absurd (err_over answer _ end refused is)
  turn_ends i (turn.acts a) end is u leads =
      let going = a.may.going in
      let agrees = agrees_same s (view old.store) a.reserved (agrees_in view old i s replays) a.same in
      let ended = acts_ends here a.reserved (view new.store) a.out going (kept_in view old i s replays going) agrees end (ok_over answer a.out.answer end a.answer_is is) a.acts in
      let goes : replay new.image new.cores new.history ≡ Some ended.0 = rw (a.grows.image, a.grows.cores, a.grows.history)
      (history_goes_on old.image old.cores old.history a.out.entries s ended.0 replays ended.1) in
      ap (λ (x : FlatState). x.end) (one_value (replay new.image new.cores new.history) u ended.0 leads goes) ∙ ended.2

  -- a history that is said to be full is
  pub turn_full : Turned view waits old s shares core next answer new shares' → answer ≡ Err HistoryFull → IsFull new
  turn_full (turn.over o same held) is = let e = o.answer_is in absurd cc
  turn_full (turn.stopped o same held) is = let e = o.answer_is in absurd cc
  turn_full (turn.full o same held) is = subst (λ b. IsFull b) (sym same) o.full
  turn_full (turn.no_memory may same grows e) is = absurd cc
  turn_full (turn.acts a) is = let e = a.answer_is in absurd cc
