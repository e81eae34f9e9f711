-- What a turn does in a run in which no core is hurt, and no access waits.
use Rattle.std.proofs.Common.{◌≡◌, ◌≢◌, ◌⊎◌, ℕ, zero, suc, ◌+◌, ◌<◌, ◌≤◌, ◌==◌, Bool, true, false, cond, List, [], ◌∷◌, ◌++◌, Option, Some, None, IsSome, refl, sym, subst, ◌∙◌, inl, inr, true≢false, arith, eqb-true}
use Rattle.std.proofs.lemmas.Option.{cond_some}
use Rattle.rv32_exec.specs.declared.stop.Stop.{Stop}
use Rattle.rv32_exec.specs.declared.stop.Stop.TheVariants as stop
use Rattle.rv32_exec.specs.declared.sequential.End.{End}
use Rattle.rv32_exec.specs.declared.sequential.End.TheVariants as end
use Rattle.rv32_image.specs.Image.{IsImage, LoadedImage}
use Rattle.rv32_exec.specs.Hart.{HartState}
use Rattle.rv32_exec.specs.Arrival.{Arrival}
use Rattle.rv32_exec.specs.NextEvent.{next_event}
use Rattle.rv32_exec.specs.Sequential.{exits, first_epochs}
use Rattle.spec_history.specs.declared.entry.Entry.{Entry}
use Rattle.spec_history.specs.declared.entry.What.TheVariants as what
use Rattle.spec_history.specs.FlatState.{CoreState, FlatState, end_at}
use Rattle.spec_history.specs.Replay.{counts_of, replay}
use Rattle.violations.specs.View.{IsSettled, StoreView, never_waits}
use Rattle.violations.specs.View as view
use Rattle.violations.specs.declared.step.WaitCause.{WaitCause}
use Rattle.homefree.specs.declared.answer.Answer.{Answer}
use Rattle.homefree.specs.declared.answer.Answer.TheVariants.{Go, Again, Left, Over, Stopped}
use Rattle.homefree.specs.declared.answer.Cause.{Cause}
use Rattle.homefree.specs.declared.answer.Cause.TheVariants.{NoEpoch, NotHomefree, NoWay, OrbFull, OrbBusy}
use Rattle.homefree.specs.Agrees.{Agrees}
use Rattle.homefree.specs.Driven.{arrival_of}
use Rattle.homefree.specs.Hurts.{cancels, entry, entry_for_each, epoch_on, is_other}
use Rattle.homefree.specs.Turned.{Acts, Follows, IsEnd, IsStale, Outcome, Turn, does, left_or_over, wait_at}
use Rattle.homefree.specs.Turned as turn
use Rattle.homefree.proofs.SmallFacts.{wait_never}
use Rattle.epoch_paths.specs.InOrder.{IsInOrder, memory_before, AreAll}
use Rattle.epoch_paths.proofs.InOrder.{all_by_last, all_in_order as all_epochs}
use Rattle.epoch_paths.proofs.Outside.{OnPath, done_before, no_exit, no_fault}
use Rattle.even_speed.specs.Held.{Holding, is_held}
use Rattle.even_speed.proofs.Moving.{hurts_calm, restarts_in}
use Rattle.limits.specs.HeldBound.{HoldsInOrder}
use Rattle.limits.proofs.Quiet.{After, AreQuiet, Began, Committed, IsQuiet, Passed}
use Rattle.limits.proofs.Quiet as quiet

-- ---- no entry is a restart

restarts_both : (xs ys : List Entry) → (counts_of (xs ++ ys)).restarts ≡ (counts_of xs).restarts + (counts_of ys).restarts
unfolding counts_of
restarts_both [] ys = omega arith
restarts_both (e ∷ xs) ys = omega (arith, restarts_both xs ys)

cancel_if : (by epoch : ℕ) (b : Bool) → (counts_of (cond b (entry by (what.Cancel epoch)) [])).restarts ≡ 0
unfolding counts_of
cancel_if by epoch true = refl
cancel_if by epoch false = refl

none_by_cancels : (by : ℕ) (these : ℕ → Bool) (epochs : ℕ → ℕ) (n : ℕ) → (counts_of (entry_for_each by these (λ k. what.Cancel (epochs k)) n)).restarts ≡ 0
unfolding counts_of
none_by_cancels by these epochs zero = refl
none_by_cancels by these epochs (suc n) =
    let before = entry_for_each by these (λ k. what.Cancel (epochs k)) n in
    let sum = restarts_both before (cond (these n) (entry by (what.Cancel (epochs n))) []) in
    omega (arith, sum, none_by_cancels by these epochs n, cancel_if by (epochs n) (these n))

-- ---- what comes of a turn

-- the core is to come again: it is idle and no epoch is left, or it is at the end of a later epoch than the homefree one
abbrev pub Waited : LoadedImage → FlatState → ℕ → Cause → Type 0
Waited image s core NoEpoch = (s.cores core ≡ None) × (image.epochs ≤ s.next_epoch)
Waited image s core NotHomefree = (c : CoreState) × (s.cores core ≡ Some c) × IsEnd (next_event image c.hart).at × (c.epoch ≢ s.homefree)
Waited image s core NoWay = ⊥
Waited image s core OrbFull = ⊥
Waited image s core OrbBusy = ⊥

-- the loop ends with the homefree epoch, which the core runs
pub record Ended (image : LoadedImage) (s : FlatState) (core : ℕ) (entries : List Entry) : Type 0 where
  pub was : CoreState
  pub ran : s.cores core ≡ Some was
  pub epoch : was.epoch ≡ s.homefree
  pub ends : IsEnd (next_event image was.hart).at
  pub all : AreAll image (s.homefree + 1)
  pub calm : (counts_of entries).restarts ≡ 0

abbrev pub ComesTo : LoadedImage → ℕ → ℕ → FlatState → StoreView → StoreView → List Entry → Answer → Type 0
ComesTo image cores core s v w entries (Go hart) = (u : FlatState) × After image cores core s u entries w × (Began image s u core hart ⊎ Passed image s u core hart)
ComesTo image cores core s v w entries (Again cause) = (entries ≡ []) × (w ≡ v) × Waited image s core cause
ComesTo image cores core s v w entries Left = (u : FlatState) × After image cores core s u entries w × Committed image s u core
ComesTo image cores core s v w entries (Over end) = Ended image s core entries
ComesTo image cores core s v w entries (Stopped cause) = Unit

stale_not : (image : LoadedImage) (next : Option Arrival) (hart : HartState) → next ≡ Some (arrival_of image hart) → IsStale next hart → ⊥
stale_not image next hart is stale = (subst (λ o. IsStale o hart) is stale) refl

module _ (t : Turn) (holds : Holding) (h : HoldsInOrder t.image holds) (v w : StoreView) (history : List Entry) (is : IsImage t.image)
    (reached : replay t.image t.cores history ≡ Some t.state) (still : t.state.end ≡ None) (there : t.core < t.cores) (agrees : Agrees t.state v) (settled : IsSettled v)
    (uncached : v.cached ≡ false) (never : t.waits ≡ never_waits) (calm : AreQuiet t.image t.state)
    (hand : (c : CoreState) → t.state.cores t.core ≡ Some c → t.next ≡ Some (arrival_of t.image c.hart))
    (unheld : (c : CoreState) → t.state.cores t.core ≡ Some c → is_held holds t.image t.state.homefree (Some c.epoch) c.own (Some c.hart) ≡ false) where
  abbrev s : FlatState
  s = t.state

  abbrev To : Outcome → Type 0
  To o = ComesTo t.image t.cores t.core s v w o.entries o.answer

  started : (out : Outcome) → turn.IsStart t v w out → To out
  started out l = subst To (sym l.out_is)
      (let y = quiet.begins t.image t.cores t.core s v w history is reached still agrees calm settled l.idle there l.left l.store in (y.0, y.1, inl y.2))

  loaded : (out : Outcome) → turn.IsLoad t v w out → To out
  loaded out l = subst To (sym l.out_is)
      (let at = l.comes.is_at.runs in
      let y = quiet.loads t.image t.cores t.core s v w history is reached still agrees calm l.core at holds h (unheld l.core at) uncached
      l.address l.width l.rd l.value l.signed l.hurt l.comes.is_at.event l.store in (y.0, y.1, inr y.2))

  saved : (out : Outcome) → turn.IsStore t v w out → To out
  saved out l = subst To (sym l.out_is)
      (let at = l.comes.is_at.runs in
      let y = quiet.saves t.image t.cores t.core s v w history is reached still agrees calm l.core at holds h (unheld l.core at) uncached
      l.address l.width l.value l.hurt l.comes.is_at.event l.store in (y.0, y.1, inr y.2))

  waits_not : (core : ℕ) (at : Stop) (cause : WaitCause) → wait_at t.waits core at ≡ Some cause → ⊥
  waits_not core at cause waits = wait_never core at cause (subst (λ (x : view.Waits). wait_at x core at ≡ Some cause) never waits)

  -- ---- the homefree core

  module _ (c : CoreState) (at : s.cores t.core ≡ Some c) (homefree : c.epoch ≡ s.homefree) where
    order : IsInOrder t.image c.epoch
    order = quiet.in_order t.image t.cores t.core s v w history is reached still agrees calm c at homefree uncached

    started_it : c.epoch < t.image.epochs
    started_it =
        let g = quiet.going t.image t.cores t.core s v w history is reached still agrees calm in
        let low = (g.kept.core t.core c at).below in let most = g.kept.started in omega (arith, low, most)

    abbrev memory : List ℕ
    memory = memory_before t.image c.epoch

    done : first_epochs t.image c.epoch ≡ record { end = end.Done c.epoch; bytes = memory }
    done =
        let g = quiet.going t.image t.cores t.core s v w history is reached still agrees calm in
        subst (λ e. first_epochs t.image e ≡ record { end = end.Done e; bytes = memory_before t.image e }) (sym homefree) (done_before t.image s.homefree g.shown.before g.shown.done)

    on_path : (after : List ℕ) → ((quiet.it t.image t.cores t.core s v w history is reached still agrees calm c at).path order).after ≡ after → OnPath t.image c.epoch memory after c.hart
    on_path after same = record { own = c.own; at = (quiet.it t.image t.cores t.core s v w history is reached still agrees calm c at).path order; is = same }

    all_here : AreAll t.image (c.epoch + 1) → AreAll t.image (s.homefree + 1)
    all_here all = subst (λ n. AreAll t.image (n + 1)) homefree all

    by_exit : (next_event t.image c.hart).at ≡ stop.Ended → exits t.image (next_event t.image c.hart).now ≡ true → AreAll t.image (s.homefree + 1)
    by_exit next exit = all_here (all_by_last t.image c.epoch started_it order (no_exit t.image c.epoch memory _ c.hart (on_path _ refl) done next exit))

    by_fault : (cause pc : ℕ) → (next_event t.image c.hart).at ≡ stop.Fault cause pc → AreAll t.image (s.homefree + 1)
    by_fault cause pc next = all_here (all_by_last t.image c.epoch started_it order (no_fault t.image c.epoch memory _ c.hart (on_path _ refl) done cause pc next))

    by_last : s.homefree + 1 ≡ t.image.epochs → AreAll t.image (s.homefree + 1)
    by_last last = record {
      most = omega (arith, last);
      each = λ d low. all_epochs t.image c.epoch d order (omega (arith, low, homefree));
      no_more = λ d low in_order. omega (arith, low, last);
    }

  abbrev commit_entries : (ℕ → Bool) → List Entry
  commit_entries hurt = turn.hurts_of t hurt ++ turn.entry_of t what.Commit

  left_by : (l_hurt : ℕ → Bool) (c : CoreState) (at : s.cores t.core ≡ Some c) (homefree : c.epoch ≡ s.homefree) (next : (next_event t.image c.hart).at ≡ stop.Ended) (o : Option End)
      → end_at t.image (s.homefree + 1) ≡ o
      → (end_at t.image (s.homefree + 1) ≡ None → (u : FlatState) × After t.image t.cores t.core s u (commit_entries l_hurt) w × Committed t.image s u t.core)
      → To (does (commit_entries l_hurt) (left_or_over o))
  left_by l_hurt c at homefree next None none goes = goes none
  left_by l_hurt c at homefree next (Some e) some goes = record {
    was = c;
    ran = at;
    epoch = homefree;
    ends = subst IsEnd (sym next) tt;
    all = by_last c at homefree (eqb-true (s.homefree + 1) t.image.epochs (cond_some (s.homefree + 1 == t.image.epochs) (end.Done (s.homefree + 1)) e some).0);
    calm = restarts_in t.core (turn.hurts_of t l_hurt) (record { by = t.core; what = what.Commit }) (hurts_calm t.core l_hurt (epoch_on s.cores) t.cores);
  }

  committed : (out : Outcome) → turn.IsCommit t v w out → To out
  committed out l = subst To (sym l.out_is)
      (left_by l.hurt l.core l.comes.is_at.runs l.comes.homefree l.comes.is_at.event (end_at t.image (s.homefree + 1)) refl
      (λ none. quiet.commits t.image t.cores t.core s v w history is reached still agrees calm l.core l.comes.is_at.runs l.comes.homefree uncached
      l.between l.hurt l.comes.publishes l.comes.is_at.event l.stays none l.store))

  exited : (out : Outcome) → turn.IsExit t v w out → To out
  exited out l = subst To (sym l.out_is) (record {
    was = l.core;
    ran = l.comes.is_at.runs;
    epoch = l.comes.homefree;
    ends = subst IsEnd (sym l.comes.is_at.event) tt;
    all = by_exit l.core l.comes.is_at.runs l.comes.homefree l.comes.is_at.event l.exits;
    calm =
        let last : Entry = record { by = t.core; what = what.Commit } in
        let sum = restarts_both (turn.hurts_of t l.hurt) (cancels t.cores s t.core ++ last ∷ []) in
        let rest = restarts_both (cancels t.cores s t.core) (last ∷ []) in
        let first = restarts_both (turn.hurts_of t l.hurt) (last ∷ []) in
        let both = restarts_in t.core (turn.hurts_of t l.hurt) last (hurts_calm t.core l.hurt (epoch_on s.cores) t.cores) in
        let none = none_by_cancels t.core (is_other s.cores t.core) (epoch_on s.cores) t.cores in omega (arith, sum, rest, first, both, none);
  })

  faulted : (out : Outcome) → turn.IsFault t v w out → To out
  faulted out l = subst To (sym l.out_is) (record {
    was = l.core;
    ran = l.comes.is_at.runs;
    epoch = l.comes.homefree;
    ends = subst IsEnd (sym l.comes.is_at.event) tt;
    all = by_fault l.core l.comes.is_at.runs l.comes.homefree l.cause l.pc l.comes.is_at.event;
    calm = restarts_in t.core (turn.hurts_of t l.hurt) (record { by = t.core; what = what.Fault l.cause l.pc }) (hurts_calm t.core l.hurt (epoch_on s.cores) t.cores);
  })

  speculates : (c : CoreState) → s.cores t.core ≡ Some c → c.straight ≡ false
  speculates c at = (calm t.core c at).speculates

  none_waits : (core address width : ℕ) → IsSome (t.waits.load core address width) → ⊥
  none_waits core address width some = true≢false (sym (subst (λ (x : view.Waits). IsSome (x.load core address width)) never some))

  none_waits_store : (core address width : ℕ) → IsSome (t.waits.store core address width) → ⊥
  none_waits_store core address width some = true≢false (sym (subst (λ (x : view.Waits). IsSome (x.store core address width)) never some))

  follows : (out : Outcome) → Follows t v w out → To out
  follows out (turn.loads l) = loaded out l
  follows out (turn.stores l) = saved out l
  follows out (turn.waits l) = absurd (waits_not t.core l.at l.cause l.waits)
  follows out (turn.loads_straight l) = absurd (none_waits t.core l.address l.width (l.waits (speculates l.core l.comes.is_at.runs)))
  follows out (turn.stores_straight l) = absurd (none_waits_store t.core l.address l.width (l.waits (speculates l.core l.comes.is_at.runs)))
  follows out (turn.is_early l) = subst To (sym l.out_is)
      (refl, l.store, (l.core, l.comes.runs, subst IsEnd (sym l.comes.event) l.ends, l.later))
  follows out (turn.commits l) = committed out l
  follows out (turn.exits_loop l) = exited out l
  follows out (turn.faults l) = faulted out l

  pub acts : (out : Outcome) → Acts t v w out → To out
  acts out (turn.starts l) = started out l
  acts out (turn.finds_none l) = subst To (sym l.out_is) (refl, l.store, (l.idle, l.left))
  acts out (turn.restarts l) = absurd (true≢false (sym l.hurt ∙ (calm t.core l.core l.runs).unhurt))
  acts out (turn.is_told l) = absurd (stale_not t.image t.next l.core.hart (hand l.core l.runs) l.stale)
  acts out (turn.follows l) = follows out l
