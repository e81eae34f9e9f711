-- What a turn over a plain store makes of a quiet state, where it violates no epoch.
use Rattle.std.proofs.Common.{◌≡◌, ◌≢◌, ℕ, zero, suc, ◌+◌, ◌<◌, ◌==◌, Bool, true, false, cond, List, [], ◌∷◌, ◌++◌, length, Option, Some, None, is_some, IsSome, refl, sym, ap, subst, ◌∙◌, inl, inr, true≢false, arith, append-nil, eqb-true}
use Rattle.std.proofs.lemmas.Bool.{cases_eq}
use Rattle.std.proofs.lemmas.Option.{none-some, same_Some}
use Rattle.memory_bytes.proofs.SmallFacts.{in_front, some_unless}
use Rattle.rv32_image.specs.Image.{LoadedImage, IsImage}
use Rattle.rv32_image.proofs.SmallFacts.{one_value}
use Rattle.rv32_exec.specs.declared.stop.Stop.{Stop}
use Rattle.rv32_exec.specs.declared.stop.Stop.TheVariants as stop
use Rattle.rv32_exec.specs.declared.sequential.End.{End}
use Rattle.rv32_exec.specs.declared.sequential.End.TheVariants as end
use Rattle.rv32_exec.specs.Hart.{HartState, start_of}
use Rattle.rv32_exec.specs.NextEvent.{next_event}
use Rattle.rv32_exec.specs.Laws.{HasStopped}
use Rattle.rv32_exec.specs.Sequential.{after_stop, first_epochs}
use Rattle.spec_history.specs.declared.entry.Entry.{Entry}
use Rattle.spec_history.specs.declared.entry.What.{What}
use Rattle.spec_history.specs.declared.entry.What.TheVariants.{Start, Load, Store, Hurt, Commit}
use Rattle.spec_history.specs.FlatState.{CoreState, FlatState, begun, end_at}
use Rattle.spec_history.specs.Effect.{effect, effect_idle, effect_on, with_core}
use Rattle.spec_history.specs.Replay.{replay}
use Rattle.spec_history.proofs.OneEntry.Going.{Going}
use Rattle.spec_history.proofs.OneEntry.Keeping.{at_core, with_core_other, with_core_same}
use Rattle.spec_history.proofs.Replay.Replays.{effect-idle, effect-on, replayed}
use Rattle.spec_history.proofs.Replay.Joining.{one_more}
use Rattle.violations.specs.View.{StoreView, Waits, never_waits}
use Rattle.violations.specs.Rule.{Publishes}
use Rattle.homefree.specs.declared.answer.Answer.{Answer}
use Rattle.homefree.specs.declared.answer.Answer.TheVariants.{Go, Again, Left, Over, Stopped}
use Rattle.homefree.specs.declared.answer.Cause.{Cause}
use Rattle.homefree.specs.declared.answer.Cause.TheVariants.{NoEpoch, NotHomefree}
use Rattle.homefree.specs.Agrees.{Agrees, AgreesCore}
use Rattle.homefree.specs.Hurts.{entry, entry_for_each, epoch_on}
use Rattle.homefree.specs.Turned as turn
use Rattle.homefree.specs.Turned.{IsEnd, IsHandedIn, Outcome, Turn, cause_of, does, entry_of, hurts_of, left_or_over, publishes_unless, wait_at}
use Rattle.homefree.proofs.SmallFacts.{stale_not, wait_never}
use Rattle.epoch_paths.specs.InOrder.{IsInOrder, memory_before}
use Rattle.dependences.specs.Laws.{NoneIsHurt}
use Rattle.epoch_paths.specs.Paths.{ReadsOutside, Stores}
use Rattle.epoch_paths.proofs.Following.{all_loaded, all_stored}
use Rattle.epoch_paths.proofs.InOrder.{all_in_order}
use Rattle.epoch_paths.proofs.Outside.{OnPath, done_before, no_exit, no_fault}
use Rattle.epoch_paths.specs.Kept.{IsAt}
use Rattle.epoch_paths.proofs.Cores.{IsFresh, fresh}
use Rattle.never_or_shown.specs.Quiet.{AreOthers, ComesTo, GoesOn, HasCommitted, HasReadAll, IsAtEnd, IsQuiet, PassesOver, RunsEpoch, Starts}
use Rattle.never_or_shown.proofs.Complete.{IsComplete, all_know}

-- ---- histories without a violation

pub unhurt_right : (xs ys : List Entry) → NoneIsHurt (xs ++ ys) → NoneIsHurt ys
unhurt_right [] ys all = all
unhurt_right (x ∷ xs) ys all = unhurt_right xs ys (λ place entry at. all (suc place) entry at)

unhurt_left : (xs ys : List Entry) → NoneIsHurt (xs ++ ys) → NoneIsHurt xs
unhurt_left xs ys all place entry at = all place entry (in_front xs ys place entry at)

last_none : (by epoch : ℕ) (b : Bool) → NoneIsHurt (cond b (entry by (Hurt epoch)) []) → b ≡ false
last_none by epoch true all = absurd (true≢false (all 0 (record { by = by; what = Hurt epoch }) refl))
last_none by epoch false all = refl

-- no core is among those that are hurt
none_in : (by : ℕ) (these : ℕ → Bool) (epochs : ℕ → ℕ) (n : ℕ) → NoneIsHurt (entry_for_each by these (λ k. Hurt (epochs k)) n) → (k : ℕ) → k < n → these k ≡ false
none_in by these epochs zero all k below = absurd (omega (arith, below))
none_in by these epochs (suc n) all k below = elim (cases_eq k n) [
  | inl e ↦ subst (λ j. these j ≡ false) (sym e)
      (last_none by (epochs n) (these n) (unhurt_right (entry_for_each by these (λ j. Hurt (epochs j)) n) (cond (these n) (entry by (Hurt (epochs n))) []) all))
  | inr other ↦ none_in by these epochs n (unhurt_left (entry_for_each by these (λ j. Hurt (epochs j)) n) (cond (these n) (entry by (Hurt (epochs n))) []) all) k (omega (arith, below, other))
]

none_made : (by : ℕ) (these : ℕ → Bool) (what : ℕ → What) (n : ℕ) → ((k : ℕ) → k < n → these k ≡ false) → entry_for_each by these what n ≡ []
none_made by these what zero none = refl
none_made by these what (suc n) none =
    ap (λ b. entry_for_each by these what n ++ cond b (entry by (what n)) []) (none n (omega arith))
    ∙ (append-nil (entry_for_each by these what n) ∙ none_made by these what n (λ k below. none k (omega (arith, below))))

-- ---- quiet states

quiet_with : (s x : FlatState) (by : ℕ) (new : CoreState) → IsQuiet s → x.end ≡ None → x.cores ≡ with_core s.cores by (Some new) → new.hurt ≡ false → new.straight ≡ false → IsQuiet x
quiet_with s x by new quiet going cores unhurt speculates = record {
  going = going;
  unhurt = λ k d at. elim (at_core s.cores by (Some new) k d (sym (ap (λ (f : ℕ → Option CoreState). f k) cores) ∙ at)) [
    | inl same ↦ subst (λ (y : CoreState). y.hurt ≡ false) (same_Some new d same.1) unhurt
    | inr other ↦ quiet.unhurt k d other.1
  ];
  speculates = λ k d at. elim (at_core s.cores by (Some new) k d (sym (ap (λ (f : ℕ → Option CoreState). f k) cores) ∙ at)) [
    | inl same ↦ subst (λ (y : CoreState). y.straight ≡ false) (same_Some new d same.1) speculates
    | inr other ↦ quiet.speculates k d other.1
  ];
}

quiet_without : (s x : FlatState) (by : ℕ) → IsQuiet s → x.end ≡ None → x.cores ≡ with_core s.cores by None → IsQuiet x
quiet_without s x by quiet going cores = record {
  going = going;
  unhurt = λ k d at. elim (at_core s.cores by None k d (sym (ap (λ (f : ℕ → Option CoreState). f k) cores) ∙ at)) [
    | inl same ↦ absurd (none-some d same.1)
    | inr other ↦ quiet.unhurt k d other.1
  ];
  speculates = λ k d at. elim (at_core s.cores by None k d (sym (ap (λ (f : ℕ → Option CoreState). f k) cores) ∙ at)) [
    | inl same ↦ absurd (none-some d same.1)
    | inr other ↦ quiet.speculates k d other.1
  ];
}

others_with : (s x : FlatState) (by : ℕ) (new : Option CoreState) → x.cores ≡ with_core s.cores by new → AreOthers s x by
others_with s x by new cores k other = ap (λ (f : ℕ → Option CoreState). f k) cores ∙ with_core_other s.cores by new k other

runs_with : (s x : FlatState) (by : ℕ) (new : CoreState) → x.cores ≡ with_core s.cores by (Some new) → RunsEpoch x by new.epoch
runs_with s x by new cores = record { core = new; runs = ap (λ (f : ℕ → Option CoreState). f by) cores ∙ with_core_same s.cores by (Some new); is = refl }

goes_with : (s x : FlatState) (by : ℕ) (new : CoreState) → IsQuiet s → x.end ≡ s.end → x.homefree ≡ s.homefree → x.next_epoch ≡ s.next_epoch
    → x.cores ≡ with_core s.cores by (Some new) → new.hurt ≡ false → new.straight ≡ false → GoesOn s x by new.epoch
goes_with s x by new quiet ends homefree next cores unhurt speculates = record {
  quiet = quiet_with s x by new quiet (ends ∙ quiet.going) cores unhurt speculates;
  homefree = homefree;
  next = next;
  runs = runs_with s x by new cores;
  others = others_with s x by (Some new) cores;
}

stays : (s : FlatState) (by epoch : ℕ) → IsQuiet s → RunsEpoch s by epoch → GoesOn s s by epoch
stays s by epoch quiet runs = record { quiet = quiet; homefree = refl; next = refl; runs = runs; others = λ k other. refl }

-- ---- the end of an epoch

stopped_at : (h : HartState) (memory : List ℕ) (at : Stop) → IsEnd at → HasStopped (after_stop h memory at)
stopped_at h memory (stop.Load address width signed rd) ends = absurd ends
stopped_at h memory (stop.Store address width value) ends = absurd ends
stopped_at h memory stop.Ended ends = tt
stopped_at h memory (stop.Fault cause pc) ends = tt

end_done : (image : LoadedImage) (homefree : ℕ) (e : End) → end_at image homefree ≡ Some e → homefree ≡ image.epochs
end_done image homefree e is = by_test (homefree == image.epochs) refl is
  where
    by_test : (b : Bool) → (homefree == image.epochs) ≡ b → cond b (Some (end.Done homefree)) None ≡ Some e → homefree ≡ image.epochs
    by_test true same some = eqb-true homefree image.epochs same
    by_test false same some = absurd cc

some_entry : (xs : List Entry) (e : Entry) → 0 < length (xs ++ e ∷ [])
some_entry [] e = omega arith
some_entry (x ∷ xs) e = omega arith

-- what the core's hart has to do with the answer
abbrev pub OwnHart : Turn → Answer → CoreState → Type 0
OwnHart t (Go hart) c = c.hart ≡ hart
OwnHart t (Again cause) c = t.state.cores t.core ≡ Some c
OwnHart t Left c = ⊥
OwnHart t (Over e) c = Unit {0}
OwnHart t (Stopped cause) c = ⊥

-- what any turn keeps
pub record Keeps (t : Turn) (u : FlatState) (out : Outcome) : Type 0 where
  pub quiet : IsQuiet u
  pub others : AreOthers t.state u t.core
  pub own : (c : CoreState) → u.cores t.core ≡ Some c → OwnHart t out.answer c
  pub grows : (hart : HartState) → out.answer ≡ Go hart → 0 < length out.entries

keeps_out : (t : Turn) (u : FlatState) (out : Outcome) (entries : List Entry) (answer : Answer) → out ≡ does entries answer → Keeps t u (does entries answer) → Keeps t u out
keeps_out t u out entries answer is_out keeps = subst (λ (o : Outcome). Keeps t u o) (sym is_out) keeps

module _ (t : Turn) (v w : StoreView) (out : Outcome) (h : List Entry) (u : FlatState) (is : IsImage t.image) (replays : replay t.image t.cores h ≡ Some t.state)
    (leads : replay t.image t.cores (h ++ out.entries) ≡ Some u) (calm : NoneIsHurt (h ++ out.entries)) (waits : t.waits ≡ never_waits) (agrees : Agrees t.state v)
    (quiet : IsQuiet t.state) where
  going : Going t.image t.cores t.state
  going = (replayed t.image t.cores h t.state is replays).going quiet.going

  now : IsFresh t.image t.state
  now = fresh t.image t.cores t.state going (going.shown.unpublished quiet.speculates)

  -- each core is complete over committed memory
  complete : (k : ℕ) (c : CoreState) → t.state.cores k ≡ Some c → IsComplete t.image (memory_before t.image t.state.homefree) c
  complete k c at =
      all_know t.image t.cores h t.state is replays k c at (quiet.speculates k c at) (memory_before t.image t.state.homefree)
      (record { long = now.long; bytes = λ a byte read. sym (now.same a) ∙ (going.kept.core k c at).reads_stand (quiet.unhurt k c at) a byte read })

  done : first_epochs t.image t.state.homefree ≡ record { end = end.Done t.state.homefree; bytes = memory_before t.image t.state.homefree }
  done = done_before t.image t.state.homefree going.shown.before going.shown.done

  -- ---- what the entries make

  made_none : (answer : Answer) → out ≡ does [] answer → u ≡ t.state
  made_none answer is_out =
      one_value (replay t.image t.cores h) u t.state
      (subst (λ (es : List Entry). replay t.image t.cores es ≡ Some u) (append-nil h) (subst (λ (o : Outcome). replay t.image t.cores (h ++ o.entries) ≡ Some u) is_out leads)) replays

  made_one : (what : What) (entries : List Entry) → out.entries ≡ entries → entries ≡ entry t.core what → u ≡ effect t.image t.state (record { by = t.core; what = what })
  made_one what entries first second =
      sym (one_more t.image t.cores h t.state u (record { by = t.core; what = what }) replays
      (subst (λ (es : List Entry). replay t.image t.cores (h ++ es) ≡ Some u) (first ∙ second) leads))

  none_hurt : (hurt : ℕ → Bool) (rest : List Entry) (answer : Answer) → out ≡ does (hurts_of t hurt ++ rest) answer → (k : ℕ) → k < t.cores → hurt k ≡ false
  none_hurt hurt rest answer is_out =
      none_in t.core hurt (λ k. epoch_on t.state.cores k) t.cores
      (unhurt_left (hurts_of t hurt) rest (unhurt_right h (hurts_of t hurt ++ rest) (subst (λ (o : Outcome). NoneIsHurt (h ++ o.entries)) is_out calm)))

  made_after : (hurt : ℕ → Bool) (what : What) (answer : Answer) (c : CoreState) → t.state.cores t.core ≡ Some c → out ≡ does (hurts_of t hurt ++ entry t.core what) answer
      → u ≡ effect_on t.image t.state t.core c what
  made_after hurt what answer c at is_out =
      made_one what (hurts_of t hurt ++ entry t.core what) (ap (λ (o : Outcome). o.entries) is_out)
      (ap (λ (es : List Entry). es ++ entry t.core what) (none_made t.core hurt _ t.cores (none_hurt hurt (entry t.core what) answer is_out)))
      ∙ effect-on t.image t.state t.core what c at

  answered : (epoch : ℕ) (entries : List Entry) (answer : Answer) → out ≡ does entries answer → ComesTo t.image t.state u t.core epoch answer
      → ComesTo t.image t.state u t.core epoch out.answer
  answered epoch entries answer is_out comes = subst (λ (o : Outcome). ComesTo t.image t.state u t.core epoch o.answer) (sym is_out) comes

  -- ---- a core that starts

  started : turn.IsStart t v w out → Starts t.state u t.core
  started l =
      let what = Start t.state.next_epoch in
      let made : u ≡ effect_idle t.image t.state t.core what = made_one what (entry t.core what) (ap (λ (o : Outcome). o.entries) l.out_is) refl ∙ effect-idle t.image t.state t.core what l.idle in
      let new = begun t.image t.state.next_epoch in
      let x = effect_idle t.image t.state t.core what in
      subst (λ (y : FlatState). Starts t.state y t.core) (sym made) (record {
        quiet = quiet_with t.state x t.core new quiet quiet.going refl refl refl;
        homefree = refl;
        next = refl;
        runs = runs_with t.state x t.core new refl;
        others = others_with t.state x t.core (Some new) refl;
      })

  -- ---- a core that runs an epoch

  module _ (epoch : ℕ) (runs : RunsEpoch t.state t.core epoch) where
    epoch_is : (c : CoreState) → t.state.cores t.core ≡ Some c → c.epoch ≡ epoch
    epoch_is c at = sym (ap (λ (x : CoreState). x.epoch) (one_value (t.state.cores t.core) runs.core c runs.runs at)) ∙ runs.is

    stays_so : (answer : Answer) (hart : HartState) → out ≡ does [] (Go hart) → ComesTo t.image t.state u t.core epoch out.answer
    stays_so answer hart is_out =
        answered epoch [] (Go hart) is_out (subst (λ (x : FlatState). GoesOn t.state x t.core epoch) (sym (made_none (Go hart) is_out)) (stays t.state t.core epoch quiet runs))

    loaded : turn.IsLoad t v w out → ComesTo t.image t.state u t.core epoch out.answer
    loaded l =
        let c = l.core in
        let at = l.comes.is_at.runs in
        let what = Load l.address l.width l.value in
        let made = made_after l.hurt what _ c at l.out_is in
        let x = effect_on t.image t.state t.core c what in
        answered epoch _ _ l.out_is (subst (λ (y : FlatState). GoesOn t.state y t.core epoch) (sym made) (subst (λ e. GoesOn t.state x t.core e) (epoch_is c at)
        (goes_with t.state x t.core _ quiet refl refl refl refl (quiet.unhurt t.core c at) (quiet.speculates t.core c at))))

    stored : turn.IsStore t v w out → ComesTo t.image t.state u t.core epoch out.answer
    stored l =
        let c = l.core in
        let at = l.comes.is_at.runs in
        let what = Store l.address l.width l.value in
        let made = made_after l.hurt what _ c at l.out_is in
        let x = effect_on t.image t.state t.core c what in
        answered epoch _ _ l.out_is (subst (λ (y : FlatState). GoesOn t.state y t.core epoch) (sym made) (subst (λ e. GoesOn t.state x t.core e) (epoch_is c at)
        (goes_with t.state x t.core _ quiet refl refl refl refl (quiet.unhurt t.core c at) (quiet.speculates t.core c at))))

    waited : turn.IsWait t v w out → ComesTo t.image t.state u t.core epoch out.answer
    waited l = absurd (wait_never t.core l.at l.cause (sym (ap (λ (y : Waits). wait_at y t.core l.at) waits) ∙ l.waits))

    no_load : (address width : ℕ) → IsSome (t.waits.load t.core address width) → ⊥
    no_load address width some = true≢false (sym some ∙ ap (λ (y : Waits). is_some (y.load t.core address width)) waits)

    no_store : (address width : ℕ) → IsSome (t.waits.store t.core address width) → ⊥
    no_store address width some = true≢false (sym some ∙ ap (λ (y : Waits). is_some (y.store t.core address width)) waits)

    early : turn.IsEarly t v w out → ComesTo t.image t.state u t.core epoch out.answer
    early l =
        let c = l.core in
        let at = l.comes.runs in
        let all = complete t.core c at in
        let stopped = subst (λ (x : Stop). HasStopped (after_stop (next_event t.image c.hart).now all.at.after x)) (sym l.comes.event) (stopped_at _ all.at.after l.at l.ends) in
        let memory = memory_before t.image t.state.homefree in
        let read : HasReadAll t.image t.state t.core epoch t.state.homefree =
        λ d a at_d reads.
        let same : c ≡ d = one_value (t.state.cores t.core) c d at at_d in
        let reads' = subst (λ e. ReadsOutside t.image e memory a) (sym (epoch_is c at)) reads in
        subst (λ (x : CoreState). is_some (x.outside a) ≡ true) same
        (all.read a reads' (all_loaded t.image c.epoch memory c.hart c.own all.at stopped a reads'.step reads'.there)) in
        answered epoch _ _ l.out_is (subst (λ (y : FlatState). IsAtEnd t.image t.state y t.core epoch) (sym (made_none _ l.out_is)) (record {
          on = stays t.state t.core epoch quiet runs;
          later = λ same. l.later (epoch_is c at ∙ same);
          read = read;
        }))

    number : (c : CoreState) → t.state.cores t.core ≡ Some c → c.epoch ≡ t.state.homefree → epoch ≡ t.state.homefree
    number c at homefree = sym (epoch_is c at) ∙ homefree

    next_runs : epoch ≡ t.state.homefree → (d : ℕ) → epoch < d → IsInOrder t.image d → IsInOrder t.image (t.state.homefree + 1)
    next_runs same d low order = all_in_order t.image d (t.state.homefree + 1) order (omega (arith, low, same))

    -- a byte of its own that another core has read would violate that one
    module _ (c : CoreState) (at : t.state.cores t.core ≡ Some c) (homefree : c.epoch ≡ t.state.homefree) (e : Stop) (event : (next_event t.image c.hart).at ≡ e) (ends : IsEnd e) (x : StoreView)
        (hurt : ℕ → Bool) (publishes : publishes_unless c.straight v x t.core hurt) (none : (k : ℕ) → k < t.cores → hurt k ≡ false) where
      published : Publishes v x t.core hurt
      published = subst (λ b. publishes_unless b v x t.core hurt) (quiet.speculates t.core c at) publishes

      all : IsComplete t.image (memory_before t.image t.state.homefree) c
      all = complete t.core c at

      stopped : HasStopped (after_stop (next_event t.image c.hart).now all.at.after (next_event t.image c.hart).at)
      stopped = subst (λ (y : Stop). HasStopped (after_stop (next_event t.image c.hart).now all.at.after y)) (sym event) (stopped_at _ all.at.after e ends)

      agrees_at : (k : ℕ) (d : CoreState) → t.state.cores k ≡ Some d → AgreesCore t.state.committed v k d
      agrees_at k d at_k = (agrees.core quiet.going k).runs d at_k (quiet.unhurt k d at_k)

      owned : (a : ℕ) → Stores t.image c.epoch (memory_before t.image c.epoch) a → v.own t.core a ≡ true
      owned a stores =
          let here = subst (λ n. Stores t.image c.epoch (memory_before t.image n) a) homefree stores in
          (agrees_at t.core c at).own a
          ∙ some_unless (c.own a) (λ unowned. all_stored t.image c.epoch (memory_before t.image t.state.homefree) c.hart c.own all.at stopped a unowned here)

      passed_by : (k : ℕ) (d : CoreState) (a : ℕ) → k ≢ t.core → t.state.cores k ≡ Some d → Stores t.image c.epoch (memory_before t.image c.epoch) a
          → (o : Option ℕ) → d.outside a ≡ o → is_some o ≡ false
      passed_by k d a other at_k stores None read = refl
      passed_by k d a other at_k stores (Some byte) read =
          let hit = published.tells k other (record { at = a; is_one = owned a stores; guarded = (agrees_at k d at_k).guards_read a byte read }) in
          absurd (true≢false (sym hit ∙ none k (going.kept.core k d at_k).there))

      passes : PassesOver t.image t.state t.core epoch
      passes = subst (λ n. PassesOver t.image t.state t.core n) (epoch_is c at) (λ k d a other at_k stores. passed_by k d a other at_k stores (d.outside a) refl)

      here : IsAt t.image t.state.homefree (memory_before t.image t.state.homefree) c.hart c.own
      here = subst (λ n. IsAt t.image n (memory_before t.image t.state.homefree) c.hart c.own) homefree all.at

      path : OnPath t.image t.state.homefree (memory_before t.image t.state.homefree) here.after c.hart
      path = record { own = c.own; at = here; is = refl }

    committed : turn.IsCommit t v w out → ComesTo t.image t.state u t.core epoch out.answer
    committed l = answered epoch _ _ l.out_is (by_end (end_at t.image (t.state.homefree + 1)) refl)
      where
        c : CoreState
        c = l.core

        at : t.state.cores t.core ≡ Some c
        at = l.comes.is_at.runs

        none : (k : ℕ) → k < t.cores → l.hurt k ≡ false
        none = none_hurt l.hurt (entry t.core Commit) _ l.out_is

        passes_over : PassesOver t.image t.state t.core epoch
        passes_over = passes c at l.comes.homefree stop.Ended l.comes.is_at.event tt l.between l.hurt l.comes.publishes none

        by_end : (o : Option End) → end_at t.image (t.state.homefree + 1) ≡ o → ComesTo t.image t.state u t.core epoch (left_or_over o)
        by_end None ends =
            let x = effect_on t.image t.state t.core c Commit in
            let made : u ≡ x = made_after l.hurt Commit _ c at l.out_is in
            let none_ends : x.end ≡ None = ap (λ b. cond b (Some (end.Exit t.state.homefree)) (end_at t.image (t.state.homefree + 1))) l.stays ∙ ends in
            subst (λ (y : FlatState). HasCommitted t.image t.state y t.core epoch) (sym made) (record {
              quiet = quiet_without t.state x t.core quiet none_ends refl;
              is_homefree = number c at l.comes.homefree;
              homefree = refl;
              next = refl;
              idle = with_core_same t.state.cores t.core None;
              others = others_with t.state x t.core None refl;
              passes = passes_over;
            })
        by_end (Some e) ends = record {
          is_homefree = number c at l.comes.homefree;
          last = λ d low within order. let most = end_done t.image (t.state.homefree + 1) e ends in absurd (omega (arith, low, within, most, number c at l.comes.homefree));
          passes = passes_over;
        }

    exited : turn.IsExit t v w out → ComesTo t.image t.state u t.core epoch out.answer
    exited l =
        let c = l.core in
        let at = l.comes.is_at.runs in
        let none = none_hurt l.hurt _ _ l.out_is in
        let event = l.comes.is_at.event in
        answered epoch _ _ l.out_is (record {
          is_homefree = number c at l.comes.homefree;
          last = λ d low within order.
              no_exit t.image t.state.homefree (memory_before t.image t.state.homefree) _ c.hart (path c at l.comes.homefree stop.Ended event tt l.between l.hurt l.comes.publishes none)
              done event l.exits
              (next_runs (number c at l.comes.homefree) d low order);
          passes = passes c at l.comes.homefree stop.Ended event tt l.between l.hurt l.comes.publishes none;
        })

    faulted : turn.IsFault t v w out → ComesTo t.image t.state u t.core epoch out.answer
    faulted l =
        let c = l.core in
        let at = l.comes.is_at.runs in
        let none = none_hurt l.hurt _ _ l.out_is in
        let event = l.comes.is_at.event in
        let e = stop.Fault l.cause l.pc in
        answered epoch _ _ l.out_is (record {
          is_homefree = number c at l.comes.homefree;
          last = λ d low within order.
              no_fault t.image t.state.homefree (memory_before t.image t.state.homefree) _ c.hart (path c at l.comes.homefree e event tt w l.hurt l.comes.publishes none)
              done l.cause l.pc event
              (next_runs (number c at l.comes.homefree) d low order);
          passes = passes c at l.comes.homefree e event tt w l.hurt l.comes.publishes none;
        })

    followed : turn.Follows t v w out → ComesTo t.image t.state u t.core epoch out.answer
    followed (turn.loads l) = loaded l
    followed (turn.stores l) = stored l
    followed (turn.waits l) = waited l
    followed (turn.loads_straight l) = absurd (no_load l.address l.width (l.waits (quiet.speculates t.core l.core l.comes.is_at.runs)))
    followed (turn.stores_straight l) = absurd (no_store l.address l.width (l.waits (quiet.speculates t.core l.core l.comes.is_at.runs)))
    followed (turn.is_early l) = early l
    followed (turn.commits l) = committed l
    followed (turn.exits_loop l) = exited l
    followed (turn.faults l) = faulted l

    is_idle : t.state.cores t.core ≡ None → ⊥
    is_idle idle = let at = runs.runs in cc

    pub acted : turn.Acts t v w out → ComesTo t.image t.state u t.core epoch out.answer
    acted (turn.starts l) = absurd (is_idle l.idle)
    acted (turn.finds_none l) = absurd (is_idle l.idle)
    acted (turn.restarts l) = absurd (true≢false (sym l.hurt ∙ quiet.unhurt t.core l.core l.runs))
    acted (turn.is_told l) = stays_so (Go l.core.hart) l.core.hart l.out_is
    acted (turn.follows l) = followed l

  -- ---- a core that is idle, where an epoch is left

  module _ (idle : t.state.cores t.core ≡ None) (left : t.state.next_epoch < t.image.epochs) where
    runs_none : (c : CoreState) → t.state.cores t.core ≡ Some c → ⊥
    runs_none c at = cc

    at_none : turn.Follows t v w out → ⊥
    at_none (turn.loads l) = runs_none l.core l.comes.is_at.runs
    at_none (turn.stores l) = runs_none l.core l.comes.is_at.runs
    at_none (turn.waits l) = runs_none l.core l.comes.is_at.runs
    at_none (turn.loads_straight l) = runs_none l.core l.comes.is_at.runs
    at_none (turn.stores_straight l) = runs_none l.core l.comes.is_at.runs
    at_none (turn.is_early l) = runs_none l.core l.comes.runs
    at_none (turn.commits l) = runs_none l.core l.comes.is_at.runs
    at_none (turn.exits_loop l) = runs_none l.core l.comes.is_at.runs
    at_none (turn.faults l) = runs_none l.core l.comes.is_at.runs

    pub begins : turn.Acts t v w out → Starts t.state u t.core
    begins (turn.starts l) = started l
    begins (turn.finds_none l) = let most = l.left in absurd (omega (arith, left, most))
    begins (turn.restarts l) = absurd (runs_none l.core l.runs)
    begins (turn.is_told l) = absurd (runs_none l.core l.runs)
    begins (turn.follows l) = absurd (at_none l)

  -- ---- what any turn keeps

  module _ (hands : (c : CoreState) → t.state.cores t.core ≡ Some c → IsHandedIn t.next c.hart) (on : (e : End) → out.answer ≢ Over e) where
    not_over : (entries : List Entry) (e : End) → out ≡ does entries (Over e) → ⊥
    not_over entries e is_out = on e (ap (λ (o : Outcome). o.answer) is_out)

    keeps_same : (answer : Answer) → out ≡ does [] answer → ((c : CoreState) → t.state.cores t.core ≡ Some c → OwnHart t answer c) → ((hart : HartState) → answer ≢ Go hart) → Keeps t u out
    keeps_same answer is_out own no_go =
        keeps_out t u out [] answer is_out (subst (λ (y : FlatState). Keeps t y (does [] answer)) (sym (made_none answer is_out))
        (record { quiet = quiet; others = λ k other. refl; own = own; grows = λ hart is. absurd (no_go hart is) }))

    keeps_new : (x : FlatState) (new : CoreState) (entries : List Entry) (hart : HartState) → out ≡ does entries (Go hart) → 0 < length entries → u ≡ x → x.end ≡ None
        → x.cores ≡ with_core t.state.cores t.core (Some new) → new.hurt ≡ false → new.straight ≡ false → new.hart ≡ hart → Keeps t u out
    keeps_new x new entries hart is_out some made going_on cores unhurt speculates hart_is =
        keeps_out t u out entries (Go hart) is_out (subst (λ (y : FlatState). Keeps t y (does entries (Go hart))) (sym made)
        (record {
          quiet = quiet_with t.state x t.core new quiet going_on cores unhurt speculates;
          others = others_with t.state x t.core (Some new) cores;
          own = λ c at. subst (λ (y : CoreState). y.hart ≡ hart)
              (same_Some new c (sym (ap (λ (f : ℕ → Option CoreState). f t.core) cores ∙ with_core_same t.state.cores t.core (Some new)) ∙ at)) hart_is;
          grows = λ hart' is. some;
        }))

    keeps_start : turn.IsStart t v w out → Keeps t u out
    keeps_start l =
        let what = Start t.state.next_epoch in
        let made : u ≡ effect_idle t.image t.state t.core what = made_one what (entry t.core what) (ap (λ (o : Outcome). o.entries) l.out_is) refl ∙ effect-idle t.image t.state t.core what l.idle in
        keeps_new (effect_idle t.image t.state t.core what) (begun t.image t.state.next_epoch) (entry t.core what) (start_of t.image t.state.next_epoch) l.out_is (omega arith) made quiet.going
        refl refl refl refl

    keeps_load : turn.IsLoad t v w out → Keeps t u out
    keeps_load l =
        let c = l.core in
        let at = l.comes.is_at.runs in
        let what = Load l.address l.width l.value in
        keeps_new (effect_on t.image t.state t.core c what) _ (hurts_of t l.hurt ++ entry_of t what) _ l.out_is (some_entry (hurts_of t l.hurt) (record { by = t.core; what = what }))
        (made_after l.hurt what _ c at l.out_is) quiet.going refl (quiet.unhurt t.core c at) (quiet.speculates t.core c at) refl

    keeps_store : turn.IsStore t v w out → Keeps t u out
    keeps_store l =
        let c = l.core in
        let at = l.comes.is_at.runs in
        let what = Store l.address l.width l.value in
        keeps_new (effect_on t.image t.state t.core c what) _ (hurts_of t l.hurt ++ entry_of t what) _ l.out_is (some_entry (hurts_of t l.hurt) (record { by = t.core; what = what }))
        (made_after l.hurt what _ c at l.out_is) quiet.going refl (quiet.unhurt t.core c at) (quiet.speculates t.core c at) refl

    no_go : (cause : Cause) (hart : HartState) → Again cause ≢ Go hart
    no_go cause hart is = cc

    keeps_commit : (l : turn.IsCommit t v w out) → (o : Option End) → end_at t.image (t.state.homefree + 1) ≡ o → Keeps t u out
    keeps_commit l None ends_none =
        let c = l.core in
        let at = l.comes.is_at.runs in
        let x = effect_on t.image t.state t.core c Commit in
        let made : u ≡ x = made_after l.hurt Commit _ c at l.out_is in
        let entries = hurts_of t l.hurt ++ entry_of t Commit in
        let is_out : out ≡ does entries Left = l.out_is ∙ ap (λ o. does entries (left_or_over o)) ends_none in
        let none_ends : x.end ≡ None = ap (λ b. cond b (Some (end.Exit t.state.homefree)) (end_at t.image (t.state.homefree + 1))) l.stays ∙ ends_none in
        keeps_out t u out entries Left is_out (subst (λ (y : FlatState). Keeps t y (does entries Left)) (sym made) (record {
          quiet = quiet_without t.state x t.core quiet none_ends refl;
          others = others_with t.state x t.core None refl;
          own = λ d at_d. none-some d (sym (with_core_same t.state.cores t.core None) ∙ at_d);
          grows = λ hart is. absurd (left_no_go hart is);
        }))
      where
        left_no_go : (hart : HartState) → Left ≡ Go hart → ⊥
        left_no_go hart is = cc
    keeps_commit l (Some e) ends_some = absurd (not_over _ e (l.out_is ∙ ap (λ o. does (hurts_of t l.hurt ++ entry_of t Commit) (left_or_over o)) ends_some))

    keeps_follow : turn.Follows t v w out → Keeps t u out
    keeps_follow (turn.loads l) = keeps_load l
    keeps_follow (turn.stores l) = keeps_store l
    keeps_follow (turn.waits l) = absurd (wait_never t.core l.at l.cause (sym (ap (λ (y : Waits). wait_at y t.core l.at) waits) ∙ l.waits))
    keeps_follow (turn.loads_straight l) = absurd (true≢false (sym (l.waits (quiet.speculates t.core l.core l.comes.is_at.runs)) ∙ ap (λ (y : Waits). is_some (y.load t.core l.address l.width)) waits))
    keeps_follow (turn.stores_straight l) = absurd (true≢false (sym (l.waits (quiet.speculates t.core l.core l.comes.is_at.runs)) ∙ ap (λ (y : Waits). is_some (y.store t.core l.address l.width)) waits))
    keeps_follow (turn.is_early l) = keeps_same _ l.out_is (λ c at. at) (no_go NotHomefree)
    keeps_follow (turn.commits l) = keeps_commit l (end_at t.image (t.state.homefree + 1)) refl
    keeps_follow (turn.exits_loop l) = absurd (not_over _ _ l.out_is)
    keeps_follow (turn.faults l) = absurd (not_over _ _ l.out_is)

    pub keeps : turn.Acts t v w out → Keeps t u out
    keeps (turn.starts l) = keeps_start l
    keeps (turn.finds_none l) = keeps_same _ l.out_is (λ c at. at) (no_go NoEpoch)
    keeps (turn.restarts l) = absurd (true≢false (sym l.hurt ∙ quiet.unhurt t.core l.core l.runs))
    keeps (turn.is_told l) = absurd (stale_not t.next l.core.hart l.stale (hands l.core l.runs))
    keeps (turn.follows l) = keeps_follow l
