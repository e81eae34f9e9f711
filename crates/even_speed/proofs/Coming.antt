-- What a turn of a book makes of the cores.
use Rattle.std.proofs.Common.{◌≡◌, ◌≢◌, ℕ, ◌+◌, ◌<◌, ◌==◌, not, Bool, true, false, cond, List, [], ◌++◌, length, length-append, Option, Some, None, Result, IfOk, option_map, refl, sym, ap, subst, ◌∙◌, inl, inr, true≢false, arith, eq-eqb, ne_eqb, append_assoc}
use Rattle.std.proofs.lemmas.Option.{same_Some}
use Rattle.rv32_image.specs.Image.{LoadedImage, IsImage}
use Rattle.rv32_image.proofs.SmallFacts.{one_value}
use Rattle.rv32_exec.specs.declared.stop.Stop.TheVariants as stop
use Rattle.rv32_exec.specs.declared.sequential.End.{End}
use Rattle.rv32_exec.specs.declared.sequential.End.TheVariants.{Done, Exit, Fault}
use Rattle.rv32_exec.specs.Hart.{HartState, start_of, stepped}
use Rattle.rv32_exec.specs.Arrival.{after_number}
use Rattle.rv32_exec.specs.NextEvent.{next_event}
use Rattle.rv32_exec.specs.Sequential.{Ends, after_stop, epoch_outcome, exits}
use Rattle.run_ledger.specs.declared.counts.Counts.{Counts}
use Rattle.spec_history.specs.declared.entry.Entry.{Entry}
use Rattle.spec_history.specs.declared.entry.What.{What}
use Rattle.spec_history.specs.declared.entry.What.TheVariants as what
use Rattle.spec_history.specs.Effect.{after_load, after_store, effect_idle, effect_on}
use Rattle.spec_history.specs.FlatState.{CoreState, FlatState, begun}
use Rattle.spec_history.specs.Replay.{counts_of, replay, replay_from}
use Rattle.spec_history.proofs.OneEntry.Accesses.{load_counts}
use Rattle.spec_history.proofs.OneEntry.Going.{Going, homefree_run}
use Rattle.spec_history.proofs.Replay.Joining.{no_entry, splits}
use Rattle.spec_history.proofs.OneEntry.Keeping.{with_core_other, with_core_same}
use Rattle.spec_history.proofs.OneEntry.Progress.{outcome_there}
use Rattle.spec_history.proofs.Replay.Replays.{effect-on, effect-idle, replayed, one_legal}
use Rattle.violations.specs.View.{StoreView, Waits}
use Rattle.homefree.specs.declared.answer.Answer.{Answer}
use Rattle.homefree.specs.declared.answer.Answer.TheVariants.{Go, Again, Over}
use Rattle.homefree.specs.declared.answer.StopCause.{StopCause}
use Rattle.violations.specs.declared.step.WaitCause.{WaitCause}
use Rattle.violations.specs.declared.step.WaitCause.TheVariants as wait
use Rattle.homefree.specs.declared.fault.TurnFault.{TurnFault}
use Rattle.homefree.specs.BookView.{BookView}
use Rattle.homefree.specs.Driven.{arrival_of, driver}
use Rattle.homefree.specs.Hurts.{entry}
use Rattle.homefree.specs.InStep.{InStep}
use Rattle.homefree.specs.Turned.{Outcome, Turn, Turned, cause_of, does, left_or_over, turn_at}
use Rattle.homefree.specs.Turned as turn
use Rattle.even_speed.specs.Even.{restarts}
use Rattle.even_speed.specs.InOrder.{epoch_count, executed_in}
use Rattle.even_speed.specs.Timed.{Adds, Came, CameBy, From, GoesTo, Leads, Leaves, StaysAt, TakesEpoch}
use Rattle.even_speed.proofs.Moving.{AreCalm, CalmThen, calm_append, calm_then, hurts_calm, moves_same, moves_then, restarts_in}

-- ---- restarts

not_more : (n more : ℕ) → more ≡ 0 → not ((n + more) == n) ≡ false
not_more n more none = ap not (eq-eqb (n + more) n (omega (arith, none)))

one_more : (n more : ℕ) → more ≡ 1 → not ((n + more) == n) ≡ true
one_more n more one = ap not (ne_eqb (n + more) n (λ same. omega (arith, one, same)))

no_end : (b e : Bool) (x y : End) → b ≡ false → e ≡ false → cond b (Some x) (cond e (Some y) None) ≡ None
no_end b e x y is so = rw (is, so) refl

epochs_by : (s u : FlatState) (now : CoreState) (core : ℕ) (was : Option CoreState) → s.cores core ≡ was → TakesEpoch s u now was → TakesEpoch s u now (s.cores core)
epochs_by s u now core was is takes = subst (λ o. TakesEpoch s u now o) (sym is) takes

-- ---- a core that begins, or is told its hart

module _ (image : LoadedImage) (count core : ℕ) (s u : FlatState) (held : Option HartState) (restarted : Bool) (still : s.end ≡ None) where
  begins : s.cores core ≡ None → replay_from image count s (entry core (what.Start s.next_epoch)) ≡ Some u
      → GoesTo image s u core held restarted (start_of image s.next_epoch)
  begins idle replays =
      let is = sym (one_legal image count s u _ replays).1 in
      let on = effect-idle image s core (what.Start s.next_epoch) idle in
      subst (λ x. GoesTo image s x core held restarted (start_of image s.next_epoch)) (sym (is ∙ on)) (record {
        now = _;
        runs = with_core_same s.cores core _;
        hart_is = refl;
        unhurt = refl;
        from = subst (λ o. From image held restarted (start_of image s.next_epoch) o) (sym idle) refl;
        epochs = epochs_by s (effect_idle image s core (what.Start s.next_epoch)) (begun image s.next_epoch) core None idle (refl, refl);
        others = λ k other. moves_same _ _ (with_core_other s.cores core _ k other);
        homefree = refl;
        going = still;
      })

  begins_again : (c : CoreState) → s.cores core ≡ Some c → c.hurt ≡ true → restarted ≡ true → replay_from image count s (entry core what.Restart) ≡ Some u
      → GoesTo image s u core held restarted (start_of image c.epoch)
  begins_again c at hurt restart replays =
      let is = sym (one_legal image count s u _ replays).1 in
      let on = effect-on image s core what.Restart c at in
      subst (λ x. GoesTo image s x core held restarted (start_of image c.epoch)) (sym (is ∙ on)) (record {
        now = _;
        runs = with_core_same s.cores core _;
        hart_is = refl;
        unhurt = refl;
        from = subst (λ o. From image held restarted (start_of image c.epoch) o) (sym at)
            (λ same. (restart, refl), λ unhurt. absurd (true≢false (sym hurt ∙ unhurt)));
        epochs = epochs_by s (effect_on image s core c what.Restart) (begun image c.epoch) core (Some c) at (refl, refl);
        others = λ k other. moves_same _ _ (with_core_other s.cores core _ k other);
        homefree = refl;
        going = still;
      })

  is_told : (c : CoreState) → s.cores core ≡ Some c → c.hurt ≡ false → (held ≡ Some c.hart → ⊥) → u ≡ s → GoesTo image s u core held restarted c.hart
  is_told c at unhurt stale same =
      subst (λ x. GoesTo image s x core held restarted c.hart) (sym same) (record {
        now = c;
        runs = at;
        hart_is = refl;
        unhurt = unhurt;
        from = subst (λ o. From image held restarted c.hart o) (sym at)
            (λ hurt. absurd (true≢false (sym hurt ∙ unhurt)), λ free is. absurd (stale is));
        epochs = epochs_by s s c core (Some c) at (refl, refl);
        others = λ k other. moves_same _ _ refl;
        homefree = refl;
        going = still;
      })

  -- ---- an access, after the entries before it

  from_access : (c : CoreState) (hart : HartState) → s.cores core ≡ Some c → c.hurt ≡ false → restarted ≡ false → hart.done ≡ (next_event image c.hart).now.done + 1
      → From image held restarted hart (s.cores core)
  from_access c hart at unhurt none count =
      subst (λ o. From image held restarted hart o) (sym at) (λ hurt. absurd (true≢false (sym hurt ∙ unhurt)), λ free is. (none, count))

  loads : (c : CoreState) (address width value rd : ℕ) (signed : Bool) → s.cores core ≡ Some c → c.hurt ≡ false → restarted ≡ false
      → (next_event image c.hart).at ≡ stop.Load address width signed rd → CalmThen image count s u core c (record { by = core; what = what.Load address width value })
      → GoesTo image s u core held restarted (after_number (next_event image c.hart).now (next_event image c.hart).at value)
  loads c address width value rd signed at unhurt none event m =
      let d = m.calmed.own.core in
      let is = m.is ∙ effect-on image m.between core (what.Load address width value) d m.calmed.own.at in record {
        now = _;
        runs = ap (λ (x : FlatState). x.cores core) is ∙ with_core_same m.between.cores core _;
        hart_is = ap (λ (h : HartState). after_number (next_event image h).now (next_event image h).at value) m.calmed.own.hart;
        unhurt = m.calmed.own.unhurt;
        from = from_access c (after_number (next_event image c.hart).now (next_event image c.hart).at value) at unhurt none (load_counts image c.hart address width signed rd value event);
        epochs = epochs_by s u (after_load m.between.committed address width (after_number (next_event image d.hart).now (next_event image d.hart).at value) d) core (Some c) at (m.calmed.own.epoch, ap (λ (x : FlatState). x.next_epoch) is ∙ m.calmed.next_epoch);
        others = λ k other. moves_then _ _ _ (m.calmed.others k other) (moves_same _ _ (ap (λ (x : FlatState). x.cores k) is ∙ with_core_other m.between.cores core _ k other));
        homefree = ap (λ (x : FlatState). x.homefree) is ∙ m.calmed.homefree;
        going = ap (λ (x : FlatState). x.end) is ∙ m.legal.going;
      }

  stores : (c : CoreState) (address width value : ℕ) → s.cores core ≡ Some c → c.hurt ≡ false → restarted ≡ false
      → CalmThen image count s u core c (record { by = core; what = what.Store address width value })
      → GoesTo image s u core held restarted (stepped (next_event image c.hart).now)
  stores c address width value at unhurt none m =
      let d = m.calmed.own.core in
      let is = m.is ∙ effect-on image m.between core (what.Store address width value) d m.calmed.own.at in record {
        now = _;
        runs = ap (λ (x : FlatState). x.cores core) is ∙ with_core_same m.between.cores core _;
        hart_is = ap (λ (h : HartState). stepped (next_event image h).now) m.calmed.own.hart;
        unhurt = m.calmed.own.unhurt;
        from = from_access c (stepped (next_event image c.hart).now) at unhurt none refl;
        epochs = epochs_by s u (after_store address width value (stepped (next_event image d.hart).now) d) core (Some c) at (m.calmed.own.epoch, ap (λ (x : FlatState). x.next_epoch) is ∙ m.calmed.next_epoch);
        others = λ k other. moves_then _ _ _ (m.calmed.others k other) (moves_same _ _ (ap (λ (x : FlatState). x.cores k) is ∙ with_core_other m.between.cores core _ k other));
        homefree = ap (λ (x : FlatState). x.homefree) is ∙ m.calmed.homefree;
        going = ap (λ (x : FlatState). x.end) is ∙ m.legal.going;
      }

  -- ---- a commit

  counts : Going image count s → (c : CoreState) → s.cores core ≡ Some c → c.epoch ≡ s.homefree → c.hurt ≡ false → (next_event image c.hart).at ≡ stop.Ended
      → epoch_count image s.homefree ≡ (next_event image c.hart).now.done
  counts going c at homefree unhurt ends =
      let run = homefree_run image count s core c going at homefree unhurt in
      let outcome = outcome_there image s.homefree c.hart going.shown.before run.after (Ends (next_event image c.hart).now run.after) run.runs
      (ap (after_stop (next_event image c.hart).now run.after) ends) tt in
      ap (λ r. executed_in (epoch_outcome image s.homefree r.bytes)) going.shown.done ∙ ap executed_in outcome

  commits : Going image count s → (c : CoreState) → s.cores core ≡ Some c → c.epoch ≡ s.homefree → c.hurt ≡ false → (next_event image c.hart).at ≡ stop.Ended
      → CalmThen image count s u core c (record { by = core; what = what.Commit }) → Leaves image s u core
  commits going c at homefree unhurt ends m =
      let is = m.is ∙ effect-on image m.between core what.Commit m.calmed.own.core m.calmed.own.at in record {
        was = c;
        runs = at;
        unhurt = unhurt;
        idle = ap (λ (x : FlatState). x.cores core) is ∙ with_core_same m.between.cores core None;
        others = λ k other. moves_then _ _ _ (m.calmed.others k other) (moves_same _ _ (ap (λ (x : FlatState). x.cores k) is ∙ with_core_other m.between.cores core None k other));
        epoch = homefree;
        homefree = ap (λ (x : FlatState). x.homefree) is ∙ ap (λ n. n + 1) m.calmed.homefree;
        next_epoch = ap (λ (x : FlatState). x.next_epoch) is ∙ m.calmed.next_epoch;
        count = counts going c at homefree unhurt ends;
      }

  -- it wasn't the last epoch
  goes_on : (c : CoreState) → exits image (next_event image c.hart).now ≡ false → CalmThen image count s u core c (record { by = core; what = what.Commit })
      → (s.homefree + 1 == image.epochs) ≡ false → u.end ≡ None
  goes_on c stays m last =
      ap (λ (x : FlatState). x.end) (m.is ∙ effect-on image m.between core what.Commit m.calmed.own.core m.calmed.own.at)
      ∙ no_end _ _ _ _ (ap (λ (h : HartState). exits image (next_event image h).now) m.calmed.own.hart ∙ stays) (ap (λ n. n + 1 == image.epochs) m.calmed.homefree ∙ last)

  left_by : (n : ℕ) (b : Bool) → (s.homefree + 1 == image.epochs) ≡ b → u.homefree ≡ n → Leaves image s u core → ((s.homefree + 1 == image.epochs) ≡ false → u.end ≡ None)
      → Came image s u core held restarted (left_or_over (cond b (Some (Done n)) None))
  left_by n true so is leaves goes = (is, inl leaves)
  left_by n false so is leaves goes = (goes so, leaves)

-- ---- by the cases of a turn

same_held : (image : LoadedImage) (held : Option HartState) (hart : HartState) → turn.IsStale (option_map (arrival_of image) held) hart → held ≡ Some hart → ⊥
same_held image None hart stale is = absurd cc
same_held image (Some h) hart stale is = stale (let same : h ≡ hart = cc in same)

calm_publish : (t : Turn) (c : CoreState) (hurt : ℕ → Bool) (b : Bool) → c.straight ≡ b → AreCalm t.core (turn.publish_of t c hurt)
calm_publish t c hurt true is = rw is tt
calm_publish t c hurt false is = rw is (calm_append t.core _ _ (hurts_calm t.core hurt _ t.cores) (refl, tt, tt))

waits_so : (image : LoadedImage) (s u : FlatState) (core : ℕ) (held : Option HartState) (restarted : Bool) (cause : WaitCause) → StaysAt s u core
    → Came image s u core held restarted (Again (cause_of cause))
waits_so image s u core held restarted wait.NoWay stays = stays
waits_so image s u core held restarted wait.OrbFull stays = stays
waits_so image s u core held restarted wait.OrbBusy stays = stays

module _ (t : Turn) (v w : StoreView) (out : Outcome) (u : FlatState) (held : Option HartState) (restarted : Bool) (in_hand : t.next ≡ option_map (arrival_of t.image) held)
    (still : t.state.end ≡ None) (going : Going t.image t.cores t.state) where
  abbrev ComesTo : Outcome → Type 0
  ComesTo o = replay_from t.image t.cores t.state o.entries ≡ Some u → ((counts_of o.entries).restarts ≡ 0 → restarted ≡ false)
      → ((counts_of o.entries).restarts ≡ 1 → restarted ≡ true) → Came t.image t.state u t.core held restarted o.answer

  same : replay_from t.image t.cores t.state [] ≡ Some u → u ≡ t.state
  same replays = sym (same_Some t.state u (sym (no_entry t.image t.cores t.state) ∙ replays))

  stays : (c : CoreState) → t.state.cores t.core ≡ Some c → c.hurt ≡ false → c.epoch ≢ t.state.homefree → replay_from t.image t.cores t.state [] ≡ Some u
      → StaysAt t.state u t.core
  stays c at unhurt isnt replays = record {
    was = c;
    runs = at;
    unhurt = unhurt;
    later = omega (arith, (going.kept.core t.core c at).from, isnt);
    going = still;
    same = same replays;
  }

  abbrev last : What → Entry
  last x = record { by = t.core; what = x }

  then_last : (xs : List Entry) (x : What) (c : CoreState) → AreCalm t.core xs → t.state.cores t.core ≡ Some c → c.hurt ≡ false
      → replay_from t.image t.cores t.state (xs ++ entry t.core x) ≡ Some u → CalmThen t.image t.cores t.state u t.core c (last x)
  then_last xs x c calm at unhurt replays = calm_then t.image t.cores t.core xs (last x) calm t.state u c at unhurt replays

  calm_hurts : (hurt : ℕ → Bool) → AreCalm t.core (turn.hurts_of t hurt)
  calm_hurts hurt = hurts_calm t.core hurt _ t.cores

  loads_after : (c : CoreState) (xs : List Entry) (address width value rd : ℕ) (signed : Bool) → AreCalm t.core xs → turn.IsAt t c (stop.Load address width signed rd)
      → ComesTo (does (xs ++ entry t.core (what.Load address width value)) (Go (turn.loaded_hart t.image c value)))
  loads_after c xs address width value rd signed calm is_at replays none one =
      loads t.image t.cores t.core t.state u held restarted still c address width value rd signed is_at.runs is_at.unhurt (none (restarts_in t.core xs (last _) calm)) is_at.event
      (then_last xs _ c calm is_at.runs is_at.unhurt replays)

  stores_after : (c : CoreState) (xs : List Entry) (address width value : ℕ) → AreCalm t.core xs → turn.IsAt t c (stop.Store address width value)
      → ComesTo (does (xs ++ entry t.core (what.Store address width value)) (Go (turn.stored_hart t.image c)))
  stores_after c xs address width value calm is_at replays none one =
      stores t.image t.cores t.core t.state u held restarted still c address width value is_at.runs is_at.unhurt (none (restarts_in t.core xs (last _) calm))
      (then_last xs _ c calm is_at.runs is_at.unhurt replays)

  both : (xs ys : List Entry) (x : What) (answer : Answer) → ComesTo (does ((xs ++ ys) ++ entry t.core x) answer) → ComesTo (does (xs ++ (ys ++ entry t.core x)) answer)
  both xs ys x answer comes = subst (λ es. ComesTo (does es answer)) (append_assoc xs ys (entry t.core x)) comes

  over_exit : (epoch : ℕ) (entries : List Entry) → ComesTo (does entries (Over (Exit epoch)))
  over_exit epoch entries replays none one = tt

  over_fault : (epoch cause pc : ℕ) (entries : List Entry) → ComesTo (does entries (Over (Fault epoch cause pc)))
  over_fault epoch cause pc entries replays none one = tt

  so : (o : Outcome) → out ≡ o → ComesTo o → ComesTo out
  so o is comes = subst ComesTo (sym is) comes

  follows : turn.Follows t v w out → ComesTo out
  follows (turn.loads l) = so _ l.out_is (loads_after l.core _ l.address l.width l.value l.rd l.signed (calm_hurts l.hurt) l.comes.is_at)
  follows (turn.stores l) = so _ l.out_is (stores_after l.core _ l.address l.width l.value (calm_hurts l.hurt) l.comes.is_at)
  follows (turn.waits l) = so _ l.out_is (λ replays none one. waits_so t.image t.state u t.core held restarted l.cause (stays l.core l.comes.is_at.runs l.comes.is_at.unhurt l.later replays))
  follows (turn.loads_straight l) = so _ l.out_is (both _ _ _ (Go (turn.loaded_hart t.image l.core l.value)) (loads_after l.core _ l.address l.width l.value l.rd l.signed
      (calm_append t.core _ _ (calm_publish t l.core l.first l.core.straight refl) (calm_hurts l.hurt)) l.comes.is_at))
  follows (turn.stores_straight l) = so _ l.out_is (both _ _ _ (Go (turn.stored_hart t.image l.core)) (stores_after l.core _ l.address l.width l.value
      (calm_append t.core _ _ (calm_publish t l.core l.first l.core.straight refl) (calm_hurts l.hurt)) l.comes.is_at))
  follows (turn.is_early l) = so _ l.out_is (λ replays none one. stays l.core l.comes.runs l.comes.unhurt l.later replays)
  follows (turn.commits l) = so _ l.out_is (λ replays none one.
      let m = then_last _ what.Commit l.core (calm_hurts l.hurt) l.comes.is_at.runs l.comes.is_at.unhurt replays in
      let leaves = commits t.image t.cores t.core t.state u held restarted still going l.core l.comes.is_at.runs l.comes.homefree l.comes.is_at.unhurt l.comes.is_at.event m in
      left_by t.image t.cores t.core t.state u held restarted still (t.state.homefree + 1) (t.state.homefree + 1 == t.image.epochs) refl leaves.homefree leaves
      (goes_on t.image t.cores t.core t.state u held restarted still l.core l.stays m))
  follows (turn.exits_loop l) = so _ l.out_is (over_exit l.core.epoch _)
  follows (turn.faults l) = so _ l.out_is (over_fault l.core.epoch l.cause l.pc _)

  acts : turn.Acts t v w out → ComesTo out
  acts (turn.starts l) = so _ l.out_is (λ replays none one. begins t.image t.cores t.core t.state u held restarted still l.idle replays)
  acts (turn.finds_none l) = so _ l.out_is (λ replays none one. record { idle = l.idle; left = l.left; going = still; same = same replays })
  acts (turn.restarts l) = so _ l.out_is (λ replays none one. begins_again t.image t.cores t.core t.state u held restarted still l.core l.runs l.hurt (one (restarts_in t.core [] (last what.Restart) tt)) replays)
  acts (turn.is_told l) = so _ l.out_is (λ replays none one. is_told t.image t.cores t.core t.state u held restarted still l.core l.runs l.unhurt
      (same_held t.image held l.core.hart (subst (λ n. turn.IsStale n l.core.hart) in_hand l.stale)) (same replays))
  acts (turn.follows l) = follows l

  -- ---- how many entries a turn makes

  abbrev AddsTo : Outcome → Type 0
  AddsTo o = (stopped : Option StopCause) (n : ℕ) → Adds stopped (t.state.cores t.core) held n (n + length o.entries) o.answer

  adds_so : (o : Outcome) → out ≡ o → AddsTo o → AddsTo out
  adds_so o is adds = subst AddsTo (sym is) adds

  goes_add : (xs : List Entry) (x : What) (hart : HartState) → AddsTo (does (xs ++ entry t.core x) (Go hart))
  goes_add xs x hart stopped n = inl (omega (arith, length-append xs (entry t.core x)))

  both_add : (xs ys : List Entry) (x : What) (hart : HartState) → AddsTo (does (xs ++ (ys ++ entry t.core x)) (Go hart))
  both_add xs ys x hart stopped n = inl (omega (arith, length-append xs (ys ++ entry t.core x), length-append ys (entry t.core x)))

  left_adds : (o : Option End) (stopped : Option StopCause) (n m : ℕ) → n < m → Adds stopped (t.state.cores t.core) held n m (left_or_over o)
  left_adds None stopped n m more = more
  left_adds (Some end) stopped n m more = tt

  follows_adds : turn.Follows t v w out → AddsTo out
  follows_adds (turn.loads l) = adds_so _ l.out_is (goes_add _ _ (turn.loaded_hart t.image l.core l.value))
  follows_adds (turn.stores l) = adds_so _ l.out_is (goes_add _ _ (turn.stored_hart t.image l.core))
  follows_adds (turn.waits l) = adds_so _ l.out_is (λ stopped n. omega arith)
  follows_adds (turn.loads_straight l) = adds_so _ l.out_is (both_add _ _ _ (turn.loaded_hart t.image l.core l.value))
  follows_adds (turn.stores_straight l) = adds_so _ l.out_is (both_add _ _ _ (turn.stored_hart t.image l.core))
  follows_adds (turn.is_early l) = adds_so _ l.out_is (λ stopped n. omega arith)
  follows_adds (turn.commits l) = adds_so _ l.out_is (λ stopped n. left_adds _ stopped n _ (omega (arith, length-append (turn.hurts_of t l.hurt) (entry t.core what.Commit))))
  follows_adds (turn.exits_loop l) = adds_so _ l.out_is (λ stopped n. tt)
  follows_adds (turn.faults l) = adds_so _ l.out_is (λ stopped n. tt)

  acts_add : turn.Acts t v w out → AddsTo out
  acts_add (turn.starts l) = adds_so _ l.out_is (λ stopped n. inl (omega arith))
  acts_add (turn.finds_none l) = adds_so _ l.out_is (λ stopped n. omega arith)
  acts_add (turn.restarts l) = adds_so _ l.out_is (λ stopped n. inl (omega arith))
  acts_add (turn.is_told l) = adds_so _ l.out_is (λ stopped n. inr (record {
    core = l.core;
    runs = l.runs;
    unhurt = l.unhurt;
    stale = same_held t.image held l.core.hart (subst (λ next. turn.IsStale next l.core.hart) in_hand l.stale);
  }))
  acts_add (turn.follows l) = follows_adds l

-- ---- a turn of a book

was_over : (image : LoadedImage) (count core : ℕ) (history : List Entry) (s u : FlatState) (held : Option HartState) (restarted : Bool) (end : End) → IsImage image
    → replay image count history ≡ Some s → s.end ≡ Some end → u ≡ s → Came image s u core held restarted (Over end)
was_over image count core history s u held restarted (Done n) is_image replays over same =
    let ended = (replayed image count history s is_image replays).ends (Done n) over in
    (ap (λ (x : FlatState). x.homefree) same ∙ (ended.at_homefree.1 ∙ sym ended.at_homefree.0), inr (record { over = over; idle = ended.idle core; homefree = ap (λ (x : FlatState). x.homefree) same }))
was_over image count core history s u held restarted (Exit epoch) is_image replays over same = tt
was_over image count core history s u held restarted (Fault epoch cause pc) is_image replays over same = tt

module _ {S : Type 0} (view : S → StoreView) (waits : S → Waits) (old new : BookView S) (shares shares' : Counts) (core : ℕ) (held : Option HartState) (result : Result Answer TurnFault)
    (i : InStep view old) (j : InStep view new) where
  abbrev Comes' : Result Answer TurnFault → Type 0
  Comes' r = CameBy old.image i.state j.state core held (restarts (driver old shares) (driver new shares')) r

  same_state : new ≡ old → j.state ≡ i.state
  same_state is = one_value (replay old.image old.cores old.history) j.state i.state
      (subst (λ (b : BookView S). replay b.image b.cores b.history ≡ Some j.state) is j.replays) i.replays

  acted : turn.Acting view waits old new i.state shares shares' core (option_map (arrival_of old.image) held) result → Comes' result
  acted a =
      let g = a.grows in
      let same : replay new.image new.cores new.history ≡ replay old.image old.cores (old.history ++ a.out.entries) = rw (g.image, g.cores, g.history) refl in
      let all : replay old.image old.cores (old.history ++ a.out.entries) ≡ Some j.state = sym same ∙ j.replays in
      let parts = splits old.image old.cores old.history a.out.entries j.state all in
      let first = one_value (replay old.image old.cores old.history) parts.between i.state parts.first_replays i.replays in
      let later : replay_from old.image old.cores i.state a.out.entries ≡ Some j.state =
      subst (λ x. replay_from old.image old.cores x a.out.entries ≡ Some j.state) first parts.later_replays in
      let more : new.totals.restarts ≡ old.totals.restarts + (counts_of a.out.entries).restarts = ap (λ (c : Counts). c.restarts) g.totals in
      let counted = λ (n : ℕ). not (n == old.totals.restarts) in
      subst Comes' (sym a.answer_is)
      (acts (turn_at waits old i.state core (option_map (arrival_of old.image) held)) a.reserved (view new.store) a.out j.state held
      (restarts (driver old shares) (driver new shares')) refl a.may.going ((replayed old.image old.cores old.history i.state i.is_image i.replays).going a.may.going) a.acts later
      (λ none. ap counted more ∙ not_more old.totals.restarts _ none) (λ one. ap counted more ∙ one_more old.totals.restarts _ one))

  turned_comes : Turned view waits old i.state shares core (option_map (arrival_of old.image) held) result new shares' → Comes' result
  turned_comes (turn.over o same same') =
      subst Comes' (sym o.answer_is) (was_over old.image old.cores core old.history i.state j.state held (restarts (driver old shares) (driver new shares')) o.end i.is_image i.replays o.over (same_state same))
  turned_comes (turn.stopped o same same') = subst Comes' (sym o.answer_is) tt
  turned_comes (turn.full o same same') = subst Comes' (sym o.answer_is) tt
  turned_comes (turn.no_memory may same grows is) = subst Comes' (sym is) tt
  turned_comes (turn.acts a) = acted a

  abbrev Adds' : Result Answer TurnFault → Type 0
  Adds' r = IfOk r (Adds old.stopped (i.state.cores core) held (length old.history) (length new.history))

  turned_adds : Turned view waits old i.state shares core (option_map (arrival_of old.image) held) result new shares' → Adds' result
  turned_adds (turn.over o same same') = subst Adds' (sym o.answer_is) tt
  turned_adds (turn.stopped o same same') = subst Adds' (sym o.answer_is) o.stopped
  turned_adds (turn.full o same same') = subst Adds' (sym o.answer_is) tt
  turned_adds (turn.no_memory may same grows is) = subst Adds' (sym is) tt
  turned_adds (turn.acts a) =
      let grown : length new.history ≡ length old.history + length a.out.entries = ap length a.grows.history ∙ length-append old.history a.out.entries in
      subst Adds' (sym a.answer_is) (subst (λ n. Adds old.stopped (i.state.cores core) held (length old.history) n a.out.answer) (sym grown)
      (acts_add (turn_at waits old i.state core (option_map (arrival_of old.image) held)) a.reserved (view new.store) a.out j.state held
      (restarts (driver old shares) (driver new shares')) refl a.may.going ((replayed old.image old.cores old.history i.state i.is_image i.replays).going a.may.going) a.acts old.stopped (length old.history)))

  turned_stopped : Turned view waits old i.state shares core (option_map (arrival_of old.image) held) result new shares' → new.stopped ≡ old.stopped
  turned_stopped (turn.over o same same') = ap (λ (b : BookView S). b.stopped) same
  turned_stopped (turn.stopped o same same') = ap (λ (b : BookView S). b.stopped) same
  turned_stopped (turn.full o same same') = ap (λ (b : BookView S). b.stopped) same
  turned_stopped (turn.no_memory may same grows is) = grows.stopped
  turned_stopped (turn.acts a) = a.grows.stopped

  pub leads : Turned view waits old i.state shares core (option_map (arrival_of old.image) held) result new shares' → Leads (driver old shares) (driver new shares') core held result
  leads turned = record {
    before = i.state;
    after = j.state;
    led = i.replays;
    leads = j.replays;
    came = turned_comes turned;
    adds = turned_adds turned;
    few = omega (arith, j.within, j.most);
    stopped = turned_stopped turned;
  }
