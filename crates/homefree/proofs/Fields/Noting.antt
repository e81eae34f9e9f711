-- What each note makes of the fields: what its entry makes of the flat machine's state.
use Rattle.std.proofs.Common.{◌≡◌, ◌≤◌, ℕ, ◌+◌, ◌==◌, ◌≢◌, Bool, true, cond, ◌++◌, length, Option, Some, None, option_map, vec_len, vec_capacity, refl, sym, ap, subst, ◌∙◌, inl, inr, arith, eq-eqb, ne_eqb}
use Rattle.std.proofs.lemmas.Bool.{cases_eq, and_parts, or_right}
use Rattle.rv32_image.proofs.SmallFacts.{or_false}
use Rattle.rv32_exec.specs.declared.stop.Stop.{Stop}
use Rattle.rv32_exec.specs.declared.stop.Stop.TheVariants as stop
use Rattle.rv32_exec.specs.Arrival.{Arrival, after_number, after_loading}
use Rattle.rv32_exec.specs.Hart.{HartState, stepped}
use Rattle.rv32_exec.specs.NextEvent.{next_event}
use Rattle.run_ledger.specs.declared.counts.Counts.{Counts}
use Rattle.run_ledger.specs.Counts.{sum_of}
use Rattle.spec_history.specs.declared.entry.What.TheVariants.{Start, Load, Store, Hurt, Cancel, Restart, Publish, Commit, Fault}
use Rattle.spec_history.specs.FlatState.{CoreState, begun, end_after}
use Rattle.spec_history.specs.Effect.{hurt_at, idle_at}
use Rattle.spec_history.specs.Refusal.{runs_and}
use Rattle.spec_history.proofs.OneEntry.Legal.{legal_entry}
use Rattle.rv32_exec.specs.declared.sequential.End.TheVariants as end_is
use Rattle.spec_history.specs.Replay.{count_of}
use Rattle.spec_history.proofs.Replay.Replays.{effect-on, effect-idle}
use Rattle.homefree.specs.declared.register.Register.{Register}
use Rattle.homefree.specs.declared.register.Running.{Running}
use Rattle.homefree.specs.AtStop.{IsAtStop}
use Rattle.homefree.specs.Counted.{as_counts}
use Rattle.homefree.specs.Hurts.{entry}
use Rattle.homefree.specs.Kept.{Shows, running_at, kept_of}
use Rattle.homefree.specs.Steps.{Steps}
use Rattle.homefree.proofs.Fields.Steps.{step, sum_none, four_same, none_kept, core_of, kept_with}

-- ---- one more of each

pub one_load : (a : Counts) (address width value : ℕ) → record a { loads = a.loads + 1 } ≡ sum_of a (as_counts (count_of (Load address width value)))
one_load a address width value = four_same _ _ _ _ _ _ _ _ (omega arith) (omega arith) (omega arith) (omega arith)

pub one_store : (a : Counts) (address width value : ℕ) → record a { stores = a.stores + 1 } ≡ sum_of a (as_counts (count_of (Store address width value)))
one_store a address width value = four_same _ _ _ _ _ _ _ _ (omega arith) (omega arith) (omega arith) (omega arith)

pub one_restart : (a : Counts) → record a { restarts = a.restarts + 1 } ≡ sum_of a (as_counts (count_of Restart))
one_restart a = four_same _ _ _ _ _ _ _ _ (omega arith) (omega arith) (omega arith) (omega arith)

pub one_commit : (a : Counts) → record a { commits = a.commits + 1 } ≡ sum_of a (as_counts (count_of Commit))
one_commit a = four_same _ _ _ _ _ _ _ _ (omega arith) (omega arith) (omega arith) (omega arith)

-- ---- an epoch begins

pub started : (old new : Register) (shares : Counts) (core : ℕ) → running_at old.running.items core ≡ None
    → new.image ≡ old.image → length new.running.items ≡ length old.running.items → new.history.items ≡ old.history.items ++ entry core (Start old.next_epoch)
    → vec_capacity old.history ≤ vec_capacity new.history → vec_len new.history ≡ vec_len old.history + 1 → new.totals ≡ old.totals
    → new.homefree ≡ old.homefree → new.next_epoch ≡ old.next_epoch + 1 → new.end ≡ old.end
    → ((k : ℕ) → running_at new.running.items k ≡ cond (k == core) (Some (kept_of (begun old.image old.next_epoch))) (running_at old.running.items k))
    → Steps old new shares shares (entry core (Start old.next_epoch))
started old new shares core idle image cores history room used totals homefree next_epoch end each =
    step old new shares shares (record { by = core; what = Start old.next_epoch }) image cores history room used (totals ∙ sym (sum_none old.totals)) (sym (sum_none shares))
    (λ s whole legal was.
    let idle_s = none_kept (s.cores core) (sym (was.running core) ∙ idle) in
    subst (Shows new) (sym (effect-idle old.image s core (Start old.next_epoch) idle_s)) (record {
      homefree = homefree ∙ was.homefree;
      next_epoch = next_epoch ∙ ap (λ n. n + 1) was.next_epoch;
      end = end ∙ was.end;
      running = kept_with (running_at old.running.items) (running_at new.running.items) s.cores core (Some (kept_of (begun old.image old.next_epoch))) (Some (begun old.image old.next_epoch))
          each was.running refl;
    }))

pub restarted : (old new : Register) (shares shares' : Counts) (core epoch : ℕ) → (now : Running) × (running_at old.running.items core ≡ Some now) × (now.epoch ≡ epoch)
    → new.image ≡ old.image → length new.running.items ≡ length old.running.items → new.history.items ≡ old.history.items ++ entry core Restart
    → vec_capacity old.history ≤ vec_capacity new.history → vec_len new.history ≡ vec_len old.history + 1 → new.totals ≡ record old.totals { restarts = old.totals.restarts + 1 } → shares' ≡ record shares { restarts = shares.restarts + 1 }
    → new.homefree ≡ old.homefree → new.next_epoch ≡ old.next_epoch → new.end ≡ old.end
    → ((k : ℕ) → running_at new.running.items k ≡ cond (k == core) (Some (kept_of (begun old.image epoch))) (running_at old.running.items k))
    → Steps old new shares shares' (entry core Restart)
restarted old new shares shares' core epoch runs image cores history room used totals held homefree next_epoch end each =
    step old new shares shares' (record { by = core; what = Restart }) image cores history room used (totals ∙ one_restart old.totals) (held ∙ one_restart shares)
    (λ s whole legal was.
    let found = core_of old s core runs.0 was runs.1 in
    let same : epoch ≡ (found.0).epoch = sym (ap (λ (r : Running). r.epoch) found.2 ∙ runs.2) in
    subst (Shows new) (sym (effect-on old.image s core Restart found.0 found.1)) (record {
      homefree = homefree ∙ was.homefree;
      next_epoch = next_epoch ∙ was.next_epoch;
      end = end ∙ was.end;
      running = kept_with (running_at old.running.items) (running_at new.running.items) s.cores core (Some (kept_of (begun old.image epoch))) (Some (begun old.image (found.0).epoch))
          each was.running (ap (λ n. Some (kept_of (begun old.image n))) same);
    }))

-- ---- accesses

-- the caller's hart is set, and it runs on
goes_on : (c : CoreState) (now : Running) (hart there : HartState) → kept_of c ≡ now → hart ≡ there
    → (let x : Running = record now { hart = hart } in x) ≡ record { epoch = c.epoch; hart = there; straight = c.straight; hurt = c.hurt }
goes_on c now hart there is same = rw (same, ← is) refl

pub hart_is : (r : Register) (core : ℕ) (now : Running) (arrived : Arrival) (at : Stop) (c : CoreState) (value : ℕ) → IsAtStop r core now arrived at → kept_of c ≡ now
    → after_loading arrived value ≡ after_number (next_event r.image c.hart).now (next_event r.image c.hart).at value
hart_is r core now arrived at c value is_at is =
    let base : arrived.base ≡ c.hart = is_at.base ∙ ap (λ (x : Running). x.hart) (sym is) in
    rw (is_at.hart, is_at.event, base) refl

pub stored_is : (r : Register) (core : ℕ) (now : Running) (arrived : Arrival) (at : Stop) (c : CoreState) → IsAtStop r core now arrived at → kept_of c ≡ now
    → stepped arrived.now ≡ stepped (next_event r.image c.hart).now
stored_is r core now arrived at c is_at is =
    let base : arrived.base ≡ c.hart = is_at.base ∙ ap (λ (x : Running). x.hart) (sym is) in
    rw (is_at.hart, base) refl

pub loaded : (old new : Register) (shares shares' : Counts) (core : ℕ) (now : Running) (arrived : Arrival) (at : Stop) (address width value : ℕ) (hart : HartState) → IsAtStop old core now arrived at
    → hart ≡ after_loading arrived value
    → new.image ≡ old.image → length new.running.items ≡ length old.running.items → new.history.items ≡ old.history.items ++ entry core (Load address width value)
    → vec_capacity old.history ≤ vec_capacity new.history → vec_len new.history ≡ vec_len old.history + 1 → new.totals ≡ record old.totals { loads = old.totals.loads + 1 } → shares' ≡ record shares { loads = shares.loads + 1 }
    → new.homefree ≡ old.homefree → new.next_epoch ≡ old.next_epoch → new.end ≡ old.end
    → ((k : ℕ) → running_at new.running.items k ≡ cond (k == core) (Some (record now { hart = hart })) (running_at old.running.items k))
    → Steps old new shares shares' (entry core (Load address width value))
loaded old new shares shares' core now arrived at address width value hart is_at hart_at image cores history room used totals held homefree next_epoch end each =
    step old new shares shares' (record { by = core; what = Load address width value }) image cores history room used (totals ∙ one_load old.totals address width value) (held ∙ one_load shares address width value)
    (λ s whole legal was.
    let found = core_of old s core now was is_at.runs in
    let c = found.0 in
    let there = hart_at ∙ hart_is old core now arrived at c value is_at found.2 in
    subst (Shows new) (sym (effect-on old.image s core (Load address width value) c found.1)) (record {
      homefree = homefree ∙ was.homefree;
      next_epoch = next_epoch ∙ was.next_epoch;
      end = end ∙ was.end;
      running = kept_with (running_at old.running.items) (running_at new.running.items) s.cores core (Some (record now { hart = hart })) (Some _)
          each was.running (ap Some (goes_on c now hart _ found.2 there));
    }))

pub stored_on : (old new : Register) (shares shares' : Counts) (core : ℕ) (now : Running) (arrived : Arrival) (address width value : ℕ) (hart : HartState) → IsAtStop old core now arrived (stop.Store address width value)
    → hart ≡ stepped arrived.now
    → new.image ≡ old.image → length new.running.items ≡ length old.running.items → new.history.items ≡ old.history.items ++ entry core (Store address width value)
    → vec_capacity old.history ≤ vec_capacity new.history → vec_len new.history ≡ vec_len old.history + 1 → new.totals ≡ record old.totals { stores = old.totals.stores + 1 } → shares' ≡ record shares { stores = shares.stores + 1 }
    → new.homefree ≡ old.homefree → new.next_epoch ≡ old.next_epoch → new.end ≡ old.end
    → ((k : ℕ) → running_at new.running.items k ≡ cond (k == core) (Some (record now { hart = hart })) (running_at old.running.items k))
    → Steps old new shares shares' (entry core (Store address width value))
stored_on old new shares shares' core now arrived address width value hart is_at hart_at image cores history room used totals held homefree next_epoch end each =
    step old new shares shares' (record { by = core; what = Store address width value }) image cores history room used (totals ∙ one_store old.totals address width value) (held ∙ one_store shares address width value)
    (λ s whole legal was.
    let found = core_of old s core now was is_at.runs in
    let c = found.0 in
    let there = hart_at ∙ stored_is old core now arrived (stop.Store address width value) c is_at found.2 in
    subst (Shows new) (sym (effect-on old.image s core (Store address width value) c found.1)) (record {
      homefree = homefree ∙ was.homefree;
      next_epoch = next_epoch ∙ was.next_epoch;
      end = end ∙ was.end;
      running = kept_with (running_at old.running.items) (running_at new.running.items) s.cores core (Some (record now { hart = hart })) (Some _)
          each was.running (ap Some (goes_on c now hart _ found.2 there));
    }))

-- ---- a publish, a commit and a fault

goes_straight : (c : CoreState) (now : Running) → kept_of c ≡ now
    → (let x : Running = record now { straight = true } in x) ≡ record { epoch = c.epoch; hart = c.hart; straight = true; hurt = c.hurt }
goes_straight c now is = rw (← is) refl

pub published : (old new : Register) (shares : Counts) (core : ℕ) (now : Running) → running_at old.running.items core ≡ Some now
    → new.image ≡ old.image → length new.running.items ≡ length old.running.items → new.history.items ≡ old.history.items ++ entry core Publish
    → vec_capacity old.history ≤ vec_capacity new.history → vec_len new.history ≡ vec_len old.history + 1 → new.totals ≡ old.totals
    → new.homefree ≡ old.homefree → new.next_epoch ≡ old.next_epoch → new.end ≡ old.end
    → ((k : ℕ) → running_at new.running.items k ≡ cond (k == core) (Some (record now { straight = true })) (running_at old.running.items k))
    → Steps old new shares shares (entry core Publish)
published old new shares core now runs image cores history room used totals homefree next_epoch end each =
    step old new shares shares (record { by = core; what = Publish }) image cores history room used (totals ∙ sym (sum_none old.totals)) (sym (sum_none shares))
    (λ s whole legal was.
    let found = core_of old s core now was runs in
    let c = found.0 in
    let kept = goes_straight c now found.2 in
    subst (Shows new) (sym (effect-on old.image s core Publish c found.1)) (record {
      homefree = homefree ∙ was.homefree;
      next_epoch = next_epoch ∙ was.next_epoch;
      end = end ∙ was.end;
      running = kept_with (running_at old.running.items) (running_at new.running.items) s.cores core (Some (record now { straight = true })) (Some _) each was.running (ap Some kept);
    }))

pub now_is : (r : Register) (core : ℕ) (now : Running) (arrived : Arrival) (at : Stop) (c : CoreState) → IsAtStop r core now arrived at → kept_of c ≡ now
    → arrived.now ≡ (next_event r.image c.hart).now
now_is r core now arrived at c is_at is =
    let base : arrived.base ≡ c.hart = is_at.base ∙ ap (λ (x : Running). x.hart) (sym is) in
    is_at.hart ∙ ap (λ h. (next_event r.image h).now) base

pub committed : (old new : Register) (shares shares' : Counts) (core : ℕ) (now : Running) (arrived : Arrival) → IsAtStop old core now arrived stop.Ended
    → new.image ≡ old.image → length new.running.items ≡ length old.running.items → new.history.items ≡ old.history.items ++ entry core Commit
    → vec_capacity old.history ≤ vec_capacity new.history → vec_len new.history ≡ vec_len old.history + 1 → new.totals ≡ record old.totals { commits = old.totals.commits + 1 } → shares' ≡ record shares { commits = shares.commits + 1 }
    → new.homefree ≡ old.homefree + 1 → new.next_epoch ≡ old.next_epoch → new.end ≡ end_after old.image arrived.now old.homefree
    → ((k : ℕ) → running_at new.running.items k ≡ cond (k == core) None (running_at old.running.items k))
    → Steps old new shares shares' (entry core Commit)
committed old new shares shares' core now arrived is_at image cores history room used totals held homefree next_epoch end each =
    step old new shares shares' (record { by = core; what = Commit }) image cores history room used (totals ∙ one_commit old.totals) (held ∙ one_commit shares)
    (λ s whole legal was.
    let found = core_of old s core now was is_at.runs in
    let c = found.0 in
    let hart = now_is old core now arrived stop.Ended c is_at found.2 in
    subst (Shows new) (sym (effect-on old.image s core Commit c found.1)) (record {
      homefree = homefree ∙ ap (λ n. n + 1) was.homefree;
      next_epoch = next_epoch ∙ was.next_epoch;
      end = end ∙ (ap (λ h. end_after old.image h old.homefree) hart ∙ ap (end_after old.image (next_event old.image c.hart).now) was.homefree);
      running = kept_with (running_at old.running.items) (running_at new.running.items) s.cores core None None each was.running refl;
    }))

pub faulted : (old new : Register) (shares : Counts) (core : ℕ) (now : Running) (cause pc : ℕ) → running_at old.running.items core ≡ Some now
    → new.image ≡ old.image → new.running ≡ old.running → new.history.items ≡ old.history.items ++ entry core (Fault cause pc)
    → vec_capacity old.history ≤ vec_capacity new.history → vec_len new.history ≡ vec_len old.history + 1 → new.totals ≡ old.totals
    → new.homefree ≡ old.homefree → new.next_epoch ≡ old.next_epoch → new.end ≡ Some (end_is.Fault now.epoch cause pc)
    → Steps old new shares shares (entry core (Fault cause pc))
faulted old new shares core now cause pc runs image running history room used totals homefree next_epoch end =
    step old new shares shares (record { by = core; what = Fault cause pc }) image (ap (λ xs. length xs.items) running) history room used (totals ∙ sym (sum_none old.totals)) (sym (sum_none shares))
    (λ s whole legal was.
    let found = core_of old s core now was runs in
    let c = found.0 in
    subst (Shows new) (sym (effect-on old.image s core (Fault cause pc) c found.1)) (record {
      homefree = homefree ∙ was.homefree;
      next_epoch = next_epoch ∙ was.next_epoch;
      end = end ∙ ap (λ (r : Running). Some (end_is.Fault r.epoch cause pc)) (sym found.2);
      running = λ k. ap (λ xs. running_at xs.items k) running ∙ was.running k;
    }))

-- ---- another core that is hurt or cancelled

caller : (o : Option CoreState) (test : CoreState → Bool) → runs_and o test ≡ true → (c : CoreState) × (o ≡ Some c)
caller None test is = absurd cc
caller (Some c) test is = (c, refl)

marked : (epoch : ℕ) (c : CoreState) (now : Running) → kept_of c ≡ now → c.epoch ≡ epoch → Some (record now { hurt = true }) ≡ option_map kept_of (hurt_at epoch (Some c))
marked epoch c now is same = rw (← is, eq-eqb c.epoch epoch same, or_right c.hurt true refl) refl

unmarked : (epoch : ℕ) (o : Option CoreState) → ((c : CoreState) → o ≡ Some c → c.epoch ≢ epoch) → option_map kept_of o ≡ option_map kept_of (hurt_at epoch o)
unmarked epoch None other = refl
unmarked epoch (Some c) other = rw (ne_eqb c.epoch epoch (other c refl), or_false c.hurt) refl

dropped : (epoch : ℕ) (c : CoreState) → c.epoch ≡ epoch → None ≡ option_map kept_of (idle_at epoch (Some c))
dropped epoch c same = ap (λ b. option_map kept_of (cond b None (Some c))) (sym (eq-eqb c.epoch epoch same))

undropped : (epoch : ℕ) (o : Option CoreState) → ((c : CoreState) → o ≡ Some c → c.epoch ≢ epoch) → option_map kept_of o ≡ option_map kept_of (idle_at epoch o)
undropped epoch None other = refl
undropped epoch (Some c) other = ap (λ b. option_map kept_of (cond b None (Some c))) (sym (ne_eqb c.epoch epoch (other c refl)))

at_by : (k core : ℕ) (set other : Option Running) (want : Option Running) → (k ≡ core → set ≡ want) → (k ≢ core → other ≡ want) → cond (k == core) set other ≡ want
at_by k core set other want here there = elim (cases_eq k core) [
  | inl e ↦ ap (λ b. cond b set other) (eq-eqb k core e) ∙ here e
  | inr apart ↦ ap (λ b. cond b set other) (ne_eqb k core apart) ∙ there apart
]

pub hurt_noted : (old new : Register) (shares : Counts) (by core : ℕ) (now : Running) → running_at old.running.items core ≡ Some now
    → new.image ≡ old.image → length new.running.items ≡ length old.running.items → new.history.items ≡ old.history.items ++ entry by (Hurt now.epoch)
    → vec_capacity old.history ≤ vec_capacity new.history → vec_len new.history ≡ vec_len old.history + 1 → new.totals ≡ old.totals
    → new.homefree ≡ old.homefree → new.next_epoch ≡ old.next_epoch → new.end ≡ old.end
    → ((k : ℕ) → running_at new.running.items k ≡ cond (k == core) (Some (record now { hurt = true })) (running_at old.running.items k))
    → Steps old new shares shares (entry by (Hurt now.epoch))
hurt_noted old new shares by core now runs image cores history room used totals homefree next_epoch end each =
    step old new shares shares (record { by = by; what = Hurt now.epoch }) image cores history room used (totals ∙ sym (sum_none old.totals)) (sym (sum_none shares))
    (λ s whole legal was.
    let found = core_of old s core now was runs in
    let d = found.0 in
    let epoch : d.epoch ≡ now.epoch = ap (λ (r : Running). r.epoch) found.2 in
    let l = legal_entry old.image (length old.running.items) s (record { by = by; what = Hurt now.epoch }) legal in
    let it = caller (s.cores by) _ (and_parts _ _ l.there).0 in
    let apart = (whole.going l.going).kept.apart in
    subst (Shows new) (sym (effect-on old.image s by (Hurt now.epoch) it.0 it.1)) (record {
      homefree = homefree ∙ was.homefree;
      next_epoch = next_epoch ∙ was.next_epoch;
      end = end ∙ was.end;
      running = λ k. each k ∙ at_by k core (Some (record now { hurt = true })) (running_at old.running.items k) _
          (λ e. marked now.epoch d now found.2 epoch ∙ ap (λ o. option_map kept_of (hurt_at now.epoch o)) (sym (ap s.cores e ∙ found.1)))
          (λ other. was.running k ∙ unmarked now.epoch (s.cores k) (λ c at_k same. other (apart k core c d at_k found.1 (same ∙ sym epoch))));
    }))

pub cancel_noted : (old new : Register) (shares : Counts) (by core : ℕ) (now : Running) → running_at old.running.items core ≡ Some now
    → new.image ≡ old.image → length new.running.items ≡ length old.running.items → new.history.items ≡ old.history.items ++ entry by (Cancel now.epoch)
    → vec_capacity old.history ≤ vec_capacity new.history → vec_len new.history ≡ vec_len old.history + 1 → new.totals ≡ old.totals
    → new.homefree ≡ old.homefree → new.next_epoch ≡ old.next_epoch → new.end ≡ old.end
    → ((k : ℕ) → running_at new.running.items k ≡ cond (k == core) None (running_at old.running.items k))
    → Steps old new shares shares (entry by (Cancel now.epoch))
cancel_noted old new shares by core now runs image cores history room used totals homefree next_epoch end each =
    step old new shares shares (record { by = by; what = Cancel now.epoch }) image cores history room used (totals ∙ sym (sum_none old.totals)) (sym (sum_none shares))
    (λ s whole legal was.
    let found = core_of old s core now was runs in
    let d = found.0 in
    let epoch : d.epoch ≡ now.epoch = ap (λ (r : Running). r.epoch) found.2 in
    let l = legal_entry old.image (length old.running.items) s (record { by = by; what = Cancel now.epoch }) legal in
    let it = caller (s.cores by) _ (and_parts _ _ l.there).0 in
    let apart = (whole.going l.going).kept.apart in
    subst (Shows new) (sym (effect-on old.image s by (Cancel now.epoch) it.0 it.1)) (record {
      homefree = homefree ∙ was.homefree;
      next_epoch = next_epoch ∙ was.next_epoch;
      end = end ∙ was.end;
      running = λ k. each k ∙ at_by k core None (running_at old.running.items k) _
          (λ e. dropped now.epoch d epoch ∙ ap (λ o. option_map kept_of (idle_at now.epoch o)) (sym (ap s.cores e ∙ found.1)))
          (λ other. was.running k ∙ undropped now.epoch (s.cores k) (λ c at_k same. other (apart k core c d at_k found.1 (same ∙ sym epoch))));
    }))
