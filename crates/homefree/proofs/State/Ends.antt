-- The end of the homefree epoch: it has published, or is straight, and commits, exits or faults.
use Rattle.std.proofs.Common.{◌≡◌, ◌≢◌, ℕ, ◌≤◌, ◌==◌, ◌&&◌, not, cond, Bool, true, false, is_some, ◌++◌, Option, Some, None, unwrap_or, refl, sym, ap, subst, ◌∙◌, inl, inr, eq-eqb}
use Rattle.std.proofs.Math.Path.{fun_ext}
use Rattle.std.proofs.lemmas.Bool.{cases_eq, and_right}
use Rattle.rv32_image.proofs.SmallFacts.{none_and_some}
use Rattle.rv32_exec.specs.declared.stop.Stop.TheVariants as stop
use Rattle.rv32_image.specs.Image.{LoadedImage}
use Rattle.rv32_exec.specs.NextEvent.{next_event}
use Rattle.rv32_exec.specs.Sequential.{exits}
use Rattle.rv32_exec.specs.declared.sequential.End.{End}
use Rattle.memory_bytes.specs.Maps.{over}
use Rattle.spec_history.specs.declared.entry.What.{What}
use Rattle.spec_history.specs.declared.entry.What.TheVariants.{Hurt, Cancel, Commit, Fault}
use Rattle.spec_history.specs.FlatState.{CoreState, FlatState}
use Rattle.spec_history.specs.Effect.{by_core, effect_on}
use Rattle.spec_history.specs.Refusal.{refusal_of, runs, is_the_end, is_that_fault, is_an_exit, misses_a_hurt, other_runs}
use Rattle.spec_history.specs.Replay.{replay_from}
use Rattle.spec_history.specs.Laws.{IsKept}
use Rattle.spec_history.proofs.OneEntry.Going.{Spares}
use Rattle.spec_history.proofs.OneEntry.Legal.{legal_is, fault_is_that}
use Rattle.spec_history.proofs.Replay.Joining.{one_entry, no_entry, then_entries, spares_all}
use Rattle.spec_history.proofs.OneEntry.Keeping.{IsApart}
use Rattle.spec_history.proofs.Searches.Tests.{all_fail}
use Rattle.spec_history.proofs.Searches.Missing.{misses_by}
use Rattle.spec_history.proofs.Replay.Replays.{effect-on}
use Rattle.violations.specs.View.{StoreView}
use Rattle.violations.specs.Rule.{Publishes, Ends}
use Rattle.homefree.specs.Agrees.{AgreesAt, Agrees}
use Rattle.homefree.specs.Hurts.{entry, hurts, hurt_if, with_hurts, epoch_on, entry_for_each, cancels, is_other, with_cancels}
use Rattle.homefree.specs.Turned.{publishes_unless, CancelsOthers}
use Rattle.homefree.proofs.State.Legality.{by_it}
use Rattle.homefree.proofs.State.HurtsReplay.{CanBeHurt, hurts_replay, still_runs}
use Rattle.homefree.proofs.State.CancelsReplay.{MayCancel, cancels_replay, still_alone, others_idle}
use Rattle.homefree.proofs.State.Others.{same_at, others_agree, others_spared, can_be_hurt_all, agrees_with, idle_on}
use Rattle.homefree.proofs.State.Arms.{Comes, none_among}

-- what the core had of its own is committed, and these cores are hurt
pub record HasPublished (image : LoadedImage) (count : ℕ) (s : FlatState) (by : ℕ) (c : CoreState) (x : StoreView) (hurt : ℕ → Bool) : Type 0 where
  pub replays : replay_from image count s (hurts count s by hurt) ≡ Some (with_hurts hurt s)
  pub at : (with_hurts hurt s).cores by ≡ Some c
  pub committed : (a : ℕ) → x.committed a ≡ over c.own s.committed a
  pub others : (k : ℕ) → k ≢ by → AgreesAt (over c.own s.committed) x k (hurt_if (hurt k) (s.cores k))
  pub spares : Spares (with_hurts hurt s) by (over c.own s.committed)

module _ (image : LoadedImage) (count : ℕ) (s : FlatState) (v : StoreView) (by : ℕ) (c : CoreState)
    (going : s.end ≡ None) (kept : IsKept image count s) (agrees : Agrees s v) (at : s.cores by ≡ Some c) (unhurt : c.hurt ≡ false) where
  by_publish : (x : StoreView) (hurt : ℕ → Bool) → Publishes v x by hurt → HasPublished image count s by c x hurt
  by_publish x hurt p =
      let m = over c.own s.committed in
      let can : (k : ℕ) → hurt k ≡ true → CanBeHurt s c k = can_be_hurt_all image count s v x by c hurt going kept agrees at unhurt p.others in
      let committed : (a : ℕ) → x.committed a ≡ m a = λ a. p.committed a ∙ ((agrees.core going by).runs c at unhurt).sees a in record {
        replays = hurts_replay image count s by c hurt going kept at unhurt p.others.not_itself can;
        at = still_runs image count s by c hurt going kept at unhurt p.others.not_itself can;
        committed = committed;
        others = λ k other. others_agree s m v x by hurt going agrees (p.shape, p.cached) p.others committed k other;
        spares = others_spared s m v x by hurt going agrees p.others committed;
      }

  -- a straight core has nothing of its own
  by_straight : c.straight ≡ true → HasPublished image count s by c v (λ _. false)
  by_straight is =
      let m = over c.own s.committed in
      let same : (a : ℕ) → m a ≡ s.committed a = λ a. ap (λ o. unwrap_or o (s.committed a)) ((kept.core by c at).straight_owns is a) in record {
        replays = ap (replay_from image count s) (none_among by (λ k. Hurt (epoch_on s.cores k)) count) ∙ no_entry image count s;
        at = at;
        committed = λ a. agrees.committed a ∙ sym (same a);
        others = λ k other. same_at s.committed m v v k (s.cores k) (refl, refl) same
            (record { attempt = refl; own = λ a. refl; guarded = λ a. refl; sees = λ a. refl }) (agrees.core going k);
        spares = λ k d at_k other free a byte read. same a;
      }

  publishing_by : (x : StoreView) (hurt : ℕ → Bool) (b : Bool) → c.straight ≡ b → publishes_unless b v x by hurt → HasPublished image count s by c x hurt
  publishing_by x hurt false is p = by_publish x hurt p
  publishing_by x hurt true is p =
      let none : hurt ≡ (λ _. false) = fun_ext p.1 in
      subst (λ h. HasPublished image count s by c x h) (sym none) (subst (λ y. HasPublished image count s by c y (λ _. false)) (sym p.0) (by_straight is))

  pub has_published : (x : StoreView) (hurt : ℕ → Bool) → publishes_unless c.straight v x by hurt → HasPublished image count s by c x hurt
  has_published x hurt p = publishing_by x hurt c.straight refl p

  module _ (x : StoreView) (hurt : ℕ → Bool) (p : HasPublished image count s by c x hurt) (homefree : c.epoch ≡ s.homefree) where
    abbrev t : FlatState
    t = with_hurts hurt s

    abbrev m : ℕ → ℕ
    m = over c.own s.committed

    runs_there : (u : FlatState) → u.cores by ≡ Some c → runs (u.cores by) ≡ true
    runs_there u at_u = by_it (u.cores by) c (λ y. not y.hurt && true) at_u (ap (λ b. not b && true) unhurt)

    homefree_there : (u : FlatState) → u.cores by ≡ Some c → by_core (u.cores by) false (λ y. y.epoch == s.homefree) ≡ true
    homefree_there u at_u = by_it (u.cores by) c (λ y. y.epoch == s.homefree) at_u (eq-eqb c.epoch s.homefree homefree)

    end_there : (u : FlatState) → u.cores by ≡ Some c → (next_event image c.hart).at ≡ stop.Ended → by_core (u.cores by) false (λ y. is_the_end (next_event image y.hart).at) ≡ true
    end_there u at_u next = by_it (u.cores by) c (λ y. is_the_end (next_event image y.hart).at) at_u (ap is_the_end next)

    -- the hurts, and then one entry
    then_one : (what : What) (y : StoreView) → refusal_of image count t (record { by = by; what = what }) ≡ None → Agrees (effect_on image t by c what) y
        → Comes image count s (hurts count s by hurt ++ entry by what) (effect_on image t by c what) y
    then_one what y legal agrees_y = record {
      replays = then_entries image count (hurts count s by hurt) (entry by what) s t (effect_on image t by c what) p.replays
          (one_entry image count t (record { by = by; what = what }) legal ∙ ap Some (effect-on image t by what c p.at));
      agrees = agrees_y;
    }

    spares : (what : What) → (effect_on image t by c what).committed ≡ m → misses_a_hurt image count t (record { by = by; what = what }) ≡ false
    spares what is = misses_by image count t by what c m p.at is ∙ spares_all image.size count t by m p.spares

    -- it commits, and is left
    pub commits : (y : StoreView) → (next_event image c.hart).at ≡ stop.Ended → exits image (next_event image c.hart).now ≡ false → Ends x y by
        → Comes image count s (hurts count s by hurt ++ entry by Commit) (effect_on image t by c Commit) y
    commits y next stays l =
        let legal = legal_is image count t (record { by = by; what = Commit }) (record {
          going = going;
          there = runs_there t p.at;
          next = end_there t p.at next;
          homefree = homefree_there t p.at;
          value = refl;
          spares = spares Commit refl;
          cancelled = ap (λ o. by_core o false (λ z. is_an_exit image (next_event image z.hart)) && other_runs count t by) p.at
              ∙ ap (λ b. b && other_runs count t by) (and_right (is_the_end (next_event image c.hart).at) (exits image (next_event image c.hart).now) stays);
        }) in
        then_one Commit y legal (record {
          committed = λ a. l.committed a ∙ p.committed a;
          core = λ still k. agrees_with m y by None t.cores (idle_on m y by l.attempt)
              (λ j other. same_at m m x y j (t.cores j) (l.shape, l.cached) (λ a. refl) (l.others j other) (p.others j other)) k;
        })

    -- it faults, and the loop is over
    pub faults : (cause pc : ℕ) → (next_event image c.hart).at ≡ stop.Fault cause pc
        → Comes image count s (hurts count s by hurt ++ entry by (Fault cause pc)) (effect_on image t by c (Fault cause pc)) x
    faults cause pc next =
        let legal = legal_is image count t (record { by = by; what = Fault cause pc }) (record {
          going = going;
          there = runs_there t p.at;
          next = by_it (t.cores by) c (λ y. is_that_fault cause pc (next_event image y.hart).at) p.at (ap (is_that_fault cause pc) next ∙ fault_is_that cause pc);
          homefree = homefree_there t p.at;
          value = refl;
          spares = spares (Fault cause pc) refl;
          cancelled = refl;
        }) in
        then_one (Fault cause pc) x legal (record { committed = p.committed; core = λ still. absurd cc })

-- ---- the core of an epoch that exits is alone before it commits

hurt_some : (b : Bool) (o : Option CoreState) (d : CoreState) → hurt_if b o ≡ Some d → (e : CoreState) × (o ≡ Some e) × (e.epoch ≡ d.epoch)
hurt_some true None d is = absurd cc
hurt_some true (Some e) d is = (e, refl, ap (λ o. by_core o 0 (λ x. x.epoch)) is)
hurt_some false o d is = (d, is, refl)

hurt_runs : (b : Bool) (o : Option CoreState) → is_some (hurt_if b o) ≡ is_some o
hurt_runs true None = refl
hurt_runs true (Some e) = refl
hurt_runs false o = refl

pub hurt_epoch : (b : Bool) (o : Option CoreState) → by_core (hurt_if b o) 0 (λ x. x.epoch) ≡ by_core o 0 (λ x. x.epoch)
hurt_epoch true None = refl
hurt_epoch true (Some e) = refl
hurt_epoch false o = refl

-- hurts change no epoch
pub same_cancels : (count : ℕ) (s : FlatState) (by : ℕ) (hurt : ℕ → Bool) → cancels count (with_hurts hurt s) by ≡ cancels count s by
same_cancels count s by hurt =
    let others : is_other (with_hurts hurt s).cores by ≡ is_other s.cores by = fun_ext (λ k. ap (λ b. not (k == by) && b) (hurt_runs (hurt k) (s.cores k))) in
    let epochs : epoch_on (with_hurts hurt s).cores ≡ epoch_on s.cores = fun_ext (λ k. hurt_epoch (hurt k) (s.cores k)) in
    ap (λ o. entry_for_each by o (λ k. Cancel (epoch_on (with_hurts hurt s).cores k)) count) others
    ∙ ap (λ (e : ℕ → ℕ). entry_for_each by (is_other s.cores by) (λ k. Cancel (e k)) count) epochs

apart_hurt : (cores : ℕ → Option CoreState) (hurt : ℕ → Bool) → IsApart cores → IsApart (λ k. hurt_if (hurt k) (cores k))
apart_hurt cores hurt apart j k c d at_j at_k same =
    let one = hurt_some (hurt j) (cores j) c at_j in
    let two = hurt_some (hurt k) (cores k) d at_k in
    apart j k one.0 two.0 one.1 two.1 (one.2 ∙ (same ∙ sym two.2))

not_over : (b : Bool) (end : End) (o : Option End) → b ≡ true → cond b (Some end) o ≡ None → ⊥
not_over true end o is none = cc
not_over false end o is none = cc

no_other : (k by : ℕ) (o : Option CoreState) → (k ≢ by → o ≡ None) → (not (k == by) && is_some o) ≡ false
no_other k by o idle = elim (cases_eq k by) [
  | inl e ↦ ap (λ b. not b && is_some o) (eq-eqb k by e)
  | inr other ↦ and_right (not (k == by)) (is_some o) (ap is_some (idle other))
]

module _ (image : LoadedImage) (count : ℕ) (s : FlatState) (by : ℕ) (c : CoreState) (going : s.end ≡ None) (kept : IsKept image count s)
    (unhurt : c.hurt ≡ false) (homefree : c.epoch ≡ s.homefree) (x : StoreView) (hurt : ℕ → Bool) (p : HasPublished image count s by c x hurt)
    (next : (next_event image c.hart).at ≡ stop.Ended) (exit : exits image (next_event image c.hart).now ≡ true) where
  abbrev hurt_state : FlatState
  hurt_state = with_hurts hurt s

  pub may_cancel : MayCancel image count hurt_state by c
  may_cancel = record {
    going = going;
    at = p.at;
    unhurt = unhurt;
    homefree = homefree;
    exit = ap (λ a. is_the_end a && exits image (next_event image c.hart).now) next ∙ exit;
    apart = apart_hurt s.cores hurt kept.apart;
    there = λ k d at_k. let found = hurt_some (hurt k) (s.cores k) d at_k in (kept.core k found.0 found.1).there;
    from = λ k d at_k. let found = hurt_some (hurt k) (s.cores k) d at_k in subst (λ n. s.homefree ≤ n) found.2 (kept.core k found.0 found.1).from;
  }

  abbrev alone : FlatState
  alone = with_cancels by hurt_state

  idle : (k : ℕ) → k ≢ by → alone.cores k ≡ None
  idle k other = others_idle image count hurt_state by c may_cancel k other

  at_alone : alone.cores by ≡ Some c
  at_alone = still_alone image count hurt_state by c may_cancel

  exit_legal : refusal_of image count alone (record { by = by; what = Commit }) ≡ None
  exit_legal = legal_is image count alone (record { by = by; what = Commit }) (record {
    going = going;
    there = by_it (alone.cores by) c (λ y. not y.hurt && true) at_alone (ap (λ b. not b && true) unhurt);
    next = by_it (alone.cores by) c (λ y. is_the_end (next_event image y.hart).at) at_alone (ap is_the_end next);
    homefree = by_it (alone.cores by) c (λ y. y.epoch == s.homefree) at_alone (eq-eqb c.epoch s.homefree homefree);
    value = refl;
    spares = misses_by image count alone by Commit c (over c.own s.committed) at_alone refl
        ∙ spares_all image.size count alone by (over c.own s.committed) (λ k d at_k other free a byte read. absurd (none_and_some (alone.cores k) d (idle k other) at_k));
    cancelled = and_right (by_core (alone.cores by) false (λ z. is_an_exit image (next_event image z.hart))) (other_runs count alone by)
        (all_fail count (λ k. not (k == by) && is_some (alone.cores k)) (λ k below. no_other k by (alone.cores k) (idle k)));
  })

  -- the hurts, the cancels, and then the commit
  pub exits_loop : (y z : StoreView) → CancelsOthers x y by → Ends y z by
      → Comes image count s (hurts count s by hurt ++ (cancels count s by ++ entry by Commit)) (effect_on image alone by c Commit) z
  exits_loop y z cancelled left = record {
    replays = then_entries image count (hurts count s by hurt) (cancels count s by ++ entry by Commit) s hurt_state (effect_on image alone by c Commit) p.replays
        (then_entries image count (cancels count s by) (entry by Commit) hurt_state alone (effect_on image alone by c Commit)
        (ap (replay_from image count hurt_state) (sym (same_cancels count s by hurt)) ∙ cancels_replay image count hurt_state by c may_cancel)
        (one_entry image count alone (record { by = by; what = Commit }) exit_legal ∙ ap Some (effect-on image alone by Commit c at_alone)));
    agrees = record {
      committed = λ a. left.committed a ∙ (cancelled.committed a ∙ p.committed a);
      core = λ still. absurd (not_over (exits image (next_event image c.hart).now) _ _ exit still);
    };
  }
