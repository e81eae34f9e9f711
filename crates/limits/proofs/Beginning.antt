-- What is kept of a run so far, as a core begins an epoch, or begins it again.
use Rattle.std.proofs.Common.{◌≡◌, ◌≢◌, ℕ, ◌+◌, ◌<◌, ◌≤◌, ◌==◌, Some, None, if◌then◌else◌, refl, sym, ap, subst, ◌∙◌, inl, inr, true≢false, arith}
use Rattle.std.proofs.lemmas.Bool.{cases_eq}
use Rattle.std.proofs.lemmas.Bool.Decides.{nat_tests}
use Rattle.std.proofs.lemmas.Option.{none-some}
use Rattle.rv32_image.specs.Image.{LoadedImage}
use Rattle.memory_bytes.specs.Maps.{nothing}
use Rattle.spec_history.specs.FlatState.{CoreState, FlatState, begun, first_state}
use Rattle.spec_history.specs.Effect.{with_core}
use Rattle.spec_history.specs.Laws.{IsKept}
use Rattle.spec_history.proofs.OneEntry.Keeping.{at_core, with_core_other, with_core_same}
use Rattle.epoch_paths.specs.InOrder.{memory_before}
use Rattle.epoch_paths.proofs.Paths.{at_start}
use Rattle.limits.specs.declared.limit.Waits.{Waits}
use Rattle.limits.proofs.Marks.{IsOn, IsOwned, IsTimed, IsTimedIn, IsUnder, Marks}
use Rattle.limits.proofs.Marking.{Alters, done_still, goes, not_none, some_same, under_still}
use Rattle.limits.proofs.Owners.{committed_before}

-- ---- one number changed

pub with_one : {A : Type 0} → (ℕ → A) → ℕ → A → ℕ → A
with_one f at new k = if k == at then new else f k

pub one_here : {A : Type 0} (f : ℕ → A) (at : ℕ) (new : A) → with_one f at new at ≡ new
unfolding with_one
one_here f at new = grind (arith, nat_tests)

pub one_other : {A : Type 0} (f : ℕ → A) (at : ℕ) (new : A) (k : ℕ) → k ≢ at → with_one f at new k ≡ f k
unfolding with_one
one_other f at new k other = grind (arith, nat_tests)

-- ---- an epoch begins on this core

abbrev pub begun_marks : Marks → ℕ → ℕ → ℕ → Marks
begun_marks m by epoch now = record {
  timing = record { begin = with_one m.timing.begin epoch now; at = m.timing.at; commit = m.timing.commit };
  shown = m.shown;
  from = with_one m.from by (now + 1);
  last = with_one m.last by (Some epoch);
}

begun_under : (image : LoadedImage) (waits : Waits) (m : Marks) (by epoch now : ℕ) → m.timing.begin epoch ≡ now → m.from by ≡ now + 1 → IsUnder image waits m by (begun image epoch)
begun_under image waits m by epoch now begin from = record {
  begun = omega (arith, begin, from);
  steps = λ place low. absurd (omega (arith, low));
  first = λ some. absurd (omega (arith, some));
  next = λ place low. absurd (omega (arith, low));
  path = λ has. record {
    own = nothing;
    at = at_start image epoch (memory_before image epoch) has.long;
    own_is = λ is. refl;
    written = λ is. absurd (true≢false (sym is));
    guarded = λ is a reads low. absurd (omega (arith, low));
    after = λ is. absurd (true≢false (sym is));
  };
}

-- ---- it begins its epoch again

abbrev pub again_marks : Marks → ℕ → ℕ → ℕ → Marks
again_marks m by epoch now = record {
  timing = record { begin = with_one m.timing.begin epoch now; at = m.timing.at; commit = m.timing.commit };
  shown = m.shown;
  from = with_one m.from by (now + 1);
  last = m.last;
}

again_alters : (image : LoadedImage) (waits : Waits) (cores now : ℕ) (s : FlatState) (m : Marks) (by epoch : ℕ) → IsTimedIn image waits cores now s m
    → Alters m (again_marks m by epoch now) by epoch now
again_alters image waits cores now s m by epoch x =
    let is = one_here m.timing.begin epoch now in
    let low = x.begun epoch in record {
      begin = λ d other. one_other m.timing.begin epoch now d other;
      begin_on = omega (arith, low, is);
      begin_by = omega (arith, is);
      at = λ d place other. refl;
      commit = λ d other. refl;
      from = λ k other. one_other m.from by (now + 1) k other;
      shown = λ a. omega arith;
      past = x.past;
    }

pub begins_again : (image : LoadedImage) (waits : Waits) (cores now : ℕ) (s : FlatState) (m : Marks) (by : ℕ) (c : CoreState) → IsKept image cores s → IsTimedIn image waits cores now s m
    → s.cores by ≡ Some c
    → IsTimed image waits cores now s.homefree s.next_epoch (with_core s.cores by (Some (begun image c.epoch))) (again_marks m by c.epoch now)
begins_again image waits cores now s m by c kept x at =
    goes image waits cores now s m (again_marks m by c.epoch now) by c kept x at (again_alters image waits cores now s m by c.epoch x) refl
    (λ k d other at_k free speculates a read. omega arith) (begun image c.epoch) refl (λ is. absurd (true≢false (sym is)))
    (λ free. begun_under image waits (again_marks m by c.epoch now) by c.epoch now (one_here m.timing.begin c.epoch now) (one_here m.from by (now + 1)))

-- ---- an idle core begins the next epoch

module _ (image : LoadedImage) (waits : Waits) (cores now : ℕ) (s : FlatState) (m : Marks) (by : ℕ) (kept : IsKept image cores s) (x : IsTimedIn image waits cores now s m)
    (idle : s.cores by ≡ None) (there : by < cores) (from : m.from by ≤ now) where
  abbrev next : ℕ
  next = s.next_epoch

  abbrev m' : Marks
  m' = begun_marks m by next now

  alters : Alters m m' by next now
  alters =
      let is = one_here m.timing.begin next now in
      let low = x.begun next in record {
        begin = λ d other. one_other m.timing.begin next now d other;
        begin_on = omega (arith, low, is);
        begin_by = omega (arith, is);
        at = λ d place other. refl;
        commit = λ d other. refl;
        from = λ k other. one_other m.from by (now + 1) k other;
        shown = λ a. omega arith;
        past = x.past;
      }

  begins_by : (d : ℕ) → d + cores < next + 1 → (d < s.homefree) × (m'.timing.commit d < m'.timing.begin (d + cores))
  begins_by d low = elim (cases_eq (d + cores) next) [
    | inl last ↦
        (let before = committed_before image waits cores now s m x by idle there from d last in
        let is : m'.timing.begin (d + cores) ≡ now = ap m'.timing.begin last ∙ one_here m.timing.begin next now in
        let early = before.1 in (before.0, omega (arith, early, is)))
    | inr other ↦
        (let was = x.begins d (omega (arith, low, other)) in
        let is = one_other m.timing.begin next now (d + cores) other in
        let less = was.1 in (was.0, omega (arith, less, is)))
  ]

  owned_by : (d : ℕ) → IsOwned cores now s.homefree m d → IsOwned cores now s.homefree m' d
  owned_by d (inl o) = inl o
  owned_by d (inr o) = elim (cases_eq o.0 by) [
    | inl e ↦
        (let was = x.idle by idle d (ap m.last (sym e) ∙ o.2) in
        let early = was.1 in inl (was.0, omega (arith, early, from)))
    | inr other ↦ inr (o.0, o.1, one_other m.last by (Some next) o.0 other ∙ o.2)
  ]

  owned : (d : ℕ) → d < next + 1 → IsOwned cores now s.homefree m' d
  owned d low = elim (cases_eq d next) [
    | inl e ↦ inr (by, there, one_here m.last by (Some next) ∙ ap Some (sym e))
    | inr other ↦ owned_by d (x.owned d (omega (arith, low, other)))
  ]

  on_other : (k : ℕ) (d : CoreState) → k ≢ by → s.cores k ≡ Some d → IsOn image waits m' k d
  on_other k d other at =
      let was = x.core k d at in
      let low = (kept.core k d at).below in
      let started = kept.homefree_started in record {
        last = one_other m.last by (Some next) k other ∙ was.last;
        under = λ free. under_still image waits m m' by next now alters k d other (λ same. omega (arith, low, same)) (λ is. omega (arith, low))
            (λ speculates a read. omega arith) (was.under free);
        kind = was.kind;
      }

  pub starts : IsTimed image waits cores now s.homefree (next + 1) (with_core s.cores by (Some (begun image next))) m'
  starts = record {
    past = x.past;
    done = λ d low. let started = kept.homefree_started in done_still image waits m m' by next now alters d (omega (arith, low, started)) (x.done d low);
    in_order = x.in_order;
    begins = begins_by;
    begun = λ d. elim (cases_eq d next) [
      | inl e ↦ (let is = ap m'.timing.begin e in let one = one_here m.timing.begin next now in omega (arith, is, one))
      | inr other ↦ (let is = one_other m.timing.begin next now d other in let was = x.begun d in omega (arith, is, was))
    ];
    owned = owned;
    core = λ k d is. elim (at_core s.cores by (Some (begun image next)) k d is) [
      | inl here ↦
          (let same = some_same (begun image next) d here.1 in
          subst (λ n. IsOn image waits m' n d) (sym here.0)
          (subst (IsOn image waits m' by) same (record {
            last = one_here m.last by (Some next);
            under = λ free. begun_under image waits m' by next now (one_here m.timing.begin next now) (one_here m.from by (now + 1));
            kind = λ straight. absurd (true≢false (sym straight));
          })))
      | inr other ↦ on_other k d other.0 other.1
    ];
    idle = λ k none d is. elim (cases_eq k by) [
      | inl e ↦ absurd (not_none (begun image next) (sym (ap (with_core s.cores by (Some (begun image next))) e ∙ with_core_same s.cores by (Some (begun image next))) ∙ none))
      | inr other ↦
          (let was = x.idle k (sym (with_core_other s.cores by (Some (begun image next)) k other) ∙ none) d (sym (one_other m.last by (Some next) k other) ∙ is) in
          let low = was.1 in
          let same = one_other m.from by (now + 1) k other in (was.0, omega (arith, low, same)))
    ];
  }

-- ---- the loop's start

abbrev pub no_marks : Marks
no_marks = record {
  timing = record { begin = λ d. 0; at = λ d place. 0; commit = λ d. 0 };
  shown = λ a. 0;
  from = λ k. 0;
  last = λ k. None;
}

pub first_timed : (image : LoadedImage) (waits : Waits) (cores : ℕ) → IsTimedIn image waits cores 0 (first_state image) no_marks
first_timed image waits cores = record {
  past = λ a. omega arith;
  done = λ d low. absurd (omega (arith, low));
  in_order = λ d low. absurd (omega (arith, low));
  begins = λ d low. absurd (omega (arith, low));
  begun = λ d. omega arith;
  owned = λ d low. absurd (omega (arith, low));
  core = λ k c is. absurd (none-some c is);
  idle = λ k none d is. absurd (none-some d is);
}
