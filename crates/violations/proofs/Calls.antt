-- The calls of the plain store, over its view.
use Rattle.std.proofs.Common.{◌≡◌, ◌≢◌, ◌⊎◌, ℕ, ◌<◌, Bool, true, false, length, set, slice_get, slice_index, is_some, Some, refl, sym, ap, subst, ◌∙◌, inl, inr, arith, length-set, true≢false}
use Rattle.std.proofs.lemmas.Bool.{cases_eq}
use Rattle.std.proofs.lemmas.Option.{same_Some}
use Rattle.rv32_image.proofs.SmallFacts.{one_value, none_and_some}
use Rattle.violations.specs.declared.attempt.Attempt.{Attempt}
use Rattle.violations.specs.declared.core_state.CoreState.{CoreState}
use Rattle.violations.specs.View.{attempt_of, IsSettled, MayBegin, Runs}
use Rattle.violations.specs.CoreState.{IsIdle}
use Rattle.violations.specs.Rule.{Begins, Ends}
use Rattle.memory_bytes.specs.Maps.{over}
use Rattle.violations.specs.Plain.{PlainView, attempt_in, own_in, guarded_in, store_view}
use Rattle.violations.proofs.Changing.{get_set_other}
use Rattle.violations.proofs.Plains.{IsBare, clear_of, bare_of, IsQuiet, same_core, alike_state, shape_same, bare_state, CameFrom, settled_from, came_same, with_state, here, quiet_state, came_state}

-- ---- begin

abbrev pub begun : CoreState → ℕ → CoreState
begun state epoch = record state { attempt = Some (attempt_of epoch false) }

-- an attempt afterwards is the caller's new one, or was there
where_at : (p : PlainView) (by : ℕ) (state : CoreState) (t : Attempt) → by < length p.states → state.attempt ≡ Some t → (k : ℕ) (now : Attempt) → attempt_in (slice_get (set p.states by state) k) ≡ Some now
    → ((k ≡ by) × (now ≡ t)) ⊎ ((k ≢ by) × (attempt_in (slice_get p.states k) ≡ Some now))
where_at p by state t below is k now at = elim (cases_eq k by) [
  | inl e ↦ inl (e, one_value _ now t at (ap (λ j. attempt_in (slice_get (set p.states by state) j)) e ∙ (ap attempt_in (here p by state below) ∙ is)))
  | inr other ↦ inr (other, sym (ap attempt_in (get_set_other p.states by k state other)) ∙ at)
]

begun_first : (p : PlainView) (by epoch : ℕ) → IsSettled (store_view p) → MayBegin (store_view p) by epoch → (j k : ℕ) (x y : Attempt)
    → ((j ≡ by) × (x ≡ attempt_of epoch false)) ⊎ ((j ≢ by) × (attempt_in (slice_get p.states j) ≡ Some x))
    → ((k ≡ by) × (y ≡ attempt_of epoch false)) ⊎ ((k ≢ by) × (attempt_in (slice_get p.states k) ≡ Some y)) → x.straight ≡ true → k ≢ j → x.epoch < y.epoch
begun_first p by epoch settled may j k x y (inl new) two straight other = absurd (true≢false (sym straight ∙ ap (λ (t : Attempt). t.straight) new.1))
begun_first p by epoch settled may j k x y (inr old) (inl new) straight other = let before = may.after_straight j x old.1 straight in omega (arith, before, ap (λ (t : Attempt). t.epoch) new.1)
begun_first p by epoch settled may j k x y (inr old) (inr old') straight other = settled.straight_first j k x y old.1 straight old'.1 other

begun_apart : (p : PlainView) (by epoch : ℕ) → IsSettled (store_view p) → MayBegin (store_view p) by epoch → (j k : ℕ) (x y : Attempt)
    → ((j ≡ by) × (x ≡ attempt_of epoch false)) ⊎ ((j ≢ by) × (attempt_in (slice_get p.states j) ≡ Some x))
    → ((k ≡ by) × (y ≡ attempt_of epoch false)) ⊎ ((k ≢ by) × (attempt_in (slice_get p.states k) ≡ Some y)) → x.epoch ≡ y.epoch → j ≡ k
begun_apart p by epoch settled may j k x y (inl new) (inl new') same = new.0 ∙ sym new'.0
begun_apart p by epoch settled may j k x y (inl new) (inr old) same = absurd (may.new k y old.1 (sym same ∙ ap (λ (t : Attempt). t.epoch) new.1))
begun_apart p by epoch settled may j k x y (inr old) (inl new) same = absurd (may.new j x old.1 (same ∙ ap (λ (t : Attempt). t.epoch) new.1))
begun_apart p by epoch settled may j k x y (inr old) (inr old') same = settled.apart j k x y old.1 old'.1 same

begun_quiet : (state : CoreState) (epoch : ℕ) → IsQuiet (Some (begun state epoch))
begun_quiet state epoch = record {
  idle = λ none. absurd cc;
  straight = λ t at is. absurd (true≢false (sym is ∙ ap (λ (x : Attempt). x.straight) (sym (same_Some (attempt_of epoch false) t at))));
}

pub begun_settled : (p : PlainView) (by epoch budget : ℕ) (state : CoreState) → IsSettled (store_view p) → MayBegin (store_view p) by epoch
    → IsSettled (store_view (with_state p p.committed by (begun state epoch) budget))
begun_settled p by epoch budget state settled may =
    let q = with_state p p.committed by (begun state epoch) budget in
    let quiet = quiet_state p by (begun state epoch) may.there (begun_quiet state epoch) settled in
    let at = where_at p by (begun state epoch) (attempt_of epoch false) may.there refl in record {
      there = λ k x is. elim (at k x is) [
        | inl new ↦ omega (arith, new.0, may.there, length-set p.states by (begun state epoch))
        | inr old ↦ omega (arith, settled.there k x old.1, length-set p.states by (begun state epoch))
      ];
      apart = λ j k x y at_j at_k same. begun_apart p by epoch settled may j k x y (at j x at_j) (at k y at_k) same;
      straight_first = λ j k x y at_j straight at_k other. begun_first p by epoch settled may j k x y (at j x at_j) (at k y at_k) straight other;
      idle = λ k none. clear_of q k ((quiet k).idle none);
      straight = λ k x is straight. clear_of q k ((quiet k).straight x is straight);
      whole_lines = λ cached k a b same guarded. absurd (true≢false (sym cached));
    }

pub begins : (p : PlainView) (by epoch budget : ℕ) (state : CoreState) → MayBegin (store_view p) by epoch → slice_get p.states by ≡ Some state
    → Begins (store_view p) (store_view (with_state p p.committed by (begun state epoch) budget)) by epoch
begins p by epoch budget state may there =
    let q = with_state p p.committed by (begun state epoch) budget in
    let now = here p by (begun state epoch) may.there in record {
      shape = shape_same p q (alike_state p p.committed by (begun state epoch) budget refl);
      cached = refl;
      committed = λ a. refl;
      attempt = ap attempt_in now;
      own = λ a. ap (λ x. is_some (own_in x a)) now ∙ sym (ap (λ x. is_some (own_in x a)) there);
      guarded = λ a. ap (λ x. is_some (guarded_in x a)) now ∙ sym (ap (λ x. is_some (guarded_in x a)) there);
      sees = λ a. ap (λ x. over (own_in x) (λ b. slice_index p.committed b) a) now ∙ sym (ap (λ x. over (own_in x) (λ b. slice_index p.committed b) a) there);
      others = λ k other. same_core p q k (get_set_other p.states by k (begun state epoch) other) (λ a. refl);
    }

-- ---- leave and cancel

idle_quiet : (state : CoreState) → IsIdle state → IsQuiet (Some state)
idle_quiet state idle = record {
  idle = λ none. bare_state state idle.keeps;
  straight = λ t at is. bare_state state idle.keeps;
}

ended_came : (p : PlainView) (by : ℕ) (state : CoreState) → by < length p.states → IsIdle state → (k : ℕ) (now : Attempt) → attempt_in (slice_get (set p.states by state) k) ≡ Some now → CameFrom p k now
ended_came p by state below idle k now at = elim (cases_eq k by) [
  | inl e ↦ absurd (none_and_some _ now (ap (λ j. attempt_in (slice_get (set p.states by state) j)) e ∙ (ap attempt_in (here p by state below) ∙ idle.attempt)) at)
  | inr other ↦ came_same p k _ now (get_set_other p.states by k state other) at
]

pub ended_settled : (p : PlainView) (by budget : ℕ) (state : CoreState) → IsSettled (store_view p) → by < length p.states → IsIdle state
    → IsSettled (store_view (with_state p p.committed by state budget))
ended_settled p by budget state settled below idle =
    settled_from p (with_state p p.committed by state budget) settled (length-set p.states by state) (ended_came p by state below idle)
    (quiet_state p by state below (idle_quiet state idle) settled)

pub ends : (p : PlainView) (by budget : ℕ) (state : CoreState) → by < length p.states → IsIdle state → Ends (store_view p) (store_view (with_state p p.committed by state budget)) by
ends p by budget state below idle =
    let q = with_state p p.committed by state budget in
    let now = here p by state below in record {
      shape = shape_same p q (alike_state p p.committed by state budget refl);
      cached = refl;
      committed = λ a. refl;
      attempt = ap attempt_in now ∙ idle.attempt;
      clear = clear_of q by (subst IsBare (sym now) (bare_state state idle.keeps));
      others = λ k other. same_core p q k (get_set_other p.states by k state other) (λ a. refl);
    }

-- a straight core keeps nothing
pub straight_bare : (p : PlainView) (by : ℕ) (state : CoreState) → IsSettled (store_view p) → Runs (store_view p) by true → slice_get p.states by ≡ Some state → IsBare (Some state)
straight_bare p by state settled runs there = subst IsBare there (bare_of p by (settled.straight by (attempt_of runs.epoch true) runs.is refl))

-- ---- speculative accesses

-- a state whose attempt is not straight is quiet
running_quiet : (state : CoreState) (epoch : ℕ) → state.attempt ≡ Some (attempt_of epoch false) → IsQuiet (Some state)
running_quiet state epoch is = record {
  idle = λ none. absurd (none_and_some _ _ none is);
  straight = λ t at straight. absurd (true≢false (sym straight ∙ ap (λ (x : Attempt). x.straight) (one_value _ t (attempt_of epoch false) at is)));
}

pub runs_here : (p : PlainView) (by : ℕ) (state : CoreState) (straight : Bool) (runs : Runs (store_view p) by straight) → slice_get p.states by ≡ Some state → state.attempt ≡ Some (attempt_of runs.epoch straight)
runs_here p by state straight runs there = sym (ap attempt_in there) ∙ runs.is

pub access_settled : (p : PlainView) (by budget : ℕ) (state state' : CoreState) → IsSettled (store_view p) → Runs (store_view p) by false → slice_get p.states by ≡ Some state → state'.attempt ≡ state.attempt
    → IsSettled (store_view (with_state p p.committed by state' budget))
access_settled p by budget state state' settled runs there same =
    let below = settled.there by (attempt_of runs.epoch false) runs.is in
    settled_from p (with_state p p.committed by state' budget) settled (length-set p.states by state') (came_state p by state state' below there same)
    (quiet_state p by state' below (running_quiet state' runs.epoch (same ∙ runs_here p by state false runs there)) settled)
