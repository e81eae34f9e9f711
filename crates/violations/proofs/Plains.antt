-- What calls of the plain store do to its view.
use Rattle.std.proofs.Common.{◌≡◌, ◌≢◌, ◌⊎◌, ℕ, ◌<◌, ◌≤◌, Bool, true, false, List, length, set, slice_get, slice_index, Option, Some, None, is_some, unwrap_or, refl, sym, ap, subst, ◌∙◌, inl, inr, arith, length-set, true≢false}
use Rattle.std.proofs.lemmas.Bool.{cases_eq}
use Rattle.memory_bytes.specs.Maps.{over}
use Rattle.rv32_image.proofs.SmallFacts.{none_of, unwrap_none}
use Rattle.violations.specs.declared.attempt.Attempt.{Attempt}
use Rattle.violations.specs.declared.core_state.CoreState.{CoreState}
use Rattle.violations.specs.View.{Shape, IsClear, IsSettled}
use Rattle.violations.specs.Rule.{IsSameCore, IsSpared, HurtsLater}
use Rattle.violations.specs.CoreState.{IsWithin, HasRoom, KeepsNothing}
use Rattle.violations.specs.Plain.{PlainView, attempt_in, own_in, guarded_in, store_view, IsFit}
use Rattle.violations.proofs.Changing.{get_set_same, get_set_other, all_set}

-- ---- cores that keep nothing

pub record IsBare (x : Option CoreState) : Type 0 where
  pub own : (a : ℕ) → own_in x a ≡ None
  pub guarded : (a : ℕ) → guarded_in x a ≡ None

pub clear_of : (p : PlainView) (k : ℕ) → IsBare (slice_get p.states k) → IsClear (store_view p) k
clear_of p k bare = record {
  own = λ a. ap is_some (bare.own a);
  guarded = λ a. ap is_some (bare.guarded a);
  sees = λ a. ap (λ o. unwrap_or o (slice_index p.committed a)) (bare.own a);
}

pub bare_of : (p : PlainView) (k : ℕ) → IsClear (store_view p) k → IsBare (slice_get p.states k)
bare_of p k clear = record { own = λ a. none_of _ (clear.own a); guarded = λ a. none_of _ (clear.guarded a) }

pub bare_state : (state : CoreState) → KeepsNothing state → IsBare (Some state)
bare_state state keeps = record { own = keeps.own; guarded = keeps.guarded }

-- where it runs nothing, or is straight, it keeps nothing
pub record IsQuiet (x : Option CoreState) : Type 0 where
  pub idle : attempt_in x ≡ None → IsBare x
  pub straight : (t : Attempt) → attempt_in x ≡ Some t → t.straight ≡ true → IsBare x

pub quiet_of : (p : PlainView) (k : ℕ) → IsSettled (store_view p) → IsQuiet (slice_get p.states k)
quiet_of p k settled = record {
  idle = λ none. bare_of p k (settled.idle k none);
  straight = λ t at is. bare_of p k (settled.straight k t at is);
}

-- ---- other cores

seen_own : (own : Option ℕ) (committed committed' : ℕ) → is_some own ≡ true → unwrap_or own committed' ≡ unwrap_or own committed
seen_own None committed committed' is = absurd cc
seen_own (Some byte) committed committed' is = refl

pub same_core : (p q : PlainView) (k : ℕ) → slice_get q.states k ≡ slice_get p.states k → ((a : ℕ) → slice_index q.committed a ≡ slice_index p.committed a) → IsSameCore (store_view p) (store_view q) k
same_core p q k same committed = record {
  attempt = ap attempt_in same;
  own = λ a. ap (λ x. is_some (own_in x a)) same;
  guarded = λ a. ap (λ x. is_some (guarded_in x a)) same;
  sees = λ a. ap (λ x. over (own_in x) (λ b. slice_index q.committed b) a) same ∙ ap (λ c. unwrap_or (own_in (slice_get p.states k) a) c) (committed a);
}

pub spared_of : (p q : PlainView) (k : ℕ) → slice_get q.states k ≡ slice_get p.states k
    → ((a : ℕ) → is_some (guarded_in (slice_get p.states k) a) ≡ true → slice_index q.committed a ≡ slice_index p.committed a) → IsSpared (store_view p) (store_view q) k
spared_of p q k same stands = record {
  attempt = ap attempt_in same;
  own = λ a. ap (λ x. is_some (own_in x a)) same;
  guarded = λ a. ap (λ x. is_some (guarded_in x a)) same;
  sees_own = λ a own. ap (λ x. over (own_in x) (λ b. slice_index q.committed b) a) same ∙ seen_own (own_in (slice_get p.states k) a) (slice_index p.committed a) (slice_index q.committed a) own;
  sees_rest = λ a none. ap (λ x. over (own_in x) (λ b. slice_index q.committed b) a) same ∙ unwrap_none (own_in (slice_get p.states k) a) (slice_index q.committed a) none;
  stands = stands;
}

-- where nobody is violated and nothing committed, the others are as they were
pub none_hurt : (p q : PlainView) (by : ℕ) (hurt : ℕ → Bool) → ((k : ℕ) → hurt k ≡ false) → ((k : ℕ) → k ≢ by → slice_get q.states k ≡ slice_get p.states k)
    → ((a : ℕ) → slice_index q.committed a ≡ slice_index p.committed a) → HurtsLater (store_view p) (store_view q) by hurt
none_hurt p q by hurt none same committed = record {
  not_itself = none by;
  hurts = λ k is. absurd (true≢false (sym is ∙ none k));
  spares = λ k other unhurt. spared_of p q k (same k other) (λ a guarded. committed a);
}

-- it is made for the same
pub record IsAlike (p q : PlainView) : Type 0 where
  pub code : q.code ≡ p.code
  pub machine : q.machine ≡ p.machine
  pub committed : length q.committed ≡ length p.committed
  pub states : length q.states ≡ length p.states

abbrev shape_in : PlainView → Shape
shape_in p = record { cores = length p.states; size = length p.committed; code = p.code; machine = p.machine }

pub shape_same : (p q : PlainView) → IsAlike p q → shape_in q ≡ shape_in p
shape_same p q alike = let code = alike.code in let machine = alike.machine in let committed = alike.committed in let states = alike.states in cc

-- ---- what every store keeps

-- an attempt was there before, and is straight now only where it was, or where no epoch is before its own
pub record CameFrom (p : PlainView) (k : ℕ) (now : Attempt) : Type 0 where
  pub was : Attempt
  pub is : attempt_in (slice_get p.states k) ≡ Some was
  pub epoch : now.epoch ≡ was.epoch
  pub straight : now.straight ≡ true → (was.straight ≡ true) ⊎ ((j : ℕ) (x : Attempt) → attempt_in (slice_get p.states j) ≡ Some x → was.epoch ≤ x.epoch)

first_by : (p : PlainView) (j k : ℕ) (x y x' y' : Attempt) → IsSettled (store_view p) → attempt_in (slice_get p.states j) ≡ Some x → attempt_in (slice_get p.states k) ≡ Some y → k ≢ j
    → x'.epoch ≡ x.epoch → y'.epoch ≡ y.epoch → (x.straight ≡ true) ⊎ ((i : ℕ) (z : Attempt) → attempt_in (slice_get p.states i) ≡ Some z → x.epoch ≤ z.epoch) → x'.epoch < y'.epoch
first_by p j k x y x' y' settled at_j at_k other same_x same_y (inl straight) = omega (arith, settled.straight_first j k x y at_j straight at_k other, same_x, same_y)
first_by p j k x y x' y' settled at_j at_k other same_x same_y (inr first) =
    let apart : x.epoch ≢ y.epoch = λ e. other (sym (settled.apart j k x y at_j at_k e)) in omega (arith, first k y at_k, apart, same_x, same_y)

pub settled_from : (p q : PlainView) → IsSettled (store_view p) → length q.states ≡ length p.states → ((k : ℕ) (now : Attempt) → attempt_in (slice_get q.states k) ≡ Some now → CameFrom p k now)
    → ((k : ℕ) → IsQuiet (slice_get q.states k)) → IsSettled (store_view q)
settled_from p q settled long came quiet = record {
  there = λ k x at. let from = came k x at in omega (arith, settled.there k from.was from.is, long);
  apart = λ j k x y at_j at_k same.
      let one = came j x at_j in let two = came k y at_k in
      settled.apart j k one.was two.was one.is two.is (sym one.epoch ∙ (same ∙ two.epoch));
  straight_first = λ j k x y at_j straight at_k other.
      let one = came j x at_j in let two = came k y at_k in
      first_by p j k one.was two.was x y settled one.is two.is other one.epoch two.epoch (one.straight straight);
  idle = λ k none. clear_of q k ((quiet k).idle none);
  straight = λ k x at is. clear_of q k ((quiet k).straight x at is);
  whole_lines = λ cached k a b same guarded. absurd (true≢false (sym cached));
}

pub came_same : (p : PlainView) (k : ℕ) (x : Option CoreState) (now : Attempt) → x ≡ slice_get p.states k → attempt_in x ≡ Some now → CameFrom p k now
came_same p k x now same at = record { was = now; is = sym (ap attempt_in same) ∙ at; epoch = refl; straight = λ is. inl is }

-- ---- one state changes

abbrev pub with_state : PlainView → List ℕ → ℕ → CoreState → ℕ → PlainView
with_state p committed by state budget = record { code = p.code; machine = p.machine; committed = committed; states = set p.states by state; budget = budget }

pub alike_state : (p : PlainView) (committed : List ℕ) (by : ℕ) (state : CoreState) (budget : ℕ) → length committed ≡ length p.committed → IsAlike p (with_state p committed by state budget)
alike_state p committed by state budget same = record { code = refl; machine = refl; committed = same; states = length-set p.states by state }

pub fit_state : (p : PlainView) (by : ℕ) (state : CoreState) (budget : ℕ) → by < length p.states → budget ≤ p.budget → IsWithin (length p.committed) state
    → (1 ≤ budget → HasRoom (length p.committed) budget state) → IsFit p → IsFit (with_state p p.committed by state budget)
fit_state p by state budget below less within room fit = record {
  least = fit.least;
  small = fit.small;
  count = omega (arith, fit.count, length-set p.states by state);
  within = record { each = all_set (IsWithin (length p.committed)) p.states by state below within fit.within.each };
  room = λ some. record {
    each = all_set (HasRoom (length p.committed) budget) p.states by state below (room some) (λ k l at.
        let was = (fit.room (omega (arith, some, less))).each k l at in
        record { own_cells = was.own_cells; guarded_cells = was.guarded_cells; own = omega (arith, was.own, less); guarded = omega (arith, was.guarded, less) });
  };
}

-- the caller's state, and the others as they were
pub here : (p : PlainView) (by : ℕ) (state : CoreState) → by < length p.states → slice_get (set p.states by state) by ≡ Some state
here p by state below = get_set_same p.states by state below

pub quiet_state : (p : PlainView) (by : ℕ) (state : CoreState) → by < length p.states → IsQuiet (Some state) → IsSettled (store_view p) → (k : ℕ) → IsQuiet (slice_get (set p.states by state) k)
quiet_state p by state below quiet settled k = elim (cases_eq k by) [
  | inl e ↦ subst IsQuiet (sym (ap (slice_get (set p.states by state)) e ∙ here p by state below)) quiet
  | inr other ↦ subst IsQuiet (sym (get_set_other p.states by k state other)) (quiet_of p k settled)
]

-- the caller's attempt is as it was
pub came_state : (p : PlainView) (by : ℕ) (state state' : CoreState) → by < length p.states → slice_get p.states by ≡ Some state → state'.attempt ≡ state.attempt
    → (k : ℕ) (now : Attempt) → attempt_in (slice_get (set p.states by state') k) ≡ Some now → CameFrom p k now
came_state p by state state' below there same k now at = elim (cases_eq k by) [
  | inl e ↦
      let now_here : state'.attempt ≡ Some now = sym (ap attempt_in (ap (slice_get (set p.states by state')) e ∙ here p by state' below)) ∙ at in
      record { was = now; is = ap (λ j. attempt_in (slice_get p.states j)) e ∙ (ap attempt_in there ∙ (sym same ∙ now_here)); epoch = refl; straight = λ is. inl is }
  | inr other ↦ came_same p k _ now (get_set_other p.states by k state' other) at
]
