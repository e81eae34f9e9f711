-- The attempts of all other cores end, one after another.
use Rattle.std.proofs.Common.{◌≡◌, ◌≢◌, ◌≤◌, ◌<◌, ◌+◌, ℕ, Bool, true, false, List, length, Option, Some, None, refl, sym, ap, subst, ◌∙◌, inl, inr, arith}
use Rattle.std.proofs.lemmas.Bool.{cases_eq, cases_lt}
use Rattle.std.proofs.lemmas.List.{get_or_past}
use Rattle.violations.specs.View.{StoreView}
use Rattle.violations.specs.Rule.{IsSameCore}
use Rattle.homefree.specs.declared.register.Running.{Running}
use Rattle.homefree.specs.Arms.{HasAttempt, HasAttemptUnless, EndsAttempt}
use Rattle.homefree.specs.Kept.{running_at}
use Rattle.homefree.specs.Turned.{CancelsOthers}

-- those below k have ended, but for the core's own
pub record CancelsBelow (old new : StoreView) (by k : ℕ) : Type 0 where
  pub shape : new.shape ≡ old.shape
  pub cached : new.cached ≡ old.cached
  pub committed : (a : ℕ) → new.committed a ≡ old.committed a
  pub own : IsSameCore old new by
  pub rest : (j : ℕ) → k ≤ j → new.attempt j ≡ old.attempt j
  pub ended : (j : ℕ) → j < k → j ≢ by → new.attempt j ≡ None

pub none_below : (v : StoreView) (by : ℕ) → CancelsBelow v v by 0
none_below v by = record {
  shape = refl;
  cached = refl;
  committed = λ a. refl;
  own = record { attempt = refl; own = λ a. refl; guarded = λ a. refl; sees = λ a. refl };
  rest = λ j from. refl;
  ended = λ j below. absurd (omega (arith, below));
}

then_same : (v w x : StoreView) (k : ℕ) → IsSameCore v w k → IsSameCore w x k → IsSameCore v x k
then_same v w x k one two = record {
  attempt = two.attempt ∙ one.attempt;
  own = λ a. two.own a ∙ one.own a;
  guarded = λ a. two.guarded a ∙ one.guarded a;
  sees = λ a. two.sees a ∙ one.sees a;
}

pub one_below : (old v w : StoreView) (by k : ℕ) → k ≢ by → CancelsBelow old v by k → EndsAttempt v w k → CancelsBelow old w by (k + 1)
one_below old v w by k other before one = record {
  shape = one.shape ∙ before.shape;
  cached = one.cached ∙ before.cached;
  committed = λ a. one.committed a ∙ before.committed a;
  own = then_same old v w by before.own (one.others by (λ same. other (sym same)));
  rest = λ j from. (one.others j (λ same. absurd (omega (arith, from, same)))).attempt ∙ before.rest j (omega (arith, from));
  ended = λ j below apart. elim (cases_eq j k) [
    | inl e ↦ ap w.attempt e ∙ one.none
    | inr differs ↦ (one.others j differs).attempt ∙ before.ended j (omega (arith, below, differs)) apart
  ];
}

pub own_below : (old v : StoreView) (by k : ℕ) → k ≡ by → CancelsBelow old v by k → CancelsBelow old v by (k + 1)
own_below old v by k same before = record {
  shape = before.shape;
  cached = before.cached;
  committed = before.committed;
  own = before.own;
  rest = λ j from. before.rest j (omega (arith, from));
  ended = λ j below apart. before.ended j (let differs : j ≢ k = λ e. apart (e ∙ same) in omega (arith, below, differs)) apart;
}

-- a core that is past the last one has no attempt
none_past : (v : StoreView) (running : List (Option Running)) (k : ℕ) → length running ≤ k → HasAttempt v k (running_at running k) → v.attempt k ≡ None
none_past v running k past has = subst (HasAttempt v k) (get_or_past running k None past) has

pub all_below : (old v : StoreView) (running : List (Option Running)) (by : ℕ) → ((k : ℕ) → k ≢ by → HasAttempt old k (running_at running k)) → CancelsBelow old v by (length running) → CancelsOthers old v by
all_below old v running by has before = record {
  shape = before.shape;
  cached = before.cached;
  committed = before.committed;
  own = before.own;
  others = λ k other. elim (cases_lt k (length running)) [
    | inl below ↦ before.ended k below other
    | inr past ↦ before.rest k past ∙ none_past old running k past (has k other)
  ];
}

same_unless : (v w : StoreView) (k : ℕ) (hurt : Bool) → w.attempt k ≡ v.attempt k → HasAttemptUnless hurt v k → HasAttemptUnless hurt w k
same_unless v w k true same none = same ∙ none
same_unless v w k false same runs = record { epoch = runs.epoch; is = same ∙ runs.is }

pub same_attempt : (v w : StoreView) (k : ℕ) (now : Option Running) → w.attempt k ≡ v.attempt k → HasAttempt v k now → HasAttempt w k now
same_attempt v w k None same none = same ∙ none
same_attempt v w k (Some now) same has = same_unless v w k now.hurt same has
