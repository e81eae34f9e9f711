-- Whom the calls of a turn violate: the cores that lose their attempts, which the views before and after it show.
use Rattle.std.proofs.Common.{◌≡◌, ◌≢◌, ℕ, ◌&&◌, not, Bool, true, false, Option, Some, None, is_some, refl, sym, ap, ◌∙◌, inl, inr, true≢false}
use Rattle.std.proofs.Math.Path.{fun_ext}
use Rattle.std.proofs.lemmas.Bool.{cases_eq, and_right}
use Rattle.memory_bytes.proofs.SmallFacts.{apart_by_test}
use Rattle.violations.specs.declared.attempt.Attempt.{Attempt}
use Rattle.violations.specs.View.{StoreView, attempt_of, epoch_of}
use Rattle.violations.specs.Rule.{IsSameView, HurtsLater, Guards, Publishes}

-- the cores that lose their attempts
abbrev pub lost : StoreView → StoreView → ℕ → Bool
lost v w k = is_some (v.attempt k) && not (is_some (w.attempt k))

-- those but for these
abbrev pub lost_later : (ℕ → Bool) → StoreView → StoreView → ℕ → Bool
lost_later first v w k = lost v w k && not (first k)

lost_none : (x y : Option Attempt) → y ≡ x → (is_some x && not (is_some y)) ≡ false
lost_none None y e = refl
lost_none (Some t) y e = ap (λ o. not (is_some o)) e

and_true : (b : Bool) → (b && true) ≡ b
and_true true = refl
and_true false = refl

-- one call of a core that keeps its own attempt
hurt_at : (v w : StoreView) (by : ℕ) (hurt : ℕ → Bool) → HurtsLater v w by hurt → w.attempt by ≡ v.attempt by → (k : ℕ) → hurt k ≡ lost v w k
hurt_at v w by hurt hurts own k = pick (hurt k) refl
  where
    pick : (b : Bool) → hurt k ≡ b → hurt k ≡ lost v w k
    pick true e =
        let h = hurts.hurts k e in
        e ∙ sym (ap (λ o. is_some o && not (is_some (w.attempt k))) h.had ∙ ap (λ o. not (is_some o)) h.none)
    pick false e = elim (cases_eq k by) [
      | inl same ↦ e ∙ sym (lost_none (v.attempt k) (w.attempt k) (ap w.attempt same ∙ (own ∙ ap v.attempt (sym same))))
      | inr other ↦ e ∙ sym (lost_none (v.attempt k) (w.attempt k) (hurts.spares k other e).attempt)
    ]

pub hurt_is : (v w : StoreView) (by : ℕ) (hurt : ℕ → Bool) → HurtsLater v w by hurt → w.attempt by ≡ v.attempt by → hurt ≡ lost v w
hurt_is v w by hurt hurts own = fun_ext (hurt_at v w by hurt hurts own)

-- the first of two calls violates nobody
pub later_of_none : (first : ℕ → Bool) (v w : StoreView) → ((k : ℕ) → first k ≡ false) → lost v w ≡ lost_later first v w
later_of_none first v w none = fun_ext (λ k. sym (ap (λ b. lost v w k && not b) (none k) ∙ and_true (lost v w k)))

-- a publish, and a call after it
pub later_is : (v x w : StoreView) (by : ℕ) (first second : ℕ → Bool) → Publishes v x by first → HurtsLater x w by second → w.attempt by ≡ x.attempt by → second ≡ lost_later first v w
later_is v x w by first second publishes hurts own = fun_ext at
  where
    none_after : (k : ℕ) → x.attempt k ≡ None → second k ≡ false
    none_after k none = pick (second k) refl
      where
        pick : (b : Bool) → second k ≡ b → second k ≡ false
        pick true e = let had = (hurts.hurts k e).had in absurd cc
        pick false e = e

    at : (k : ℕ) → second k ≡ lost_later first v w k
    at k = pick (first k) refl
      where
        pick : (b : Bool) → first k ≡ b → second k ≡ lost_later first v w k
        pick true e = none_after k (publishes.others.hurts k e).none ∙ sym (ap (λ b. lost v w k && not b) e ∙ and_right (lost v w k) false refl)
        pick false e = elim (cases_eq k by) [
          | inl same ↦
              let now : x.attempt k ≡ Some (attempt_of (epoch_of (v.attempt by)) true) = ap x.attempt same ∙ publishes.attempt in
              let kept : w.attempt k ≡ x.attempt k = ap w.attempt same ∙ (own ∙ ap x.attempt (sym same)) in
              ap second same ∙ (hurts.not_itself ∙ sym (ap (λ o. (is_some (v.attempt k) && not (is_some o)) && not (first k)) (kept ∙ now)
              ∙ (ap (λ b. b && not (first k)) (and_right (is_some (v.attempt k)) false refl))))
          | inr other ↦
              let spared : x.attempt k ≡ v.attempt k = (publishes.others.spares k other e).attempt in
              hurt_at x w by second hurts own k ∙ (ap (λ o. is_some o && not (is_some (w.attempt k))) spared
              ∙ sym (ap (λ b. lost v w k && not b) e ∙ and_true (lost v w k)))
        ]

-- ---- whom a publish violates

-- exactly the others that guard a byte of the core's own
pub record IsReaders (v : StoreView) (by : ℕ) (hurt : ℕ → Bool) : Type 0 where
  pub others : hurt by ≡ false
  pub meets : (k : ℕ) → hurt k ≡ true → Guards v k (v.own by)
  pub tells : (k : ℕ) → k ≢ by → Guards v k (v.own by) → hurt k ≡ true

pub readers_of : (v w : StoreView) (by : ℕ) (hurt : ℕ → Bool) → Publishes v w by hurt → IsReaders v by hurt
readers_of v w by hurt publishes = record { others = publishes.others.not_itself; meets = publishes.meets; tells = publishes.tells }

pub one_readers : (v : StoreView) (by : ℕ) (hurt hurt' : ℕ → Bool) → IsReaders v by hurt → IsReaders v by hurt' → hurt ≡ hurt'
one_readers v by hurt hurt' one other = fun_ext (λ k. pick k (hurt k) (hurt' k) refl refl)
  where
    pick : (k : ℕ) (b c : Bool) → hurt k ≡ b → hurt' k ≡ c → hurt k ≡ hurt' k
    pick k true c e f = e ∙ sym (other.tells k (apart_by_test hurt by k one.others e) (one.meets k e))
    pick k false true e f = absurd (true≢false (sym (one.tells k (apart_by_test hurt' by k other.others f) (other.meets k f)) ∙ e))
    pick k false false e f = e ∙ sym f

-- ---- views that are seen the same are one

pub one_view : (v w : StoreView) → IsSameView v w → v ≡ w
one_view v w same = (λ i. record {
  shape = sym same.shape i;
  cached = sym same.cached i;
  committed = λ a. sym (same.committed a) i;
  attempt = λ k. sym (same.cores k).attempt i;
  sees = λ k a. sym ((same.cores k).sees a) i;
  own = λ k a. sym ((same.cores k).own a) i;
  guarded = λ k a. sym ((same.cores k).guarded a) i;
})
