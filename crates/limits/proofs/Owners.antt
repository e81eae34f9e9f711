-- When a core begins the next epoch, all epochs that so many cores can't run beside it have committed before.
use Rattle.std.proofs.Common.{◌≡◌, ◌≢◌, ◌⊎◌, ℕ, zero, suc, ◌+◌, ◌<◌, ◌≤◌, ◌==◌, ◌||◌, Bool, true, false, Option, Some, None, refl, sym, ap, ◌∙◌, inl, inr, true≢false, arith, eq-eqb, ne_eqb}
use Rattle.std.proofs.lemmas.Bool.{cases_eq, cases_Bool}
use Rattle.std.proofs.lemmas.Option.{same_Some}
use Rattle.rv32_image.specs.Image.{LoadedImage}
use Rattle.spec_history.specs.FlatState.{FlatState}
use Rattle.spec_history.specs.Searches.{count_below}
use Rattle.epoch_paths.proofs.Cores.{count_more, count_most}
use Rattle.limits.specs.declared.limit.Waits.{Waits}
use Rattle.limits.proofs.Marks.{IsOwned, IsTimedIn, Marks}

no_count : (n : ℕ) → count_below n (λ k. false) ≡ 0
unfolding count_below
no_count zero = refl
no_count (suc n) = omega (arith, no_count n)

with_one : (ℕ → Bool) → ℕ → ℕ → Bool
with_one f at k = (k == at) || f k

one_there : (f : ℕ → Bool) (at : ℕ) → with_one f at at ≡ true
unfolding with_one
one_there f at = ap (λ b. b || f at) (eq-eqb at at refl)

one_other : (f : ℕ → Bool) (at k : ℕ) → k ≢ at → f k ≡ with_one f at k
unfolding with_one
one_other f at k other = sym (ap (λ b. b || f k) (ne_eqb k at other))

-- so many cores, none of which is this one, began these epochs last
record AreOwned (cores by first count : ℕ) (last : ℕ → Option ℕ) : Type 0 where
  pub owns : ℕ → Bool
  pub counted : count_below cores owns ≡ count
  pub not_it : owns by ≡ false
  pub why : (k : ℕ) → owns k ≡ true → (e : ℕ) × (e < count) × (last k ≡ Some (first + e))

module _ (image : LoadedImage) (waits : Waits) (cores now : ℕ) (s : FlatState) (m : Marks) (x : IsTimedIn image waits cores now s m) (by : ℕ)
    (idle : s.cores by ≡ None) (there : by < cores) (from : m.from by ≤ now) (first : ℕ) (last : first + cores ≡ s.next_epoch) where
  abbrev Before : Type 0
  Before = (first < s.homefree) × (m.timing.commit first < now)

  -- commits come in order
  rises : (n : ℕ) → first + n < s.homefree → m.timing.commit first ≤ m.timing.commit (first + n)
  rises zero low = let same : first + 0 ≡ first = omega arith in let is = ap m.timing.commit same in omega (arith, is)
  rises (suc n) low =
      let so_far = rises n (omega (arith, low)) in
      let more = x.in_order (first + n) (omega (arith, low)) in
      let same : first + suc n ≡ first + n + 1 = omega arith in let is = ap m.timing.commit same in omega (arith, so_far, more, is)

  before_by : (n : ℕ) → first + n < s.homefree → m.timing.commit (first + n) < now → Before
  before_by n low early = let rise = rises n low in (omega (arith, low), omega (arith, rise, early))

  one_owned : (n : ℕ) → first + n < s.next_epoch → IsOwned cores now s.homefree m (first + n)
      → Before ⊎ ((k : ℕ) × (k < cores) × (k ≢ by) × (m.last k ≡ Some (first + n)))
  one_owned n below (inl o) = inl (before_by n o.0 o.1)
  one_owned n below (inr o) = elim (cases_eq o.0 by) [
    | inl e ↦
        (let was = x.idle by idle (first + n) (ap m.last (sym e) ∙ o.2) in
        let low = was.1 in inl (before_by n was.0 (omega (arith, low, from))))
    | inr other ↦ inr (o.0, o.1, other, o.2)
  ]

  one_more : (n : ℕ) → (a : AreOwned cores by first n m.last) → (k : ℕ) → k < cores → k ≢ by → m.last k ≡ Some (first + n) → AreOwned cores by first (suc n) m.last
  one_more n a k below other is =
      let fresh : (b : Bool) → a.owns k ≡ b → a.owns k ≡ false = λ b same. elim (cases_Bool (a.owns k)) [
        | inl own ↦ (let was = a.why k own in let less = was.1 in let clash = same_Some _ _ (sym was.2 ∙ is) in absurd (omega (arith, less, clash)))
        | inr none ↦ none
      ] in
      let more = count_more cores k a.owns (with_one a.owns k) below (λ j apart. one_other a.owns k j apart) (fresh (a.owns k) refl) (one_there a.owns k) in
      let so_far = a.counted in record {
        owns = with_one a.owns k;
        counted = omega (arith, more, so_far);
        not_it = sym (one_other a.owns k by (λ same. other (sym same))) ∙ a.not_it;
        why = λ j own. elim (cases_eq j k) [
          | inl e ↦ (n, omega arith, ap m.last e ∙ is)
          | inr apart ↦ (let was = a.why j (one_other a.owns k j apart ∙ own) in let less = was.1 in (was.0, omega (arith, less), was.2))
        ];
      }

  reach : (n : ℕ) → n ≤ cores → Before ⊎ AreOwned cores by first n m.last
  reach zero most = inr (record { owns = λ k. false; counted = no_count cores; not_it = refl; why = λ k own. absurd (true≢false (sym own)) })
  reach (suc n) most = elim (reach n (omega (arith, most))) [
    | inl before ↦ inl before
    | inr a ↦ elim (one_owned n (omega (arith, most, last)) (x.owned (first + n) (omega (arith, most, last)))) [
      | inl before ↦ inl before
      | inr o ↦ inr (one_more n a o.0 o.1 o.2 o.3)
    ]
  ]

  pub committed_before : (first < s.homefree) × (m.timing.commit first < now)
  committed_before = elim (reach cores (omega arith)) [
    | inl before ↦ before
    | inr a ↦
        (let more = count_more cores by a.owns (with_one a.owns by) there (λ j apart. one_other a.owns by j apart) a.not_it (one_there a.owns by) in
        let most = count_most cores (with_one a.owns by) in
        let counted = a.counted in absurd (omega (arith, more, most, counted)))
  ]
