-- What a step leaves as it was: facts of each seat, and of each two, where one seat's view changes or a seat is added.
use Rattle.std.proofs.Common.{◌≡◌, ℕ, ◌<◌, ◌≢◌, ◌⊎◌, zero, suc, List, [], ◌∷◌, ◌++◌, length, set, refl, sym, ◌∙◌, subst, inl, inr, ⊎_elim, arith}
use mathlib.Core.Option.{some, some-injective, some-ne-none}
use lib.ListN.{get_elem?}
use Rattle.atomic_table.proofs.Lists.{at_set, set_here}
use Rattle.ticket_lock.specs.declared.rule.View.{View}
use Rattle.ticket_lock.specs.Rule.{IsLive, AreApart, IsSeated}

module _ {X : Type 0} where
  -- an element of a list with one more at its end
  pub at_end : (l : List X) (a b : X) (j : ℕ) → get_elem? (l ++ a ∷ []) j ≡ some b → (get_elem? l j ≡ some b) ⊎ ((j ≡ length l) × (a ≡ b))
  at_end [] a b zero e = inr (refl, some-injective a b e)
  at_end [] a b (suc j) e = absurd (some-ne-none b (sym e))
  at_end (x ∷ xs) a b zero e = inl e
  at_end (x ∷ xs) a b (suc j) e = ⊎_elim (λ p. inl p) (λ p. let n = p.0 in inr (omega arith, p.1)) (at_end xs a b j e)

  at_within : (l : List X) (j : ℕ) (b : X) → get_elem? l j ≡ some b → j < length l
  at_within [] j b e = absurd (some-ne-none b (sym e))
  at_within (x ∷ xs) zero b e = omega arith
  at_within (x ∷ xs) (suc j) b e = let h = at_within xs j b e in omega arith

  -- an element that was there is replaced
  pub set_there : (l : List X) (j : ℕ) (a b : X) → get_elem? l j ≡ some a → get_elem? (set l j b) j ≡ some b
  set_there l j a b e = set_here l j b (at_within l j a e)

module _ {F W : Type 0} where
  pub each_set : (P : View F W → Type 0) (views : List (View F W)) (id : ℕ) (w : View F W) → (IsLive w → P w)
      → ((j : ℕ) (u : View F W) → j ≢ id → IsSeated views j u → P u)
      → (j : ℕ) (u : View F W) → IsSeated (set views id w) j u → P u
  each_set P views id w here others j u s =
      ⊎_elim
      (λ t. subst (λ (z : View F W). IsLive z → P z) t.1 here s.1)
      (λ t. others j u t.0 (t.1, s.1))
      (at_set views id j w u s.0)

  pub each_end : (P : View F W → Type 0) (views : List (View F W)) (w : View F W) → (IsLive w → P w)
      → ((j : ℕ) (u : View F W) → IsSeated views j u → P u)
      → (j : ℕ) (u : View F W) → IsSeated (views ++ w ∷ []) j u → P u
  each_end P views w here others j u s =
      ⊎_elim
      (λ t. others j u (t, s.1))
      (λ t. subst (λ (z : View F W). IsLive z → P z) t.1 here s.1)
      (at_end views w u j s.0)

  pub apart_swapped : (v w : View F W) → AreApart v w → AreApart w v
  apart_swapped v w a = record { numbers = λ k p q. a.numbers k q p; tickets = λ t p q. a.tickets t q p }

  abbrev pub AllApart : List (View F W) → Type 0
  AllApart views = (i j : ℕ) (v w : View F W) → i ≢ j → IsSeated views i v → IsSeated views j w → AreApart v w

  pub apart_set : (views : List (View F W)) (id : ℕ) (w : View F W) → AllApart views
      → ((j : ℕ) (u : View F W) → j ≢ id → IsSeated views j u → IsLive w → AreApart w u) → AllApart (set views id w)
  apart_set views id w old new i j x y ne sx sy =
      ⊎_elim
      (λ p. ⊎_elim
      (λ q. absurd (ne (p.0 ∙ sym q.0)))
      (λ q. subst (λ (z : View F W). AreApart z y) p.1 (new j y q.0 (q.1, sy.1) (subst (λ (z : View F W). IsLive z) (sym p.1) sx.1)))
      (at_set views id j w y sy.0))
      (λ p. ⊎_elim
      (λ q. apart_swapped y x (subst (λ (z : View F W). AreApart z x) q.1 (new i x p.0 (p.1, sx.1) (subst (λ (z : View F W). IsLive z) (sym q.1) sy.1))))
      (λ q. old i j x y ne (p.1, sx.1) (q.1, sy.1))
      (at_set views id j w y sy.0))
      (at_set views id i w x sx.0)

  pub apart_end : (views : List (View F W)) (w : View F W) → AllApart views
      → ((j : ℕ) (u : View F W) → IsSeated views j u → IsLive w → AreApart w u) → AllApart (views ++ w ∷ [])
  apart_end views w old new i j x y ne sx sy =
      ⊎_elim
      (λ p. ⊎_elim
      (λ q. old i j x y ne (p, sx.1) (q, sy.1))
      (λ q. apart_swapped y x (subst (λ (z : View F W). AreApart z x) q.1 (new i x (p, sx.1) (subst (λ (z : View F W). IsLive z) (sym q.1) sy.1))))
      (at_end views w y j sy.0))
      (λ p. ⊎_elim
      (λ q. subst (λ (z : View F W). AreApart z y) p.1 (new j y (q, sy.1) (subst (λ (z : View F W). IsLive z) (sym p.1) sx.1)))
      (λ q. absurd (ne (p.0 ∙ sym q.0)))
      (at_end views w y j sy.0))
      (at_end views w x i sx.0)
