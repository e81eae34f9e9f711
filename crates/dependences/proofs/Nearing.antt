-- The nearest of the dependences so far, as they come.
use Rattle.std.proofs.Common.{◌≡◌, ℕ, ◌-◌, ◌≤◌, Bool, true, false, cond, nat_lt, List, [], ◌∷◌, ◌++◌, Option, Some, None, refl, sym, ap, subst, arith, inl, inr}
use Rattle.std.proofs.lemmas.Bool.{ltb-false, ltb-true}
use Rattle.dependences.specs.declared.flow.Dependence.{Dependence}
use Rattle.dependences.specs.Kept.{AreNoNearer, HasAsNear, IsAtMost, IsNearestOf, nearer}
use Rattle.dependences.proofs.Flowing.{got_either, later_new, later_old}

-- ---- two distances

lower_is : (n d : ℕ) (b : Bool) → nat_lt n d ≡ b → n ≤ d → cond b n d ≡ n
lower_is n d true is low = refl
lower_is n d false is low = let least = ltb-false n d is in omega (arith, low, least)

lower_first : (n d : ℕ) (b : Bool) → nat_lt n d ≡ b → cond b n d ≤ n
lower_first n d true is = omega arith
lower_first n d false is = let least = ltb-false n d is in omega (arith, least)

lower_second : (n d : ℕ) (b : Bool) → nat_lt n d ≡ b → cond b n d ≤ d
lower_second n d true is = let less = ltb-true n d is in omega (arith, less)
lower_second n d false is = omega arith

-- no nearer than the nearest, so this stays
still_nearest : (o : Option ℕ) (d : ℕ) → IsAtMost o d → nearer o (Some d) ≡ o
still_nearest (Some n) d low = ap Some (lower_is n d (nat_lt n d) refl low)
still_nearest None d low = absurd low

at_most_new : (o : Option ℕ) (d : ℕ) → IsAtMost (nearer o (Some d)) d
at_most_new (Some n) d = lower_second n d (nat_lt n d) refl
at_most_new None d = omega arith

at_most_old : (o : Option ℕ) (d e : ℕ) → IsAtMost o e → IsAtMost (nearer o (Some d)) e
at_most_old (Some n) d e low = let least = lower_first n d (nat_lt n d) refl in omega (arith, low, least)
at_most_old None d e low = absurd low

at_most_less : (o : Option ℕ) (d e : ℕ) → IsAtMost o d → d ≤ e → IsAtMost o e
at_most_less (Some n) d e low more = omega (arith, low, more)
at_most_less None d e low more = absurd low

-- ---- the nearest

-- another of these is as near, so the nearest stays
pub far_from : (list : List Dependence) (nearest : Option ℕ) (d : ℕ) → AreNoNearer list nearest → HasAsNear list d → nearer nearest (Some d) ≡ nearest
far_from list nearest d least near = still_nearest nearest d (at_most_less nearest (near.1.later - near.1.earlier) d (least near.0 near.1 near.2) near.3)

-- with one more
nearest_more : (list : List Dependence) (x : Dependence) (nearest nearest' : Option ℕ) → nearest' ≡ nearer nearest (Some (x.later - x.earlier)) → AreNoNearer list nearest
    → AreNoNearer (list ++ x ∷ []) nearest'
nearest_more list x nearest nearest' is least place one at = rw is (elim (got_either list x one place at) [
  | inl old ↦ at_most_old nearest (x.later - x.earlier) (one.later - one.earlier) (least place one old)
  | inr same ↦ subst (λ (y : Dependence). IsAtMost (nearer nearest (Some (x.later - x.earlier))) (y.later - y.earlier)) same.1 (at_most_new nearest (x.later - x.earlier))
])

-- this one is the nearest now
pub now_nearest : (list : List Dependence) (x : Dependence) (nearest : Option ℕ) (later : ℕ) → nearer nearest (Some (x.later - x.earlier)) ≡ Some (x.later - x.earlier)
    → IsNearestOf list nearest later → IsNearestOf (list ++ x ∷ []) (Some (x.later - x.earlier)) x.later
now_nearest list x nearest later is near = record { later = later_new list x; least = nearest_more list x nearest (Some (x.later - x.earlier)) (sym is) near.least }

-- another still is
pub still_of : (list : List Dependence) (x : Dependence) (nearest : Option ℕ) (later : ℕ) → nearer nearest (Some (x.later - x.earlier)) ≡ nearest → IsNearestOf list nearest later
    → IsNearestOf (list ++ x ∷ []) nearest later
still_of list x nearest later is near = record { later = later_old list x nearest later near.later; least = nearest_more list x nearest nearest (sym is) near.least }
