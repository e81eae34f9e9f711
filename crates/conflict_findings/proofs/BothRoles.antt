-- Sums over violations in both roles, with one violation more.
use Rattle.std.proofs.Common.{◌≡◌, ℕ, ◌+◌, ◌^◌, ◌<◌, cond, List, [], ◌∷◌, ◌++◌, map, sum_by, refl, ap, ◌∙◌, arith}
use Rattle.std.proofs.lemmas.List.Sums.{sum_by-append, sum_by-cons, sum_by_push}
use Rattle.conflict_findings.specs.declared.keys.Key.TheVariants.{Load}
use Rattle.conflict_findings.specs.declared.part.Part.TheVariants.{LoadedAt, Whole}
use Rattle.conflict_findings.specs.declared.rollback.Rollback.{Rollback}
use Rattle.conflict_findings.specs.declared.sum.Sum.{Sum}
use Rattle.conflict_findings.specs.Keys.{some_sum, sum_at}
use Rattle.conflict_findings.specs.Parts.{belongs}
use Rattle.conflict_findings.specs.Roles.{in_both_roles, swapped}
use Rattle.conflict_findings.specs.Sums.{HasRoom, IsRoomy, count_in, lost_by, lost_in, sum_in}
use Rattle.conflict_findings.proofs.Pushing.{count_push, lost_push}

turned : (f : Rollback → ℕ) (rs : List Rollback) → sum_by f (map swapped rs) ≡ sum_by (λ r. f (swapped r)) rs
turned f [] = refl
turned f (r ∷ rs) = omega (arith, sum_by-cons f (swapped r) (map swapped rs), turned f rs, sum_by-cons (λ x. f (swapped x)) r rs)

in_roles : (f : Rollback → ℕ) (rs : List Rollback) → sum_by f (in_both_roles rs) ≡ sum_by f rs + sum_by (λ r. f (swapped r)) rs
in_roles f rs = sum_by-append f rs (map swapped rs) ∙ ap (λ n. sum_by f rs + n) (turned f rs)

roles_push : (f : Rollback → ℕ) (rs : List Rollback) (r : Rollback)
    → sum_by f ((in_both_roles rs ++ r ∷ []) ++ swapped r ∷ []) ≡ sum_by f (in_both_roles (rs ++ r ∷ []))
roles_push f rs r =
    omega (
      arith,
      sum_by_push f (in_both_roles rs ++ r ∷ []) (swapped r),
      sum_by_push f (in_both_roles rs) r,
      in_roles f rs,
      in_roles f (rs ++ r ∷ []),
      sum_by_push f rs r,
      sum_by_push (λ x. f (swapped x)) rs r,
    )

-- the violation is added as it is, and then with its instructions in each other's role
pub roles_more : (rs : List Rollback) (r : Rollback) (at : ℕ) → sum_at Load ((in_both_roles rs ++ r ∷ []) ++ swapped r ∷ []) at ≡ sum_at Load (in_both_roles (rs ++ r ∷ [])) at
roles_more rs r at =
    ap (λ n. some_sum n (lost_in (LoadedAt at) ((in_both_roles rs ++ r ∷ []) ++ swapped r ∷ [])))
    (roles_push (λ (x : Rollback). cond (belongs (LoadedAt at) x) 1 0) rs r)
    ∙ ap (some_sum (count_in (LoadedAt at) (in_both_roles (rs ++ r ∷ [])))) (roles_push (lost_by (LoadedAt at)) rs r)

-- ---- room

-- before the first of the two
pub first_room : (rs : List Rollback) (r : Rollback) (n : ℕ) → HasRoom (rs ++ r ∷ []) n → HasRoom rs n
first_room rs r n room = record { count = omega (arith, count_push Whole rs r, room.count); lost = omega (arith, lost_push Whole rs r, room.lost) }

-- beside none
pub no_room : (rs : List Rollback) (n : ℕ) → HasRoom rs n → HasRoom [] n
no_room rs n room = record { count = omega arith; lost = omega (arith, room.lost) }

pub own_room : (rs : List Rollback) (r : Rollback) (whole : Sum) → whole ≡ sum_in Whole rs → IsRoomy whole → r.lost < 2 ^ 64 → HasRoom rs r.lost
own_room rs r whole is room small = record {
  count = omega (arith, room.count, ap (λ (s : Sum). s.count) is);
  lost = omega (arith, room.lost, small, ap (λ (s : Sum). s.lost) is);
}

pub roles_room : (rs : List Rollback) (r : Rollback) (whole : Sum) → whole ≡ sum_in Whole rs → IsRoomy whole → r.lost < 2 ^ 64
    → HasRoom (in_both_roles rs ++ r ∷ []) r.lost
roles_room rs r whole is room small = record {
  count = omega (arith, room.count, ap (λ (s : Sum). s.count) is, count_push Whole (in_both_roles rs) r, in_roles (λ (x : Rollback). 1) rs);
  lost = omega (arith, room.lost, small, ap (λ (s : Sum). s.lost) is, lost_push Whole (in_both_roles rs) r, in_roles (λ (x : Rollback). x.lost) rs);
}
