-- Sums by a number that take in one violation more.
use Rattle.std.proofs.Common.{◌≡◌, ℕ, zero, suc, ◌+◌, ◌<◌, ◌≤◌, ◌^◌, ◌==◌, Bool, true, false, cond, List, [], ◌∷◌, ◌++◌, Option, Some, None, refl, sym, ap, ◌∙◌, inl, inr, arith, eqb-true, eq-eqb, ap₂}
use Rattle.std.proofs.lemmas.Bool.{cases_eq}
use Rattle.std.proofs.lemmas.List.Sums.{sum_by-cons}
use Rattle.conflict_findings.specs.declared.keys.Key.{Key}
use Rattle.conflict_findings.specs.declared.keys.Key.TheVariants.{Store, Load, Line, Epoch}
use Rattle.conflict_findings.specs.declared.part.Part.{Part}
use Rattle.conflict_findings.specs.declared.rollback.Pair.{Pair}
use Rattle.conflict_findings.specs.declared.rollback.Rollback.{Rollback}
use Rattle.conflict_findings.specs.declared.sum.Sum.{Sum}
use Rattle.conflict_findings.specs.Keys.{key_of, more, part_at, some_sum, sum_at, sum_or}
use Rattle.conflict_findings.specs.Parts.{belongs}
use Rattle.conflict_findings.specs.Sums.{HasRoom, count_in, lost_by, lost_in}
use Rattle.conflict_findings.proofs.Counting.{some_count}
use Rattle.conflict_findings.proofs.Pushing.{count_le, count_no, count_yes, lost_le, lost_no, lost_yes}

-- ---- one violation more

abbrev sum : ℕ → ℕ → Sum
sum n m = record { count = n; lost = m }

same_sum : (a b m n : ℕ) → a ≡ b → m ≡ n → sum a m ≡ sum b n
same_sum a b m n first second = ap₂ sum first second

one_more : (n m w k l : ℕ) → (n ≡ 0 → m ≡ 0) → k ≡ n + 1 → l ≡ m + w → some_sum k l ≡ Some (more (sum_or (some_sum n m)) w)
one_more zero m w k l none is lost =
    let one : k ≡ suc zero = omega (arith, is) in
    ap (λ x. some_sum x l) one ∙ ap Some (same_sum (suc zero) (0 + 1) l (0 + w) (omega arith) (omega (arith, lost, none refl)))
one_more (suc n) m w k l none is lost =
    let next : k ≡ suc (suc n) = omega (arith, is) in
    ap (λ x. some_sum x l) next ∙ ap Some (same_sum (suc (suc n)) (suc n + 1) l (m + w) (omega arith) lost)

not_one_more : (n m k l : ℕ) → k ≡ n → l ≡ m → some_sum n m ≡ some_sum k l
not_one_more n m k l is lost =
    sym (ap (λ x. some_sum x l) is ∙ ap (λ x. some_sum n x) lost)

-- what nobody belongs to lost nothing
pub lost_step : (b : Bool) (w n s : ℕ) → cond b 1 0 + n ≡ 0 → (n ≡ 0 → s ≡ 0) → cond b w 0 + s ≡ 0
lost_step true w n s is rest = absurd (omega (arith, is))
lost_step false w n s is rest = omega (arith, rest (omega (arith, is)))

none_lost : (part : Part) (rs : List Rollback) → count_in part rs ≡ 0 → lost_in part rs ≡ 0
none_lost part [] is = refl
none_lost part (r ∷ rs) is =
    sum_by-cons (lost_by part) r rs
    ∙ lost_step (belongs part r) r.lost (count_in part rs) (lost_in part rs) (sym (sum_by-cons (λ (x : Rollback). cond (belongs part x) 1 0) r rs) ∙ is) (none_lost part rs)

-- ---- who has a number

abbrev has_key : Option ℕ → ℕ → Bool
has_key None at = false
has_key (Some key) at = key == at

by_store : (pair : Option Pair) (r : Rollback) (at : ℕ) → r.pair ≡ pair → belongs (part_at Store at) r ≡ has_key (key_of Store r) at
by_store None r at is = rw is refl
by_store (Some p) r at is = rw is refl

by_load : (pair : Option Pair) (r : Rollback) (at : ℕ) → r.pair ≡ pair → belongs (part_at Load at) r ≡ has_key (key_of Load r) at
by_load None r at is = rw is refl
by_load (Some p) r at is = rw is refl

by_line : (line : Option ℕ) (r : Rollback) (at : ℕ) → r.line ≡ line → belongs (part_at Line at) r ≡ has_key (key_of Line r) at
by_line None r at is = rw is refl
by_line (Some l) r at is = rw is refl

belongs_at : (key : Key) (r : Rollback) (at : ℕ) → belongs (part_at key at) r ≡ has_key (key_of key r) at
belongs_at Store r at = by_store r.pair r at refl
belongs_at Load r at = by_load r.pair r at refl
belongs_at Line r at = by_line r.line r at refl
belongs_at Epoch r at = refl

apart : (a b : ℕ) → (b ≡ a → ⊥) → (a == b) ≡ false
apart a b differ = go (a == b) refl
  where
    go : (t : Bool) → (a == b) ≡ t → t ≡ false
    go true is = absurd (differ (sym (eqb-true a b is)))
    go false is = refl

-- ---- the sums of one violation more

sum_same : (key : Key) (rs : List Rollback) (r : Rollback) (at : ℕ) → belongs (part_at key at) r ≡ false → sum_at key rs at ≡ sum_at key (rs ++ r ∷ []) at
sum_same key rs r at fails = not_one_more _ _ _ _ (count_no (part_at key at) rs r fails) (lost_no (part_at key at) rs r fails)

sum_more : (key : Key) (rs : List Rollback) (r : Rollback) (at : ℕ) → belongs (part_at key at) r ≡ true
    → sum_at key (rs ++ r ∷ []) at ≡ Some (more (sum_or (sum_at key rs at)) r.lost)
sum_more key rs r at passes =
    let part = part_at key at in
    one_more (count_in part rs) (lost_in part rs) r.lost (count_in part (rs ++ r ∷ [])) (lost_in part (rs ++ r ∷ [])) (none_lost part rs) (count_yes part rs r passes) (lost_yes part rs r passes)

-- a violation without a number changes no sum
pub unkeyed : (key : Key) (rs : List Rollback) (r : Rollback) (old : ℕ → Option Sum) → key_of key r ≡ None
    → ((q : ℕ) → old q ≡ sum_at key rs q) → (q : ℕ) → old q ≡ sum_at key (rs ++ r ∷ []) q
unkeyed key rs r old none was q = was q ∙ sum_same key rs r q (belongs_at key r q ∙ ap (λ (o : Option ℕ). has_key o q) none)

-- one with a number changes the sum at that
pub keyed : (key : Key) (rs : List Rollback) (r : Rollback) (at : ℕ) (old new : ℕ → Option Sum) → key_of key r ≡ Some at
    → new at ≡ Some (more (sum_or (old at)) r.lost) → ((q : ℕ) → (q ≡ at → ⊥) → new q ≡ old q)
    → ((q : ℕ) → old q ≡ sum_at key rs q) → (q : ℕ) → new q ≡ sum_at key (rs ++ r ∷ []) q
keyed key rs r at old new is here others was q =
    let has = belongs_at key r q ∙ ap (λ (o : Option ℕ). has_key o q) is in
    elim (cases_eq q at) [
      | inl e ↦ ap new e
          ∙ (here ∙ (ap (λ (o : Option Sum). Some (more (sum_or o) r.lost)) (was at)
          ∙ (ap (λ (n : ℕ). Some (more (sum_or (sum_at key rs n)) r.lost)) (sym e) ∙ sym (sum_more key rs r q (has ∙ eq-eqb at q (sym e))))))
      | inr differ ↦ others q differ ∙ (was q ∙ sum_same key rs r q (has ∙ apart at q differ))
    ]

-- ---- the sums fit

or_lost : (n m : ℕ) → (sum_or (some_sum n m)).lost ≤ m
or_lost zero m = omega arith
or_lost (suc n) m = omega arith

pub counts_fit : (key : Key) (rs : List Rollback) (n at : ℕ) (old : Option Sum) → HasRoom rs n → old ≡ sum_at key rs at → (sum_or old).count + 1 < 2 ^ 32
counts_fit key rs n at old room is =
    let part = part_at key at in
    omega (arith, ap (λ (o : Option Sum). (sum_or o).count) is, some_count (count_in part rs) (lost_in part rs), count_le part rs, room.count)

pub lost_fits : (key : Key) (rs : List Rollback) (n at : ℕ) (old : Option Sum) → HasRoom rs n → old ≡ sum_at key rs at → (sum_or old).lost + n < 2 ^ 128
lost_fits key rs n at old room is =
    let part = part_at key at in
    omega (arith, ap (λ (o : Option Sum). (sum_or o).lost) is, or_lost (count_in part rs) (lost_in part rs), lost_le part rs, room.lost)
