-- Sums over parts of some violations, and over those with one more at their end.
use Rattle.std.proofs.Common.{◌≡◌, ℕ, ◌+◌, ◌<◌, ◌≤◌, ◌^◌, Bool, true, false, cond, List, [], ◌∷◌, ◌++◌, filter, count_by, sum_by, refl, sym, ap, ◌∙◌, arith, ap₂}
use Rattle.std.proofs.lemmas.List.{append-nil}
use Rattle.std.proofs.lemmas.List.Elements.{filter-append}
use Rattle.std.proofs.lemmas.List.Sums.{sum_by-cons, sum_by_push}
use Rattle.conflict_findings.specs.declared.part.Part.{Part}
use Rattle.conflict_findings.specs.declared.part.Part.TheVariants.{Whole}
use Rattle.conflict_findings.specs.declared.rollback.Rollback.{Rollback}
use Rattle.conflict_findings.specs.declared.sum.Sum.{Sum}
use Rattle.conflict_findings.specs.Keys.{more}
use Rattle.conflict_findings.specs.Parts.{belongs}
use Rattle.conflict_findings.specs.Sums.{HasRoom, count_in, lost_by, lost_in, sum_in}
use Rattle.conflict_findings.proofs.Adding.{part_sum}
use mir.Val.{bool_byte}

abbrev sum : ℕ → ℕ → Sum
sum n m = record { count = n; lost = m }

-- ---- with one more

pub count_push : (part : Part) (rs : List Rollback) (r : Rollback) → count_in part (rs ++ r ∷ []) ≡ count_in part rs + cond (belongs part r) 1 0
count_push part rs r = sum_by_push (λ (x : Rollback). cond (belongs part x) 1 0) rs r

pub lost_push : (part : Part) (rs : List Rollback) (r : Rollback) → lost_in part (rs ++ r ∷ []) ≡ lost_in part rs + cond (belongs part r) r.lost 0
lost_push part rs r = sum_by_push (lost_by part) rs r

-- one that belongs to the part
pub count_yes : (part : Part) (rs : List Rollback) (r : Rollback) → belongs part r ≡ true → count_in part (rs ++ r ∷ []) ≡ count_in part rs + 1
count_yes part rs r mine = count_push part rs r ∙ ap (λ (b : Bool). count_in part rs + cond b 1 0) mine

pub lost_yes : (part : Part) (rs : List Rollback) (r : Rollback) → belongs part r ≡ true → lost_in part (rs ++ r ∷ []) ≡ lost_in part rs + r.lost
lost_yes part rs r mine = lost_push part rs r ∙ ap (λ (b : Bool). lost_in part rs + cond b r.lost 0) mine

pub sum_yes : (part : Part) (rs : List Rollback) (r : Rollback) (s : Sum) → belongs part r ≡ true → s ≡ sum_in part rs → more s r.lost ≡ sum_in part (rs ++ r ∷ [])
sum_yes part rs r s mine is = ap (λ (x : Sum). more x r.lost) is ∙ sym (ap₂ sum (count_yes part rs r mine) (lost_yes part rs r mine))

-- one that does not
plus_none : (a b : ℕ) → a ≡ b + 0 → a ≡ b
plus_none a b is = omega (arith, is)

pub count_no : (part : Part) (rs : List Rollback) (r : Rollback) → belongs part r ≡ false → count_in part (rs ++ r ∷ []) ≡ count_in part rs
count_no part rs r apart = plus_none _ _ (count_push part rs r ∙ ap (λ (b : Bool). count_in part rs + cond b 1 0) apart)

pub lost_no : (part : Part) (rs : List Rollback) (r : Rollback) → belongs part r ≡ false → lost_in part (rs ++ r ∷ []) ≡ lost_in part rs
lost_no part rs r apart = plus_none _ _ (lost_push part rs r ∙ ap (λ (b : Bool). lost_in part rs + cond b r.lost 0) apart)

pub sum_no : (part : Part) (rs : List Rollback) (r : Rollback) (s : Sum) → belongs part r ≡ false → s ≡ sum_in part rs → s ≡ sum_in part (rs ++ r ∷ [])
sum_no part rs r s apart is = is ∙ sym (ap₂ sum (count_no part rs r apart) (lost_no part rs r apart))

-- ---- what passes a test

pub filter_yes : {X : Type 0} (test : X → Bool) (xs : List X) (x : X) → test x ≡ true → filter test (xs ++ x ∷ []) ≡ filter test xs ++ x ∷ []
filter_yes test xs x mine = filter-append test xs (x ∷ []) ∙ ap (λ (b : Bool). filter test xs ++ cond b (x ∷ []) []) mine

pub filter_no : {X : Type 0} (test : X → Bool) (xs : List X) (x : X) → test x ≡ false → filter test (xs ++ x ∷ []) ≡ filter test xs
filter_no test xs x apart = filter-append test xs (x ∷ []) ∙ (ap (λ (b : Bool). filter test xs ++ cond b (x ∷ []) []) apart ∙ append-nil (filter test xs))

-- ---- a part is at most all

part_le : (b : Bool) (w : ℕ) → cond b w 0 ≤ w
part_le true w = omega arith
part_le false w = omega arith

sum_le : (test : Rollback → Bool) (f : Rollback → ℕ) (rs : List Rollback) → sum_by (λ r. cond (test r) (f r) 0) rs ≤ sum_by f rs
sum_le test f [] = omega arith
sum_le test f (r ∷ rs) = omega (arith, sum_by-cons (λ x. cond (test x) (f x) 0) r rs, sum_by-cons f r rs, part_le (test r) (f r), sum_le test f rs)

pub tests_le : (test : Rollback → Bool) (rs : List Rollback) → count_by test rs ≤ count_in Whole rs
tests_le test rs = sum_le test (λ (r : Rollback). 1) rs

pub count_le : (part : Part) (rs : List Rollback) → count_in part rs ≤ count_in Whole rs
count_le part rs = tests_le (belongs part) rs

pub lost_le : (part : Part) (rs : List Rollback) → lost_in part rs ≤ lost_in Whole rs
lost_le part rs = sum_le (belongs part) (λ (r : Rollback). r.lost) rs

-- ---- room for one more

-- room beside all is room beside a part
pub room_of : (part : Part) (rs : List Rollback) (n : ℕ) → HasRoom rs n → HasRoom (filter (belongs part) rs) n
room_of part rs n room =
    let counted : count_in Whole (filter (belongs part) rs) ≡ count_in part rs = ap (λ (s : Sum). s.count) (part_sum part rs) in
    let summed : lost_in Whole (filter (belongs part) rs) ≡ lost_in part rs = ap (λ (s : Sum). s.lost) (part_sum part rs) in
    record { count = omega (arith, counted, count_le part rs, room.count); lost = omega (arith, summed, lost_le part rs, room.lost) }

-- a test counts as one where it holds
byte_le : (b : Bool) → bool_byte b ≤ 1
byte_le true = omega arith
byte_le false = omega arith

pub byte_is : (b : Bool) → bool_byte b ≡ cond b 1 0
byte_is true = refl
byte_is false = refl

-- a count of some of them, and at most one more
pub count_fits : (test : Rollback → Bool) (rs : List Rollback) (n old : ℕ) (b : Bool) → HasRoom rs n → old ≡ count_by test rs → old + bool_byte b < 2 ^ 32
count_fits test rs n old b room is = omega (arith, tests_le test rs, room.count, is, byte_le b)

pub part_fits : (part : Part) (rs : List Rollback) (n : ℕ) (old : Sum) → HasRoom rs n → old ≡ sum_in part rs → (old.count + 1 < 2 ^ 32) × (old.lost + n < 2 ^ 128)
part_fits part rs n old room is =
    (omega (arith, count_le part rs, room.count, ap (λ (s : Sum). s.count) is), omega (arith, lost_le part rs, room.lost, ap (λ (s : Sum). s.lost) is))
