-- The pairs of some violations stand once each in the list of their pairs.
use Rattle.std.proofs.Common.{◌≡◌, ℕ, ◌+◌, ◌≤◌, ◌==◌, ◌&&◌, ◌||◌, Bool, true, false, cond, List, [], ◌∷◌, ◌++◌, Option, Some, None, count_by, refl, ap, ◌∙◌, arith, eqb-true, eq-eqb}
use Rattle.std.proofs.lemmas.Bool.{and_parts}
use Rattle.std.specs.List.{fold, list_any}
use Rattle.std.proofs.lemmas.List.Sums.{sum_by-cons, sum_by_push}
use Rattle.conflict_findings.specs.declared.rollback.Pair.{Pair}
use Rattle.conflict_findings.specs.declared.rollback.Rollback.{Rollback}
use Rattle.conflict_findings.specs.Pairs.{noted}
use Rattle.conflict_findings.specs.Parts.{is_pair}
use Rattle.conflict_findings.proofs.Parting.{AreListed, IsListed}

-- ---- counts and tests

not_step : (b t : Bool) (n : ℕ) → (b || t) ≡ false → (t ≡ false → n ≡ 0) → cond b 1 0 + n ≡ 0
not_step true t n is more = absurd cc
not_step false t n is more = omega (arith, more is)

pub not_any : {X : Type 0} (test : X → Bool) (xs : List X) → list_any test xs ≡ false → count_by test xs ≡ 0
not_any test [] is = refl
not_any test (x ∷ xs) is = sum_by-cons (λ y. cond (test y) 1 0) x xs ∙ not_step (test x) (list_any test xs) (count_by test xs) is (not_any test xs)

some_step : (b t : Bool) (n : ℕ) → (b || t) ≡ true → (t ≡ true → 1 ≤ n) → 1 ≤ cond b 1 0 + n
some_step true t n is more = omega arith
some_step false t n is more = omega (arith, more is)

some_any : {X : Type 0} (test : X → Bool) (xs : List X) → list_any test xs ≡ true → 1 ≤ count_by test xs
some_any test [] is = absurd cc
some_any test (x ∷ xs) is = omega (arith, sum_by-cons (λ y. cond (test y) 1 0) x xs, some_step (test x) (list_any test xs) (count_by test xs) is (some_any test xs))

-- ---- pairs that pass the test are the same

abbrev pair : ℕ → ℕ → Pair
pair s l = record { store = s; load = l }

same_fields : (s t l m : ℕ) → s ≡ t → l ≡ m → pair s l ≡ pair t m
same_fields s t l m first second = ap (λ x. pair x l) first ∙ ap (λ x. pair t x) second

pub same_pair : (a b : Pair) → is_pair a b ≡ true → a ≡ b
same_pair a b is =
    let e = and_parts (a.store == b.store) (a.load == b.load) is in
    same_fields a.store b.store a.load b.load (eqb-true a.store b.store e.0) (eqb-true a.load b.load e.1)

pub own_pair : (p : Pair) → is_pair p p ≡ true
own_pair p = ap (λ b. b && (p.load == p.load)) (eq-eqb p.store p.store refl) ∙ eq-eqb p.load p.load refl

-- ---- a pair that is noted

abbrev IsOnce : List Pair → Type 0
IsOnce ps = (q : Pair) → count_by (is_pair q) ps ≤ 1

push_count : (q p : Pair) (ps : List Pair) → count_by (is_pair q) (ps ++ p ∷ []) ≡ count_by (is_pair q) ps + cond (is_pair q p) 1 0
push_count q p ps = sum_by_push (λ x. cond (is_pair q x) 1 0) ps p

at_most : (b : Bool) (n : ℕ) → n ≤ 1 → (b ≡ true → n ≡ 0) → n + cond b 1 0 ≤ 1
at_most true n most same = omega (arith, same refl)
at_most false n most same = omega (arith, most)

once_pushed : (ps : List Pair) (p : Pair) (b : Bool) → list_any (is_pair p) ps ≡ b → IsOnce ps → IsOnce (cond b ps (ps ++ p ∷ []))
once_pushed ps p true is once = once
once_pushed ps p false is once =
    λ q. omega (arith, push_count q p ps, at_most (is_pair q p) (count_by (is_pair q) ps) (once q) (λ same. ap (λ x. count_by (is_pair x) ps) (same_pair q p same) ∙ not_any (is_pair p) ps is))

once_noted : (found : Option Pair) (ps : List Pair) → IsOnce ps → IsOnce (noted ps found)
once_noted None ps once = once
once_noted (Some p) ps once = once_pushed ps p (list_any (is_pair p) ps) refl once

grown_pushed : (ps : List Pair) (p q : Pair) (b : Bool) → count_by (is_pair q) ps ≤ count_by (is_pair q) (cond b ps (ps ++ p ∷ []))
grown_pushed ps p q true = omega arith
grown_pushed ps p q false = omega (arith, push_count q p ps)

grown_noted : (found : Option Pair) (ps : List Pair) (q : Pair) → count_by (is_pair q) ps ≤ count_by (is_pair q) (noted ps found)
grown_noted None ps q = omega arith
grown_noted (Some p) ps q = grown_pushed ps p q (list_any (is_pair p) ps)

own_one : (b : Bool) (n : ℕ) → b ≡ true → n + cond b 1 0 ≡ n + 1
own_one true n is = refl
own_one false n is = absurd cc

there_pushed : (ps : List Pair) (p : Pair) (b : Bool) → list_any (is_pair p) ps ≡ b → 1 ≤ count_by (is_pair p) (cond b ps (ps ++ p ∷ []))
there_pushed ps p true is = some_any (is_pair p) ps is
there_pushed ps p false is = omega (arith, push_count p p ps, own_one (is_pair p p) (count_by (is_pair p) ps) (own_pair p))

-- ---- all that are noted

abbrev after : List Pair → List Rollback → List Pair
after ps rs = fold (λ pairs (r : Rollback). noted pairs r.pair) ps rs

once_after : (rs : List Rollback) (ps : List Pair) → IsOnce ps → IsOnce (after ps rs)
once_after [] ps once = once
once_after (r ∷ rs) ps once = once_after rs (noted ps r.pair) (once_noted r.pair ps once)

grown_after : (rs : List Rollback) (ps : List Pair) (q : Pair) → count_by (is_pair q) ps ≤ count_by (is_pair q) (after ps rs)
grown_after [] ps q = omega arith
grown_after (r ∷ rs) ps q = omega (arith, grown_noted r.pair ps q, grown_after rs (noted ps r.pair) q)

listed_one : (found : Option Pair) (ps : List Pair) (rs : List Rollback) → IsOnce ps → IsListed (after (noted ps found) rs) found
listed_one None ps rs once = tt
listed_one (Some p) ps rs once =
    omega (arith, there_pushed ps p (list_any (is_pair p) ps) refl, grown_after rs (noted ps (Some p)) p, once_after rs (noted ps (Some p)) (once_noted (Some p) ps once) p)

listed_after : (rs : List Rollback) (ps : List Pair) → IsOnce ps → AreListed (after ps rs) rs
listed_after [] ps once = tt
listed_after (r ∷ rs) ps once = (listed_one r.pair ps rs once, listed_after rs (noted ps r.pair) (once_noted r.pair ps once))

pub all_listed : (rs : List Rollback) → AreListed (after [] rs) rs
all_listed rs = listed_after rs [] (λ q. omega arith)

-- each pair stands at most once in the list
pub listed_once : (rs : List Rollback) (q : Pair) → count_by (is_pair q) (after [] rs) ≤ 1
listed_once rs q = once_after rs [] (λ p. omega arith) q
