-- What the violations of each pair cost, with one violation more.
use Rattle.std.proofs.Common.{◌≡◌, ℕ, ◌+◌, Bool, true, false, cond, List, [], ◌∷◌, ◌++◌, Option, Some, None, count_by, length, map, refl, sym, ap, ◌∙◌, arith, ap₂}
use Rattle.std.proofs.lemmas.Bool.{false_from_ne_true}
use Rattle.std.proofs.lemmas.List.{length-map, map-append}
use Rattle.std.proofs.lemmas.List.Elements.{filter-append}
use Rattle.std.proofs.lemmas.List.Sums.{fold_push, sum_by_push}
use Rattle.std.specs.List.{list_any}
use Rattle.std.specs.Prelude.{slice_set}
use Rattle.conflict_findings.specs.declared.kinds.CountsByKind.{CountsByKind}
use Rattle.conflict_findings.specs.declared.pair_sums.Bounds.{Bounds}
use Rattle.conflict_findings.specs.declared.pair_sums.Fates.{Fates}
use Rattle.conflict_findings.specs.declared.pair_sums.Measure.{Measure}
use Rattle.conflict_findings.specs.declared.pair_sums.Measure.TheVariants.{Distance, Bytes}
use Rattle.conflict_findings.specs.declared.pair_sums.PairSum.{PairSum}
use Rattle.conflict_findings.specs.declared.part.Part.TheVariants.{OfPair, Whole}
use Rattle.conflict_findings.specs.declared.rollback.Pair.{Pair}
use Rattle.conflict_findings.specs.declared.rollback.Rollback.{Rollback}
use Rattle.conflict_findings.specs.declared.sum.Sum.{Sum}
use Rattle.conflict_findings.specs.ByPair.{place_of}
use Rattle.conflict_findings.specs.Keys.{more}
use Rattle.conflict_findings.specs.Pairs.{noted, pairs_in}
use Rattle.conflict_findings.specs.Parts.{belongs, has_pair, is_pair}
use Rattle.conflict_findings.specs.PairSums.{bounds_in, fates_in, joined, kinds_in, measured, of_pair, pair_sum}
use Rattle.conflict_findings.specs.Sums.{sum_in}
use Rattle.conflict_findings.proofs.Adding.{part_sum}
use Rattle.conflict_findings.proofs.Listing.{all_listed, listed_once, not_any, own_pair, same_pair}
use Rattle.conflict_findings.proofs.Parting.{AreListed, IsListed}
use Rattle.conflict_findings.proofs.Placing.{absent, map_absent, place_pushed, present, set_placed}
use Rattle.conflict_findings.proofs.Pushing.{byte_is, filter_no, filter_yes, sum_yes}
use mir.Val.{bool_byte}

-- ---- the sum of a pair, with one of its violations more

abbrev all_of : Pair → Sum → CountsByKind → Fates → Option Bounds → Option Bounds → PairSum
all_of p s k f d b = record { pair = p; sum = s; counts = k; fates = f; distance = d; bytes = b }

same_all : (p p' : Pair) (s s' : Sum) (k k' : CountsByKind) (f f' : Fates) (d d' b b' : Option Bounds) → p ≡ p' → s ≡ s' → k ≡ k' → f ≡ f' → d ≡ d' → b ≡ b'
    → all_of p s k f d b ≡ all_of p' s' k' f' d' b'
same_all p p' s s' k k' f f' d d' b b' one two three four five six = rw (one, two, three, four, five, six) refl

pub bounds_push : (measure : Measure) (rs : List Rollback) (r : Rollback) → bounds_in measure (rs ++ r ∷ []) ≡ joined (bounds_in measure rs) (measured measure r)
bounds_push measure rs r = fold_push (λ bounds (x : Rollback). joined bounds (measured measure x)) None rs r

abbrev pub fates : ℕ → ℕ → ℕ → Fates
fates a b c = record { stale = a; vain = b; came_true = c }

pub same_fates : (a b c a' b' c' : ℕ) → a ≡ a' → b ≡ b' → c ≡ c' → fates a b c ≡ fates a' b' c'
same_fates a b c a' b' c' one two three = rw (one, two, three) refl

pub test_push : (test : Rollback → Bool) (rs : List Rollback) (r : Rollback) (old : ℕ) → old ≡ count_by test rs → old + bool_byte (test r) ≡ count_by test (rs ++ r ∷ [])
test_push test rs r old is = ap₂ (λ (n m : ℕ). n + m) is (byte_is (test r)) ∙ sym (sum_by_push (λ (x : Rollback). cond (test x) 1 0) rs r)

pub pair_more : (p q : Pair) (rs : List Rollback) (r : Rollback) (old : PairSum) (s : Sum) (k : CountsByKind) (f : Fates) (d b : Option Bounds) → old ≡ pair_sum rs p → has_pair r.pair p ≡ true
    → q ≡ old.pair → s ≡ more old.sum r.lost → k ≡ kinds_in (of_pair p rs ++ r ∷ []) → f ≡ fates_in (of_pair p rs ++ r ∷ [])
    → d ≡ joined old.distance (measured Distance r) → b ≡ joined old.bytes (measured Bytes r) → all_of q s k f d b ≡ pair_sum (rs ++ r ∷ []) p
pair_more p q rs r old s k f d b is has one two three four five six =
    let grown : of_pair p rs ++ r ∷ [] ≡ of_pair p (rs ++ r ∷ []) = sym (filter_yes (belongs (OfPair p)) rs r has) in
    same_all _ _ _ _ _ _ _ _ _ _ _ _
    (one ∙ ap (λ (x : PairSum). x.pair) is)
    (two ∙ sum_yes (OfPair p) rs r old.sum has (ap (λ (x : PairSum). x.sum) is))
    (three ∙ ap kinds_in grown)
    (four ∙ ap fates_in grown)
    (five ∙ (ap (λ (x : PairSum). joined x.distance (measured Distance r)) is ∙ (sym (bounds_push Distance (of_pair p rs) r) ∙ ap (bounds_in Distance) grown)))
    (six ∙ (ap (λ (x : PairSum). joined x.bytes (measured Bytes r)) is ∙ (sym (bounds_push Bytes (of_pair p rs) r) ∙ ap (bounds_in Bytes) grown)))

-- ---- the violations of a pair give its sum

abbrev sum_of_those : Pair → List Rollback → PairSum
sum_of_those p those = all_of p (sum_in Whole those) (kinds_in those) (fates_in those) (bounds_in Distance those) (bounds_in Bytes those)

by_those : (p : Pair) (rs : List Rollback) → sum_of_those p (of_pair p rs) ≡ pair_sum rs p
by_those p rs =
    let those = of_pair p rs in
    ap (λ (s : Sum). all_of p s (kinds_in those) (fates_in those) (bounds_in Distance those) (bounds_in Bytes those)) (part_sum (OfPair p) rs)

same_sum : (p : Pair) (rs ss : List Rollback) → of_pair p rs ≡ of_pair p ss → pair_sum rs p ≡ pair_sum ss p
same_sum p rs ss same = sym (by_those p rs) ∙ (ap (sum_of_those p) same ∙ by_those p ss)

-- one that is not of the pair
kept_sum : (rs : List Rollback) (r : Rollback) (q : Pair) → has_pair r.pair q ≡ false → pair_sum rs q ≡ pair_sum (rs ++ r ∷ []) q
kept_sum rs r q apart = same_sum q rs (rs ++ r ∷ []) (sym (filter_no (belongs (OfPair q)) rs r apart))

other_sum : (rs : List Rollback) (r : Rollback) (p : Pair) → r.pair ≡ Some p → (q : Pair) → is_pair p q ≡ false → pair_sum rs q ≡ pair_sum (rs ++ r ∷ []) q
other_sum rs r p is q apart = kept_sum rs r q (ap (λ (o : Option Pair). has_pair o q) is ∙ apart)

-- the first of a pair
not_mine : (p : Pair) (ps : List Pair) (found : Option Pair) → list_any (is_pair p) ps ≡ false → IsListed ps found → has_pair found p ≡ false
not_mine p ps None none is = refl
not_mine p ps (Some q) none is =
    false_from_ne_true (is_pair q p)
    (λ same. omega (arith, is, ap (λ (x : Pair). count_by (is_pair x) ps) (same_pair q p same), not_any (is_pair p) ps none))

none_of_pair : (p : Pair) (ps : List Pair) (rs : List Rollback) → list_any (is_pair p) ps ≡ false → AreListed ps rs → of_pair p rs ≡ []
none_of_pair p ps [] none is = refl
none_of_pair p ps (r ∷ rs) none is =
    ap (λ (b : Bool). cond b (r ∷ of_pair p rs) (of_pair p rs)) (not_mine p ps r.pair none is.0) ∙ none_of_pair p ps rs none is.1

first_sum : (rs : List Rollback) (r : Rollback) (p : Pair) → list_any (is_pair p) (pairs_in rs) ≡ false → pair_sum (r ∷ []) p ≡ pair_sum (rs ++ r ∷ []) p
first_sum rs r p none =
    same_sum p (r ∷ []) (rs ++ r ∷ [])
    (sym (filter-append (belongs (OfPair p)) rs (r ∷ []) ∙ ap (λ (xs : List Rollback). xs ++ of_pair p (r ∷ [])) (none_of_pair p (pairs_in rs) rs none (all_listed rs))))

pub own_has : (found : Option Pair) (p : Pair) → found ≡ Some p → has_pair found p ≡ true
own_has found p is = ap (λ (o : Option Pair). has_pair o p) is ∙ own_pair p

-- ---- the list of pairs

noted_push : (rs : List Rollback) (r : Rollback) → pairs_in (rs ++ r ∷ []) ≡ noted (pairs_in rs) r.pair
noted_push rs r = fold_push (λ pairs (x : Rollback). noted pairs x.pair) [] rs r

noted_as : (ps : List Pair) (p : Pair) (b : Bool) → list_any (is_pair p) ps ≡ b → noted ps (Some p) ≡ cond b ps (ps ++ p ∷ [])
noted_as ps p b is = ap (λ (c : Bool). cond c ps (ps ++ p ∷ [])) is

pub pairs_with : (rs : List Rollback) (r : Rollback) (p : Pair) (b : Bool) → r.pair ≡ Some p → list_any (is_pair p) (pairs_in rs) ≡ b
    → pairs_in (rs ++ r ∷ []) ≡ cond b (pairs_in rs) (pairs_in rs ++ p ∷ [])
pairs_with rs r p b is there = noted_push rs r ∙ (ap (noted (pairs_in rs)) is ∙ noted_as (pairs_in rs) p b there)

pub pairs_without : (rs : List Rollback) (r : Rollback) → r.pair ≡ None → pairs_in rs ≡ pairs_in (rs ++ r ∷ [])
pairs_without rs r is = sym (noted_push rs r ∙ ap (noted (pairs_in rs)) is)

-- ---- the sums of a list of pairs

map_all : {X : Type 0} (f g : Pair → X) → ((q : Pair) → f q ≡ g q) → (ps : List Pair) → map f ps ≡ map g ps
map_all {X = X} f g each [] = refl
map_all {X = X} f g each (p ∷ ps) = ap₂ (λ (x : X) (xs : List X). x ∷ xs) (each p) (map_all f g each ps)

-- a violation without a pair
pub each_without : (rs : List Rollback) (r : Rollback) (items : List PairSum) → r.pair ≡ None → items ≡ map (pair_sum rs) (pairs_in rs)
    → items ≡ map (pair_sum (rs ++ r ∷ [])) (pairs_in (rs ++ r ∷ []))
each_without rs r items is was =
    was
    ∙ (map_all (pair_sum rs) (pair_sum (rs ++ r ∷ [])) (λ q. kept_sum rs r q (ap (λ (o : Option Pair). has_pair o q) is)) (pairs_in rs)
    ∙ ap (map (pair_sum (rs ++ r ∷ []))) (pairs_without rs r is))

pub placed_without : (rs : List Rollback) (r : Rollback) (q : Pair) (found : Option ℕ) → r.pair ≡ None → found ≡ place_of q (pairs_in rs)
    → found ≡ place_of q (pairs_in (rs ++ r ∷ []))
placed_without rs r q found is was = was ∙ ap (place_of q) (pairs_without rs r is)

-- one of a pair that is there
pub each_raised : (rs : List Rollback) (r : Rollback) (p : Pair) (place : ℕ) (items new : List PairSum) → r.pair ≡ Some p → place_of p (pairs_in rs) ≡ Some place
    → items ≡ map (pair_sum rs) (pairs_in rs) → new ≡ slice_set items place (pair_sum (rs ++ r ∷ []) p) → new ≡ map (pair_sum (rs ++ r ∷ [])) (pairs_in (rs ++ r ∷ []))
each_raised rs r p place items new is there was set =
    set
    ∙ (ap (λ (xs : List PairSum). slice_set xs place (pair_sum (rs ++ r ∷ []) p)) was
    ∙ (set_placed (pair_sum rs) (pair_sum (rs ++ r ∷ [])) p (other_sum rs r p is) (pairs_in rs) place (listed_once rs p) there
    ∙ ap (map (pair_sum (rs ++ r ∷ []))) (sym (pairs_with rs r p true is (present p (pairs_in rs) place there)))))

pub placed_raised : (rs : List Rollback) (r : Rollback) (p q : Pair) (place : ℕ) (found : Option ℕ) → r.pair ≡ Some p → place_of p (pairs_in rs) ≡ Some place
    → found ≡ place_of q (pairs_in rs) → found ≡ place_of q (pairs_in (rs ++ r ∷ []))
placed_raised rs r p q place found is there was = was ∙ ap (place_of q) (sym (pairs_with rs r p true is (present p (pairs_in rs) place there)))

-- the first of a pair
pub each_begun : (rs : List Rollback) (r : Rollback) (p : Pair) (items new : List PairSum) → r.pair ≡ Some p → place_of p (pairs_in rs) ≡ None
    → items ≡ map (pair_sum rs) (pairs_in rs) → new ≡ items ++ pair_sum (r ∷ []) p ∷ [] → new ≡ map (pair_sum (rs ++ r ∷ [])) (pairs_in (rs ++ r ∷ []))
each_begun rs r p items new is there was grown =
    let none : list_any (is_pair p) (pairs_in rs) ≡ false = absent p (pairs_in rs) there in
    let f = pair_sum (rs ++ r ∷ []) in
    grown
    ∙ (ap₂ (λ (xs : List PairSum) (x : PairSum). xs ++ x ∷ []) (was ∙ map_absent (pair_sum rs) f p (other_sum rs r p is) (pairs_in rs) none) (first_sum rs r p none)
    ∙ (sym (map-append f (pairs_in rs) (p ∷ [])) ∙ ap (map f) (sym (pairs_with rs r p false is none))))

pub placed_begun : (rs : List Rollback) (r : Rollback) (p q : Pair) (items : List PairSum) (old new : Option ℕ) → r.pair ≡ Some p → place_of p (pairs_in rs) ≡ None
    → items ≡ map (pair_sum rs) (pairs_in rs) → old ≡ place_of q (pairs_in rs) → new ≡ cond (is_pair q p) (Some (length items)) old → new ≡ place_of q (pairs_in (rs ++ r ∷ []))
placed_begun rs r p q items old new is there was placed grown =
    let none : list_any (is_pair p) (pairs_in rs) ≡ false = absent p (pairs_in rs) there in
    grown
    ∙ (ap₂ (λ (n : ℕ) (o : Option ℕ). cond (is_pair q p) (Some n) o) (ap length was ∙ length-map (pairs_in rs) (pair_sum rs)) placed
    ∙ (sym (place_pushed q p (pairs_in rs) none) ∙ ap (place_of q) (sym (pairs_with rs r p false is none))))
