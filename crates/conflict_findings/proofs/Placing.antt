-- Where a list of pairs has each of them, and what stands there in a list that goes with it.
use Rattle.std.proofs.Common.{◌≡◌, ℕ, suc, ◌+◌, ◌≤◌, ◌||◌, Bool, true, false, cond, List, [], ◌∷◌, ◌++◌, Option, Some, None, count_by, length, map, option_map, slice_get, refl, sym, ap, subst, ◌∙◌, arith, ap₂}
use Rattle.std.proofs.lemmas.Bool.{or_parts}
use Rattle.std.proofs.lemmas.List.Sums.{sum_by-cons}
use Rattle.std.proofs.lemmas.Option.{same_Some, slice_get-map}
use Rattle.std.specs.List.{list_any}
use Rattle.std.specs.Prelude.{slice_set}
use Rattle.conflict_findings.specs.declared.rollback.Pair.{Pair}
use Rattle.conflict_findings.specs.ByPair.{place_of}
use Rattle.conflict_findings.specs.Parts.{is_pair}
use Rattle.conflict_findings.proofs.Listing.{own_pair, same_pair}

abbrev next : Option ℕ → Option ℕ
next o = option_map (λ k. suc k) o

-- ---- whether it has one

absent_step : (b : Bool) (o : Option ℕ) (t : Bool) → cond b (Some 0) (next o) ≡ None → (o ≡ None → t ≡ false) → (b || t) ≡ false
absent_step true o t is rest = absurd cc
absent_step false None t is rest = rest refl
absent_step false (Some k) t is rest = absurd cc

pub absent : (p : Pair) (ps : List Pair) → place_of p ps ≡ None → list_any (is_pair p) ps ≡ false
absent p [] is = refl
absent p (q ∷ qs) is = absent_step (is_pair p q) (place_of p qs) (list_any (is_pair p) qs) is (absent p qs)

present_step : (b : Bool) (o : Option ℕ) (t : Bool) (k : ℕ) → cond b (Some 0) (next o) ≡ Some k → ((j : ℕ) → o ≡ Some j → t ≡ true) → (b || t) ≡ true
present_step true o t k is rest = refl
present_step false None t k is rest = absurd cc
present_step false (Some j) t k is rest = rest j refl

pub present : (p : Pair) (ps : List Pair) (k : ℕ) → place_of p ps ≡ Some k → list_any (is_pair p) ps ≡ true
present p [] k is = absurd cc
present p (q ∷ qs) k is = present_step (is_pair p q) (place_of p qs) (list_any (is_pair p) qs) k is (λ j there. present p qs j there)

-- ---- what stands there

read_step : (p q : Pair) (b : Bool) (o : Option ℕ) (qs : List Pair) (k : ℕ) → is_pair p q ≡ b → cond b (Some 0) (next o) ≡ Some k
    → ((j : ℕ) → o ≡ Some j → slice_get qs j ≡ Some p) → slice_get (q ∷ qs) k ≡ Some p
read_step p q true o qs k same is rest = subst (λ (n : ℕ). slice_get (q ∷ qs) n ≡ Some p) (same_Some 0 k is) (ap Some (sym (same_pair p q same)))
read_step p q false None qs k same is rest = absurd cc
read_step p q false (Some j) qs k same is rest = subst (λ (n : ℕ). slice_get (q ∷ qs) n ≡ Some p) (same_Some (suc j) k is) (rest j refl)

placed_at : (p : Pair) (ps : List Pair) (k : ℕ) → place_of p ps ≡ Some k → slice_get ps k ≡ Some p
placed_at p [] k is = absurd cc
placed_at p (q ∷ qs) k is = read_step p q (is_pair p q) (place_of p qs) qs k refl is (λ j there. placed_at p qs j there)

pub read_placed : {X : Type 0} (f : Pair → X) (p : Pair) (ps : List Pair) (k : ℕ) → place_of p ps ≡ Some k → slice_get (map f ps) k ≡ Some (f p)
read_placed f p ps k is = slice_get-map f ps k ∙ ap (option_map f) (placed_at p ps k is)

-- ---- what changes at one pair alone

abbrev AgreeElsewhere : {X : Type 0} → (Pair → X) → (Pair → X) → Pair → Type 0
AgreeElsewhere f g p = (q : Pair) → is_pair p q ≡ false → f q ≡ g q

none_step : (b : Bool) (n : ℕ) → cond b 1 0 + n ≡ 0 → (b ≡ false) × (n ≡ 0)
none_step true n is = absurd (omega (arith, is))
none_step false n is = (refl, omega (arith, is))

map_none : {X : Type 0} (f g : Pair → X) (p : Pair) → AgreeElsewhere f g p → (ps : List Pair) → count_by (is_pair p) ps ≡ 0 → map f ps ≡ map g ps
map_none {X = X} f g p agree [] is = refl
map_none {X = X} f g p agree (q ∷ qs) is =
    let parts = none_step (is_pair p q) (count_by (is_pair p) qs) (sym (sum_by-cons (λ x. cond (is_pair p x) 1 0) q qs) ∙ is) in
    ap₂ (λ (x : X) (xs : List X). x ∷ xs) (agree q parts.0) (map_none f g p agree qs parts.1)

-- a list without the pair stays
pub map_absent : {X : Type 0} (f g : Pair → X) (p : Pair) → AgreeElsewhere f g p → (ps : List Pair) → list_any (is_pair p) ps ≡ false → map f ps ≡ map g ps
map_absent {X = X} f g p agree [] is = refl
map_absent {X = X} f g p agree (q ∷ qs) is =
    let parts = or_parts (is_pair p q) (list_any (is_pair p) qs) is in
    ap₂ (λ (x : X) (xs : List X). x ∷ xs) (agree q parts.0) (map_absent f g p agree qs parts.1)

once_tail : (b : Bool) (n : ℕ) → cond b 1 0 + n ≤ 1 → (n ≤ 1) × (b ≡ true → n ≡ 0)
once_tail true n is = (omega (arith, is), λ same. omega (arith, is))
once_tail false n is = (omega (arith, is), λ same. absurd cc)

set_step : {X : Type 0} (f g : Pair → X) (p q : Pair) (b : Bool) (o : Option ℕ) (fs gs : List X) (k : ℕ) → is_pair p q ≡ b → AgreeElsewhere f g p
    → cond b (Some 0) (next o) ≡ Some k → (b ≡ true → fs ≡ gs) → ((j : ℕ) → o ≡ Some j → slice_set fs j (g p) ≡ gs) → slice_set (f q ∷ fs) k (g p) ≡ g q ∷ gs
set_step {X = X} f g p q true o fs gs k same agree is tail rest =
    subst (λ (n : ℕ). slice_set (f q ∷ fs) n (g p) ≡ g q ∷ gs) (same_Some 0 k is) (ap₂ (λ (x : X) (xs : List X). x ∷ xs) (ap g (same_pair p q same)) (tail refl))
set_step {X = X} f g p q false None fs gs k same agree is tail rest = absurd cc
set_step {X = X} f g p q false (Some j) fs gs k same agree is tail rest =
    subst (λ (n : ℕ). slice_set (f q ∷ fs) n (g p) ≡ g q ∷ gs) (same_Some (suc j) k is) (ap₂ (λ (x : X) (xs : List X). x ∷ xs) (agree q same) (rest j refl))

-- one that has it once changes at its place
pub set_placed : {X : Type 0} (f g : Pair → X) (p : Pair) → AgreeElsewhere f g p → (ps : List Pair) (k : ℕ) → count_by (is_pair p) ps ≤ 1 → place_of p ps ≡ Some k
    → slice_set (map f ps) k (g p) ≡ map g ps
set_placed f g p agree [] k once is = absurd cc
set_placed f g p agree (q ∷ qs) k once is =
    let parts = once_tail (is_pair p q) (count_by (is_pair p) qs) (omega (arith, sum_by-cons (λ x. cond (is_pair p x) 1 0) q qs, once)) in
    set_step f g p q (is_pair p q) (place_of p qs) (map f qs) (map g qs) k refl agree is (λ same. map_none f g p agree qs (parts.1 same)) (λ j there. set_placed f g p agree qs j parts.0 there)

-- ---- one pair more

push_step : (a b : Bool) (n : ℕ) (o : Option ℕ) → (a ≡ true → b ≡ true → ⊥) → cond a (Some 0) (next (cond b (Some n) o)) ≡ cond b (Some (suc n)) (cond a (Some 0) (next o))
push_step true true n o both = absurd (both refl refl)
push_step true false n o both = refl
push_step false true n o both = refl
push_step false false n o both = refl

two_apart : (q p x : Pair) → is_pair p x ≡ false → is_pair q x ≡ true → is_pair q p ≡ true → ⊥
two_apart q p x apart one other =
    let same : is_pair p x ≡ true = ap₂ is_pair (sym (same_pair q p other)) (sym (same_pair q x one)) ∙ own_pair q in
    absurd cc

pub place_pushed : (q p : Pair) (ps : List Pair) → list_any (is_pair p) ps ≡ false → place_of q (ps ++ p ∷ []) ≡ cond (is_pair q p) (Some (length ps)) (place_of q ps)
place_pushed q p [] none = refl
place_pushed q p (x ∷ xs) none =
    let parts = or_parts (is_pair p x) (list_any (is_pair p) xs) none in
    ap (λ (o : Option ℕ). cond (is_pair q x) (Some 0) (next o)) (place_pushed q p xs parts.1)
    ∙ push_step (is_pair q x) (is_pair q p) (length xs) (place_of q xs) (two_apart q p x parts.0)
