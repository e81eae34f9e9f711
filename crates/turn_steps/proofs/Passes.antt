-- A pass over rows in ascending order.
use Rattle.std.proofs.Common.{◌≡◌, ◌≢◌, ℕ, zero, suc, ◌<◌, ◌≤◌, Bool, true, false, ◌||◌, List, [], ◌∷◌, ◌++◌, if◌then◌else◌, nat_lt, refl, ap, sym, subst, ◌∙◌, arith, append_assoc, ⊎_elim}
use Rattle.std.proofs.lemmas.Bool.{cases_eq, cases_lt, or_from, or_right}
use Rattle.std.proofs.lemmas.Bool.Decides.{nat_tests}
use Rattle.std.proofs.lemmas.Cmp.{ranked}
use Rattle.std.proofs.lemmas.List.{append-nil, flat_map_more}
use Rattle.std.proofs.lemmas.Map.Keys.{sorted_head, sorted_tail}
use Rattle.std.specs.BTreeMap.{is_at}
use Rattle.std.specs.List.{AllByRecursion, flat_map, list_any}
use Rattle.std.specs.List.Sorted.{IsStrictlySortedBy}
use Rattle.std.specs.Ordering.{nat_cmp}
use Rattle.std.specs.declared.cmp.Ordering.TheVariants.{Less}
use Rattle.rv32_image.proofs.SmallFacts.{or_false}
use Rattle.turn_steps.specs.Passes.{inside}
use Rattle.turn_steps.specs.Rows.{text_below}

-- ---- the rows of a list

-- the row is one of these
abbrev pub among : List ℕ → ℕ → Bool
among rows row = list_any (is_at (nat_cmp row)) rows

less_from : (x y : ℕ) → nat_cmp x y ≡ Less → x < y
less_from x y less = ranked x y Less (sym less)

pub apart : (x y : ℕ) → x ≢ y → is_at (nat_cmp x) y ≡ false
apart x y other = grind (arith, nat_tests)

itself : (x : ℕ) → is_at (nat_cmp x) x ≡ true
itself x = grind (arith, nat_tests)

-- all are past this one
above : (x : ℕ) (rows : List ℕ) → AllByRecursion (λ y. nat_cmp x y ≡ Less) rows → (row : ℕ) → row ≤ x → among rows row ≡ false
above x [] all row le = refl
above x (y ∷ rows) all row le =
    let past : x < y = less_from x y all.0 in
    or_from (is_at (nat_cmp row) y) (among rows row) (apart row y (omega arith)) (above x rows all.1 row le)

past_it : (x : ℕ) (rows : List ℕ) → AllByRecursion (λ y. nat_cmp x y ≡ Less) rows → (n : ℕ) → n ≤ suc x → AllByRecursion (λ y. n ≤ y) rows
past_it x [] all n le = tt
past_it x (y ∷ rows) all n le = let past : x < y = less_from x y all.0 in (omega arith, past_it x rows all.1 n le)

in_the_middle : (P : ℕ → Type 0) (ys : List ℕ) (x : ℕ) (rest : List ℕ) → AllByRecursion P (ys ++ x ∷ rest) → P x
in_the_middle P [] x rest all = all.0
in_the_middle P (y ∷ ys) x rest all = in_the_middle P ys x rest all.1

-- the next row isn't one of those before it
pub is_new : (ys : List ℕ) (x : ℕ) (rest : List ℕ) → IsStrictlySortedBy nat_cmp (ys ++ x ∷ rest) → among ys x ≡ false
is_new [] x rest sorted = refl
is_new (y ∷ ys) x rest sorted =
    let less : y < x = less_from y x (in_the_middle (λ z. nat_cmp y z ≡ Less) ys x rest (sorted_head nat_cmp y (ys ++ x ∷ rest) sorted)) in
    or_from (is_at (nat_cmp x) y) (among ys x) (apart x y (omega arith)) (is_new ys x rest (sorted_tail nat_cmp y (ys ++ x ∷ rest) sorted))

or_or : (a b c : Bool) → (a || (b || c)) ≡ ((a || b) || c)
or_or true b c = refl
or_or false b c = refl

among_more : (ys : List ℕ) (x row : ℕ) → among (ys ++ x ∷ []) row ≡ (among ys row || is_at (nat_cmp row) x)
among_more [] x row = or_false (is_at (nat_cmp row) x)
among_more (y ∷ ys) x row = ap (λ b. is_at (nat_cmp row) y || b) (among_more ys x row) ∙ or_or (is_at (nat_cmp row) y) (among ys row) (is_at (nat_cmp row) x)

pub among_it : (ys : List ℕ) (x : ℕ) → among (ys ++ x ∷ []) x ≡ true
among_it ys x = among_more ys x x ∙ or_right (among ys x) (is_at (nat_cmp x) x) (itself x)

pub among_others : (ys : List ℕ) (x row : ℕ) → row ≢ x → among (ys ++ x ∷ []) row ≡ among ys row
among_others ys x row other = among_more ys x row ∙ ap (λ b. among ys row || b) (apart row x other) ∙ or_false (among ys row)

-- the next one of a set
pub is_next : (keys ys : List ℕ) (x : ℕ) (s t u : List ℕ) → IsStrictlySortedBy nat_cmp keys → s ≡ keys → s ≡ ys ++ t → t ≡ x ∷ u → among ys x ≡ false
is_next keys ys x s t u sorted start split head =
    is_new ys x u (subst (IsStrictlySortedBy nat_cmp) (sym start ∙ split ∙ ap (λ l. ys ++ l) head) sorted)

-- ---- the text of the first rows

-- rows that add nothing
flat : (text : ℕ → List ℕ) (n m : ℕ) → n ≤ m → ((row : ℕ) → n ≤ row → row < m → text row ≡ []) → text_below text n ≡ text_below text m
unfolding text_below
flat text n zero le none = let same : n ≡ 0 = omega arith in ap (text_below text) same
flat text n (suc m) le none =
    ⊎_elim (λ same. ap (text_below text) same)
    (λ other. flat text n m (omega arith) (λ row least most. none row least (omega arith))
    ∙ sym (append-nil (text_below text m)) ∙ ap (λ t. text_below text m ++ t) (sym (none m (omega arith) (omega arith))))
    (cases_eq n (suc m))

pub below_more : (text : ℕ → List ℕ) (row : ℕ) → text_below text (suc row) ≡ text_below text row ++ text row
unfolding text_below
below_more text row = refl

-- the same text of each
pub below_same : (f g : ℕ → List ℕ) (count : ℕ) → ((row : ℕ) → row < count → f row ≡ g row) → text_below f count ≡ text_below g count
unfolding text_below
below_same f g zero same = refl
below_same f g (suc count) same =
    ap (λ t. t ++ f count) (below_same f g count (λ row less. same row (omega arith))) ∙ ap (λ t. text_below g count ++ t) (same count (omega arith))

-- ---- the rows that lie in memory

is_inside : (text : ℕ → List ℕ) (count row : ℕ) → row < count → inside count text row ≡ text row
is_inside text count row less = let b : nat_lt row count ≡ true = grind (arith, nat_tests) in rw b refl

is_outside : (text : ℕ → List ℕ) (count row : ℕ) → count ≤ row → inside count text row ≡ []
is_outside text count row past = let b : nat_lt row count ≡ false = grind (arith, nat_tests) in rw b refl

all_outside : (text : ℕ → List ℕ) (count : ℕ) (rows : List ℕ) → AllByRecursion (λ y. count ≤ y) rows → flat_map (inside count text) rows ≡ []
all_outside text count [] all = refl
all_outside text count (x ∷ rows) all =
    ap (λ t. t ++ flat_map (inside count text) rows) (is_outside text count x all.0) ∙ all_outside text count rows all.1

-- the rows of a list from a row on, where the others add nothing
from : (text : ℕ → List ℕ) (count : ℕ) (rows : List ℕ) (start : ℕ) → start ≤ count → AllByRecursion (λ y. start ≤ y) rows
    → IsStrictlySortedBy nat_cmp rows → ((row : ℕ) → start ≤ row → row < count → among rows row ≡ false → text row ≡ [])
    → text_below text start ++ flat_map (inside count text) rows ≡ text_below text count
from text count [] start le low sorted none = append-nil (text_below text start) ∙ flat text start count le (λ row least most. none row least most refl)
from text count (x ∷ rows) start le low sorted none =
    let head : AllByRecursion (λ y. nat_cmp x y ≡ Less) rows = sorted_head nat_cmp x rows sorted in
    let least : start ≤ x = low.0 in
    let rest : List ℕ = flat_map (inside count text) rows in
    let before : (row : ℕ) → row < x → among (x ∷ rows) row ≡ false = λ row less.
    or_from (is_at (nat_cmp row) x) (among rows row) (apart row x (omega arith)) (above x rows head row (omega arith)) in
    let after : (row : ℕ) → x < row → among rows row ≡ false → among (x ∷ rows) row ≡ false = λ row less outside.
    or_from (is_at (nat_cmp row) x) (among rows row) (apart row x (omega arith)) outside in
    ⊎_elim
    (λ less. ap (λ t. text_below text start ++ (t ++ rest)) (is_inside text count x less)
    ∙ ap (λ t. t ++ (text x ++ rest)) (flat text start x least (λ row most under. none row most (omega arith) (before row under)))
    ∙ sym (append_assoc (text_below text x) (text x) rest)
    ∙ ap (λ t. t ++ rest) (sym (below_more text x))
    ∙ from text count rows (suc x) (omega arith) (past_it x rows head (suc x) (omega arith)) (sorted_tail nat_cmp x rows sorted)
    (λ row most under outside. none row (omega arith) under (after row (omega arith) outside)))
    (λ past. ap (λ t. text_below text start ++ (t ++ rest)) (is_outside text count x past)
    ∙ ap (λ t. text_below text start ++ t) (all_outside text count rows (past_it x rows head count (omega arith)))
    ∙ append-nil (text_below text start)
    ∙ flat text start count le (λ row most under. none row most under (before row (omega arith))))
    (cases_lt x count)

all_from : (rows : List ℕ) → AllByRecursion (λ y. 0 ≤ y) rows
all_from [] = tt
all_from (x ∷ rows) = (omega arith, all_from rows)

-- the rows of a list, where the others add nothing
pub text_of_all : (text : ℕ → List ℕ) (count : ℕ) (rows : List ℕ) → IsStrictlySortedBy nat_cmp rows
    → ((row : ℕ) → row < count → among rows row ≡ false → text row ≡ []) → flat_map (inside count text) rows ≡ text_below text count
unfolding text_below
text_of_all text count rows sorted none = from text count rows 0 (omega arith) (all_from rows) sorted (λ row least most outside. none row most outside)

-- ---- one more row

-- the rows of the list are shown as they are now, the others as they were
abbrev pub passed : {A : Type 0} → List ℕ → (ℕ → A) → (ℕ → A) → ℕ → A
passed rows now start row = if among rows row then now row else start row

passed_not : {A : Type 0} (rows : List ℕ) (now start : ℕ → A) (row : ℕ) → among rows row ≡ false → passed rows now start row ≡ start row
passed_not rows now start row outside = rw outside refl

passed_so : {A : Type 0} (rows : List ℕ) (now start : ℕ → A) (row : ℕ) → among rows row ≡ true → passed rows now start row ≡ now row
passed_so rows now start row within = rw within refl

same_inside : {A : Type 0} (change : ℕ → A → List ℕ) (at start : ℕ → A) (count x : ℕ) → (x < count → at x ≡ start x)
    → inside count (λ r. change r (at r)) x ≡ inside count (λ r. change r (start r)) x
same_inside change at start count x same =
    ⊎_elim
    (λ less. is_inside (λ r. change r (at r)) count x less ∙ ap (change x) (same less) ∙ sym (is_inside (λ r. change r (start r)) count x less))
    (λ past. is_outside (λ r. change r (at r)) count x past ∙ sym (is_outside (λ r. change r (start r)) count x past))
    (cases_lt x count)

pub more_text : {A : Type 0} (change : ℕ → A → List ℕ) (now start at : ℕ → A) (count : ℕ) (ys : List ℕ) (x : ℕ) (old text new : List ℕ)
    → among ys x ≡ false → ((row : ℕ) → row < count → at row ≡ passed ys now start row)
    → text ≡ old ++ flat_map (inside count (λ r. change r (start r))) ys → new ≡ text ++ inside count (λ r. change r (at r)) x
    → new ≡ old ++ flat_map (inside count (λ r. change r (start r))) (ys ++ x ∷ [])
more_text change now start at count ys x old text new outside shown so more =
    more
    ∙ ap (λ t. t ++ inside count (λ r. change r (at r)) x) so
    ∙ ap (λ t. (old ++ flat_map (inside count (λ r. change r (start r))) ys) ++ t)
    (same_inside change at start count x (λ less. shown x less ∙ passed_not ys now start x outside))
    ∙ flat_map_more (inside count (λ r. change r (start r))) old ys x

pub more_shown : {A : Type 0} (now start at new : ℕ → A) (count : ℕ) (ys : List ℕ) (x : ℕ)
    → ((row : ℕ) → row < count → at row ≡ passed ys now start row) → (x < count → new x ≡ now x) → ((row : ℕ) → row ≢ x → new row ≡ at row)
    → (row : ℕ) → row < count → new row ≡ passed (ys ++ x ∷ []) now start row
more_shown now start at new count ys x shown it others row less =
    ⊎_elim
    (λ same. subst (λ (r : ℕ). r < count → new r ≡ passed (ys ++ x ∷ []) now start r) (sym same)
    (λ below. it below ∙ sym (passed_so (ys ++ x ∷ []) now start x (among_it ys x))) less)
    (λ other. others row other ∙ shown row less ∙ ap (λ (b : Bool). if b then now row else start row) (sym (among_others ys x row other)))
    (cases_eq row x)

-- ---- the end

settled : {A : Type 0} (b : Bool) (now start : A) → (b ≡ false → start ≡ now) → (if b then now else start) ≡ now
settled true now start rest = refl
settled false now start rest = rest refl

-- all are shown as they are now, if those outside the list are so
pub all_shown : {A : Type 0} (now start at : ℕ → A) (count : ℕ) (rows : List ℕ)
    → ((row : ℕ) → row < count → at row ≡ passed rows now start row) → ((row : ℕ) → row < count → among rows row ≡ false → start row ≡ now row)
    → (row : ℕ) → row < count → at row ≡ now row
all_shown now start at count rows shown rest row less =
    shown row less ∙ settled (among rows row) (now row) (start row) (rest row less)
