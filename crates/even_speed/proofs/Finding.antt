-- What a search by halves finds.
use Rattle.std.proofs.Common.{◌≡◌, ◌≢◌, ◌⊎◌, ℕ, ◌+◌, ◌<◌, ◌≤◌, ◌==◌, ◌&&◌, Bool, true, false, nat_le, nat_lt, List, length, get_or, slice_get, Some, Result, Ok, Err, is_ok, true≢false, refl, sym, ap, subst, ◌∙◌, inl, inr, arith, eq-eqb, eqb-true, ne_eqb, leb-true, le-leb, ltb-true, lt-ltb}
use native.Mathlib.Decide.{dec_lt}
use Rattle.std.proofs.Math.Path.{fun_ext}
use Rattle.std.proofs.lemmas.Bool.{and_parts, cases_eq, false_from_ne_true, or_right, or_cases}
use Rattle.std.proofs.lemmas.Cmp.{nat_cmp_total, on_total, then_total}
use Rattle.std.proofs.lemmas.List.{get_or_default}
use Rattle.std.proofs.lemmas.List.Elements.{All-from_get_or}
use Rattle.std.proofs.lemmas.List.Folds.{Any-from_list_any, list_any_at, list_any_none}
use Rattle.std.proofs.lemmas.List.Sorted.{list_any-IsPermutation, ranks_by, searched, sorted_far}
use Rattle.std.proofs.lemmas.Option.{slice_get_cases}
use Rattle.std.specs.Cmp.{IsTotalOrder}
use Rattle.std.specs.List.{list_any}
use Rattle.std.specs.List.Sorted.{IsBinarySearchResult, IsNonDecreasing, IsPartitionPoint, IsPartitionedBy, IsPermutation, IsSorted}
use Rattle.std.specs.Ordering.{is_lt, nat_cmp, ordering_then}
use Rattle.memory_bytes.proofs.SmallFacts.{by_numbers}
use Rattle.spec_history.specs.Refusal.{any_below}
use Rattle.spec_history.proofs.OneEntry.Legal.{none_below}
use Rattle.spec_history.proofs.Searches.Tests.{all_fail, one_passes}
use Rattle.even_speed.specs.Held.{holding, is_stored}
use Rattle.even_speed.specs.Holds.{is_before, is_of, pair_order}

-- in another order the lists say the same
abbrev At : List ℕ → ℕ → Bool
At xs pc = list_any (λ a. a == pc) xs

abbrev In : List (ℕ × ℕ) → ℕ → ℕ → Bool
In ss epoch piece = list_any (λ s. (s.0 == piece) && (s.1 == epoch)) ss

at_same : (xs ys : List ℕ) → IsPermutation xs ys → At ys ≡ At xs
at_same xs ys moved = fun_ext (λ pc. sym (list_any-IsPermutation (λ a. a == pc) xs ys moved))

in_same : (ss ts : List (ℕ × ℕ)) → IsPermutation ss ts → In ts ≡ In ss
in_same ss ts moved = fun_ext (λ epoch. fun_ext (λ piece. sym (list_any-IsPermutation (λ (s : ℕ × ℕ). (s.0 == piece) && (s.1 == epoch)) ss ts moved)))

pub same_holding : (xs ys : List ℕ) (ss ts : List (ℕ × ℕ)) (f : ℕ → ℕ) → IsPermutation xs ys → IsPermutation ss ts → holding ys ts f ≡ holding xs ss f
same_holding xs ys ss ts f moved stores_moved = λ i. record { places = at_same xs ys moved i; stores = in_same ss ts stores_moved i; piece = f }

-- ---- tests of numbers

pub none_yet : (test : ℕ → Bool) → any_below 0 test ≡ false
none_yet test = all_fail 0 test (λ k below. absurd (omega (arith, below)))

pub none_more : (n : ℕ) (test : ℕ → Bool) → any_below n test ≡ false → test n ≡ false → any_below (n + 1) test ≡ false
none_more n test before here = all_fail (n + 1) test (λ k below. elim (cases_eq k n) [
  | inl e ↦ ap test e ∙ here
  | inr other ↦ none_below n test before k (omega (arith, below, other))
])

-- ---- addresses

-- what is found in ascending numbers stands among them, and what isn't doesn't
pub found_any : (xs : List ℕ) (x : ℕ) (r : Result ℕ ℕ) → IsNonDecreasing xs → IsBinarySearchResult (λ y. nat_cmp y x) xs r → is_ok r ≡ list_any (λ a. a == x) xs
found_any xs x (Ok i) up found =
    let at = searched xs x (Ok i) found (λ i j le below. up i j 0 le below) in
    sym (list_any_at (λ a. a == x) xs i 0 at.0 (eq-eqb (get_or xs i 0) x at.1))
found_any xs x (Err i) up found = sym (list_any_none (λ a. a == x) xs (All-from_get_or (λ a. (a == x) ≡ false) xs 0 (λ k below. ne_eqb (get_or xs k 0) x (other k below))))
  where
    at : (i ≤ length xs) × ((k : ℕ) → k < i → get_or xs k 0 < x) × ((k : ℕ) → i ≤ k → k < length xs → x < get_or xs k 0)
    at = searched xs x (Err i) found (λ i j le below. up i j 0 le below)

    other : (k : ℕ) → k < length xs → get_or xs k 0 ≢ x
    other k below same = elim (dec_lt k i) [
      | yes before ↦ omega (arith, at.1 k before, same)
      | no past ↦ omega (arith, at.2 k (omega (arith, past)) below, same)
    ]

-- ---- the order of stores

total : IsTotalOrder pair_order
total = then_total (on_total (λ (p : ℕ × ℕ). p.0) nat_cmp_total) (on_total (λ (p : ℕ × ℕ). p.1) nat_cmp_total)

-- not after another
abbrev IsUpTo : ℕ × ℕ → ℕ × ℕ → Type 0
IsUpTo x y = (x.0 < y.0) ⊎ ((x.0 ≡ y.0) × (x.1 ≤ y.1))

up_to : (x y : ℕ × ℕ) → is_lt (pair_order y x) ≡ false → IsUpTo x y
up_to x y = by_numbers y.0 x.0 (λ o. is_lt (ordering_then o (nat_cmp y.1 x.1)) ≡ false → IsUpTo x y)
    (λ less is. absurd cc)
    (λ same. by_numbers y.1 x.1 (λ o. is_lt o ≡ false → IsUpTo x y)
    (λ less is. absurd cc)
    (λ same_epoch is. inr (sym same, omega (arith, same_epoch)))
    (λ more is. inr (sym same, omega (arith, more))))
    (λ more is. inl more)

in_order : (xs : List (ℕ × ℕ)) → IsSorted pair_order xs → (i j : ℕ) (d : ℕ × ℕ) → i ≤ j → j < length xs → IsUpTo (get_or xs i d) (get_or xs j d)
in_order xs sorted i j d up below =
    up_to (get_or xs i d) (get_or xs j d) (sorted_far (λ x y. is_lt (pair_order x y)) (ranks_by total (λ p. p)) xs sorted i j d up below)

-- ---- what stands before the stores in a piece from an epoch on

abbrev Before : ℕ → ℕ → ℕ × ℕ → Type 0
Before piece epoch x = (x.0 < piece) ⊎ ((x.0 ≡ piece) × (x.1 < epoch))

before : (piece epoch : ℕ) (x : ℕ × ℕ) → is_before piece epoch x ≡ true → Before piece epoch x
before piece epoch x is = elim (or_cases (nat_lt x.0 piece) ((x.0 == piece) && nat_lt x.1 epoch) is) [
  | inl less ↦ inl (ltb-true x.0 piece less)
  | inr same ↦ (let both = and_parts (x.0 == piece) (nat_lt x.1 epoch) same in inr (eqb-true x.0 piece both.0, ltb-true x.1 epoch both.1))
]

is_so : (piece epoch : ℕ) (x : ℕ × ℕ) → Before piece epoch x → is_before piece epoch x ≡ true
is_so piece epoch x (inl less) = rw (lt-ltb x.0 piece less) refl
is_so piece epoch x (inr both) = rw (eq-eqb x.0 piece both.0, lt-ltb x.1 epoch both.1) (or_right (nat_lt x.0 piece) true refl)

not_before : (piece epoch : ℕ) (x : ℕ × ℕ) → is_before piece epoch x ≡ false → Before piece epoch x → ⊥
not_before piece epoch x is so = let other : is_before piece epoch x ≡ true = is_so piece epoch x so in absurd cc

still : (piece epoch : ℕ) (x y : ℕ × ℕ) → IsUpTo x y → Before piece epoch y → Before piece epoch x
still piece epoch x y (inl less) (inl before) = inl (omega (arith, less, before))
still piece epoch x y (inl less) (inr before) = inl (omega (arith, less, before.0))
still piece epoch x y (inr same) (inl before) = inl (omega (arith, same.0, before))
still piece epoch x y (inr same) (inr before) = inr (omega (arith, same.0, before.0), omega (arith, same.1, before.1))

pub parted : (piece epoch : ℕ) (xs : List (ℕ × ℕ)) → IsSorted pair_order xs → IsPartitionedBy (is_before piece epoch) xs
parted piece epoch xs sorted i j d up below is =
    is_so piece epoch (get_or xs i d) (still piece epoch (get_or xs i d) (get_or xs j d) (in_order xs sorted i j d up below) (before piece epoch (get_or xs j d) is))

-- ---- whether an epoch stores there

abbrev IsSplit : ℕ → ℕ → List (ℕ × ℕ) → ℕ → Type 0
IsSplit piece homefree xs index = IsPartitionPoint (λ x. is_before piece homefree x ≡ true) (λ x. is_before piece homefree x ≡ false) xs index

-- a store that isn't before those, nor after one by this epoch
first_of : (piece homefree epoch : ℕ) (x y : ℕ × ℕ) → is_before piece homefree x ≡ false → IsUpTo x y → y.0 ≡ piece → y.1 < epoch → is_of piece epoch (Some x) ≡ true
first_of piece homefree epoch x y late up same early = rw (eq-eqb x.0 piece (piece_is up), lt-ltb x.1 epoch (epoch_is up)) refl
  where
    piece_is : IsUpTo x y → x.0 ≡ piece
    piece_is (inl less) = absurd (not_before piece homefree x late (inl (omega (arith, less, same))))
    piece_is (inr both) = both.0 ∙ same

    epoch_is : IsUpTo x y → x.1 < epoch
    epoch_is (inl less) = absurd (not_before piece homefree x late (inl (omega (arith, less, same))))
    epoch_is (inr both) = omega (arith, both.1, early)

from_homefree : (piece homefree : ℕ) (x : ℕ × ℕ) → is_before piece homefree x ≡ false → x.0 ≡ piece → homefree ≤ x.1
from_homefree piece homefree x late same = elim (dec_lt x.1 homefree) [
  | yes early ↦ absurd (not_before piece homefree x late (inr (same, early)))
  | no past ↦ omega (arith, past)
]

-- the first store from the homefree epoch on tells
module _ (places : List ℕ) (xs : List (ℕ × ℕ)) (f : ℕ → ℕ) (piece homefree epoch index : ℕ) (sorted : IsSorted pair_order xs) (split : IsSplit piece homefree xs index) where
  abbrev Stores : ℕ → Bool
  Stores d = list_any (λ (s : ℕ × ℕ). (s.0 == piece) && (s.1 == d)) xs

  abbrev test : ℕ → Bool
  test d = nat_le homefree d && Stores d

  -- where it is of the piece, and by an epoch before this one
  hit : (x : ℕ × ℕ) → index < length xs → get_or xs index x ≡ x → is_of piece epoch (Some x) ≡ true → any_below epoch test ≡ true
  hit x within at is =
      let parts = and_parts (x.0 == piece) (nat_lt x.1 epoch) is in
      let same = eqb-true x.0 piece parts.0 in
      let late = subst (λ y. is_before piece homefree y ≡ false) at (split.1 index x (omega arith) within) in
      one_passes epoch test x.1 (ltb-true x.1 epoch parts.1)
      (rw (le-leb homefree x.1 (from_homefree piece homefree x late same))
      (list_any_at (λ (s : ℕ × ℕ). (s.0 == piece) && (s.1 == x.1)) xs index x within
      (subst (λ (y : ℕ × ℕ). ((y.0 == piece) && (y.1 == x.1)) ≡ true) (sym at) (rw (parts.0, eq-eqb x.1 x.1 refl) refl))))

  -- where it isn't, there is none
  miss : ((d : ℕ × ℕ) → index < length xs → is_of piece epoch (Some (get_or xs index d)) ≡ false) → any_below epoch test ≡ false
  miss other = all_fail epoch test (λ d below. false_from_ne_true (test d) (λ is. none d below (and_parts (nat_le homefree d) (Stores d) is)))
    where
      at : (d i : ℕ) (x : ℕ × ℕ) → d < epoch → homefree ≤ d → i < length xs → get_or xs i x ≡ x → x.0 ≡ piece → x.1 ≡ d → ⊥
      at d i x below from within is same epoch_same = elim (dec_lt i index) [
        | yes early ↦ elim (before piece homefree x (subst (λ y. is_before piece homefree y ≡ true) is (split.0 i x (omega arith) early))) [
          | inl less ↦ omega (arith, less, same)
          | inr both ↦ omega (arith, both.1, epoch_same, from)
        ]
        | no past ↦
            let up : index ≤ i = omega (arith, past) in
            let there : index < length xs = omega (arith, up, within) in
            let of_it : is_of piece epoch (Some (get_or xs index x)) ≡ true =
            first_of piece homefree epoch (get_or xs index x) x (split.1 index x (omega arith) there) (subst (IsUpTo (get_or xs index x)) is (in_order xs sorted index i x up within)) same
            (omega (arith, epoch_same, below)) in
            let not_of_it : is_of piece epoch (Some (get_or xs index x)) ≡ false = other x there in
            true≢false (sym of_it ∙ not_of_it)
      ]

      none : (d : ℕ) → d < epoch → (nat_le homefree d ≡ true) × (Stores d ≡ true) → ⊥
      none d below both =
          let any = Any-from_list_any (λ (s : ℕ × ℕ). (s.0 == piece) && (s.1 == d)) xs both.1 in
          let parts = and_parts (any.1.0 == piece) (any.1.1 == d) any.4 in
          at d any.0 any.1 below (leb-true homefree d both.0) any.2 any.3 (eqb-true any.1.0 piece parts.0) (eqb-true any.1.1 d parts.1)

  by_first : (x : ℕ × ℕ) (b : Bool) → index < length xs → get_or xs index x ≡ x → is_of piece epoch (Some x) ≡ b → b ≡ any_below epoch test
  by_first x true within at is = sym (hit x within at is)
  by_first x false within at is = sym (miss (λ d there. ap (λ y. is_of piece epoch (Some y)) (get_or_default xs index d x there ∙ at) ∙ is))

  pub found_stored : is_of piece epoch (slice_get xs index) ≡ is_stored (holding places xs f) homefree epoch piece
  found_stored = elim (slice_get_cases xs index).1 [
    | inl in_it ↦ ap (is_of piece epoch) in_it.2 ∙ by_first in_it.0 (is_of piece epoch (Some in_it.0)) in_it.1 in_it.3 refl
    | inr out ↦ ap (is_of piece epoch) out.1 ∙ sym (miss (λ d within. absurd (omega (arith, within, out.0))))
  ]
