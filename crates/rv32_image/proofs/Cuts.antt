-- Cutting at the first separator gives the first piece and the others.
use Rattle.std.proofs.Common.{◌≡◌, ℕ, suc, ◌+◌, ◌<◌, ◌≤◌, Bool, true, false, cond, List, [], ◌∷◌, length, take, drop, Some, None, nat_lt, refl, ap, ◌∙◌, arith, add-one}
use Rattle.std.proofs.lemmas.Bool.Decides.{nat_tests}
use Rattle.std.proofs.lemmas.List.Splits.{slice_split-cons_no, slice_split_first}
use Rattle.std.specs.Prelude.{position}
use Rattle.std.specs.List.{slice_split, onto_first, position_or_len}
use Rattle.std.proofs.lemmas.Option.{cond_some}

uncut_cons : (p : ℕ → Bool) (x : ℕ) (xs : List ℕ) (b : Bool) → p x ≡ b
    → (length xs ≤ position_or_len p xs → slice_split p xs ≡ xs ∷ []) → suc (length xs) ≤ position_or_len p (x ∷ xs)
    → slice_split p (x ∷ xs) ≡ (x ∷ xs) ∷ []
uncut_cons p x xs true is rest long =
    let none : position_or_len p (x ∷ xs) ≡ 0 = rw is refl in absurd (omega (arith, none, long))
uncut_cons p x xs false is rest long =
    let past : position_or_len p (x ∷ xs) ≡ 1 + position_or_len p xs = rw is refl in
    slice_split-cons_no p x xs is ∙ ap (onto_first x) (rest (omega (arith, past, long)))

uncut : (p : ℕ → Bool) (xs : List ℕ) → length xs ≤ position_or_len p xs → slice_split p xs ≡ xs ∷ []
uncut p [] long = refl
uncut p (x ∷ xs) long = uncut_cons p x xs (p x) refl (uncut p xs) long

-- which answer of `position` it is
none_when : (b : Bool) (i : ℕ) → cond b (Some i) None ≡ None → b ≡ false
none_when true i is = cc
none_when false i is = refl

-- with no separator there is one piece
pub slice_split-none : (p : ℕ → Bool) (xs : List ℕ) → position p xs ≡ None → slice_split p xs ≡ xs ∷ []
slice_split-none p xs is =
    let past = none_when (nat_lt (position_or_len p xs) (length xs)) _ is in
    let long : length xs ≤ position_or_len p xs = grind (arith, nat_tests, past) in uncut p xs long

-- at the first separator the first piece ends
pub slice_split-some : (p : ℕ → Bool) (xs : List ℕ) (i : ℕ) → position p xs ≡ Some i
    → slice_split p xs ≡ take i xs ∷ slice_split p (drop (i + 1) xs)
slice_split-some p xs i is =
    let at = cond_some (nat_lt (position_or_len p xs) (length xs)) _ i is in
    let within : position_or_len p xs < length xs = grind (arith, nat_tests, at.0) in
    let first = slice_split_first p xs 0 within in
    first ∙ rw (at.1, add-one) refl
