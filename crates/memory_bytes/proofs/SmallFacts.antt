-- Small facts of tests, numbers, options, results and lists, and of the bytes of an access, that the standard library has
-- under no name.
use Rattle.std.proofs.Common.{◌≡◌, ◌≢◌, ◌⊎◌, ℕ, zero, suc, ◌+◌, ◌<◌, ◌≤◌, ◌==◌, ◌&&◌, ◌||◌, not, nat_cmp, nat_lt, is_eq, is_err, is_none, is_some, Bool, true, false, cond, List, [], ◌∷◌, ◌++◌, OnOk, Ok, Err, Option, Some, None, Ordering, Less, Equal, Greater, Result, slice_get, true≢false, unwrap_or, refl, sym, ap, subst, ◌∙◌, inl, inr, arith, eq-eqb, eqb-true, ltb-true}
use Rattle.std.specs.Ordering.{ordering_then}
use Rattle.std.proofs.lemmas.Bool.{false_from_ne_true}
use Rattle.std.proofs.lemmas.Cmp.{by_ranked, ranked}
use Rattle.memory_bytes.specs.Bytes.{IsWidth}
use Rattle.memory_bytes.specs.Maps.{first_of}

-- ---- tests

-- a number that passes a test isn't one that fails it
pub apart_by_test : (test : ℕ → Bool) (j k : ℕ) → test j ≡ false → test k ≡ true → k ≢ j
apart_by_test test j k fails passes same = true≢false (sym passes ∙ (ap test same ∙ fails))

-- where one of two holds or another doesn't, and the first doesn't, the other doesn't
pub or_not : (a b : Bool) → (a || not b) ≡ true → a ≡ false → b ≡ false
or_not true b is fails = absurd (true≢false fails)
or_not false true is fails = sym is
or_not false false is fails = refl

-- what becomes so enters; where nothing enters, and what was so stays so, what is so now was so before
pub none_enters : (enters after before : Bool) → enters ≡ (after && not before) → enters ≡ false → (before ≡ true → after ≡ true) → after ≡ before
none_enters enters true true is none stays = refl
none_enters enters true false is none stays = sym is ∙ none
none_enters enters false true is none stays = stays refl
none_enters enters false false is none stays = refl

-- what was so or enters is what is so now, where what was so stays so
pub was_or_enters : (was before after enters : Bool) → was ≡ before → enters ≡ (after && not before) → (before ≡ true → after ≡ true) → (was || enters) ≡ after
was_or_enters was true true enters same is stays = rw same refl
was_or_enters was true false enters same is stays = absurd (true≢false (sym (stays refl)))
was_or_enters was false true enters same is stays = rw (same, is) refl
was_or_enters was false false enters same is stays = rw (same, is) refl

-- what enters wasn't so before
pub enters_new : (was before after enters : Bool) → was ≡ before → enters ≡ (after && not before) → enters ≡ true → was ≡ false
enters_new was true true enters same is now = absurd (true≢false (sym now ∙ is))
enters_new was true false enters same is now = absurd (true≢false (sym now ∙ is))
enters_new was false after enters same is now = same

-- an `and` with true leaves what an `or` gives as it was
pub or_and_true : (enters was now : Bool) → (was || enters) ≡ now → (was || (enters && true)) ≡ now
or_and_true true was now is = is
or_and_true false was now is = is

-- an `or` with an `and` with false gives what it had
pub or_and_false : (was enters : Bool) → (was || (enters && false)) ≡ was
or_and_false true enters = refl
or_and_false false true = refl
or_and_false false false = refl

-- ---- numbers

-- a number below another isn't equal to it
pub less_apart : (a b : ℕ) → nat_lt a b ≡ true → (a == b) ≡ false
less_apart a b less = false_from_ne_true (a == b) (λ same. omega (arith, ltb-true a b less, eqb-true a b same))

-- two numbers equal others
pub equal_both : (a b c d : ℕ) → a ≡ b → c ≡ d → ((a == b) && (c == d)) ≡ true
equal_both a b c d first second = rw (eq-eqb a b first, eq-eqb c d second) refl

-- what follows from how two numbers compare holds of their order
pub by_numbers : (a b : ℕ) (P : Ordering → Type 0) → (a < b → P Less) → (a ≡ b → P Equal) → (b < a → P Greater) → P (nat_cmp a b)
by_numbers a b P less same more =
    by_ranked (a < b) (a ≡ b) (b < a) (nat_cmp a b) (ranked a b (nat_cmp a b) refl) (λ is lt. subst P (sym is) (less lt))
    (λ is e. subst P (sym is) (same e)) (λ is gt. subst P (sym is) (more gt))

-- an order told by two tests, which don't both pass, is that of equals where the second passes
pub is_eq_by_tests : (less same : Bool) → (less ≡ true → same ≡ false) → is_eq (cond less Less (cond same Equal Greater)) ≡ same
is_eq_by_tests true true no_both = sym (no_both refl)
is_eq_by_tests true false no_both = refl
is_eq_by_tests false true no_both = refl
is_eq_by_tests false false no_both = refl

-- and one of two orders is where this one and the next are
pub is_eq_then : (less same : Bool) (next : Ordering) → (less ≡ true → same ≡ false)
    → is_eq (ordering_then (cond less Less (cond same Equal Greater)) next) ≡ (same && is_eq next)
is_eq_then true true next no_both = absurd (true≢false (no_both refl))
is_eq_then true false next no_both = refl
is_eq_then false true next no_both = refl
is_eq_then false false next no_both = refl

-- ---- options and results

-- an option holds nothing or something
pub none_or_some : {A : Type 0} (o : Option A) → (o ≡ None) ⊎ ((x : A) × (o ≡ Some x))
none_or_some None = inl refl
none_or_some (Some x) = inr (x, refl)

-- one that isn't any value is none
pub none_by : {A : Type 0} (o : Option A) → ((x : A) → o ≡ Some x → ⊥) → o ≡ None
none_by None is = refl
none_by (Some x) is = absurd (is x refl)

-- one that isn't none is some
pub some_unless : {A : Type 0} (o : Option A) → (o ≡ None → ⊥) → is_some o ≡ true
some_unless None other = absurd (other refl)
some_unless (Some x) other = refl

-- one that passes the test of none is none
pub none_is : {A : Type 0} (o : Option A) → is_none o ≡ true → o ≡ None
none_is None is = refl
none_is (Some x) is = absurd (true≢false (sym is))

-- two values read where an option has none are the same if they are so where it has none
pub seen_by : {A : Type 0} (own : Option A) (here there : A) → (own ≡ None → here ≡ there) → unwrap_or own here ≡ unwrap_or own there
seen_by None here there same = same refl
seen_by (Some x) here there same = refl

-- the first of two options is some where the second is
pub some_first : (first second : Option ℕ) → is_some second ≡ true → is_some (first_of first second) ≡ true
some_first None second is = is
some_first (Some x) second is = refl

-- a success holds one value
pub ok_same : {A E : Type 0} (x y : A) → (let given : Result A E = Ok x in given ≡ Ok y) → x ≡ y
ok_same x y is = cc

-- what is promised of a success holds of a result that isn't a failure
pub ok_holds : {A E : Type 0} (r : Result A E) (P : Type 0) → is_err r ≡ false → OnOk r P → P
ok_holds (Ok x) P is on = on
ok_holds (Err e) P is on = absurd (true≢false is)

-- ---- lists

-- what stands at a place of a list stands there as well where more follows
pub in_front : {A : Type 0} (xs ys : List A) (place : ℕ) (x : A) → slice_get xs place ≡ Some x → slice_get (xs ++ ys) place ≡ Some x
in_front [] ys place x at = absurd cc
in_front (y ∷ xs) ys zero x at = at
in_front (y ∷ xs) ys (suc place) x at = in_front xs ys place x at

-- ---- bytes of an access

-- a fact of accesses of each width is one of all accesses
pub by_width : (P : ℕ → Type 0) (width : ℕ) → IsWidth width → P 1 → P 2 → P 4 → P width
by_width P width (inl one) of_1 of_2 of_4 = subst P (sym one) of_1
by_width P width (inr (inl two)) of_1 of_2 of_4 = subst P (sym two) of_2
by_width P width (inr (inr four)) of_1 of_2 of_4 = subst P (sym four) of_4

-- an access has some byte
pub some_wide : (width : ℕ) → IsWidth width → 0 < width
some_wide width wide = by_width (λ n. 0 < n) width wide (omega arith) (omega arith) (omega arith)

-- and starts within memory where it lies in it
pub starts_inside : (address width size : ℕ) → IsWidth width → address + width ≤ size → address < size
starts_inside address width size wide within = let some = some_wide width wide in omega (arith, some, within)
