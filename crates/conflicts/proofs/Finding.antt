-- Whether a search found a given place.
use Rattle.std.proofs.Common.{◌≡◌, ℕ, zero, suc, ◌<◌, ◌≤◌, ◌&&◌, ◌||◌, Bool, true, false, is_none, Option, Some, None, unwrap_or, if◌then◌else◌, refl, sym, ap, ◌∙◌, inl, inr, arith, lt-ltb, le-ltb, ne_eqb}
use Rattle.std.proofs.lemmas.Bool.{cases_eq, eq-eqb, both_ways}
use Rattle.spec_history.specs.Searches.{first_below, last_below}
use Rattle.spec_history.proofs.Searches.Tests.{first_found}
use Rattle.conflicts.specs.Attempts.{is_after}
use Rattle.conflicts.specs.Blame.{is_place}
use Rattle.conflicts.proofs.Backwards.{from_start, last_at, none_after}

-- ---- what is known of a number that was found

pub record IsLast (n : ℕ) (test : ℕ → Bool) (k : ℕ) : Type 0 where
  pub within : k < n
  pub passes : test k ≡ true
  pub last : (j : ℕ) → k < j → j < n → test j ≡ false

last_step : (b : Bool) (n k : ℕ) (rest : Option ℕ) (P : Type 0) → (if b then Some n else rest) ≡ Some k → (b ≡ true → n ≡ k → P) → (b ≡ false → rest ≡ Some k → P) → P
last_step true n k rest P is one other = one refl (ap (λ o. unwrap_or o 0) is)
last_step false n k rest P is one other = other refl is

pub last_found : (n : ℕ) (test : ℕ → Bool) (k : ℕ) → last_below n test ≡ Some k → IsLast n test k
unfolding last_below
last_found zero test k is = absurd cc
last_found (suc n) test k is = last_step (test n) n k (last_below n test) (IsLast (suc n) test k) is
    (λ passes same. record {
      within = omega (arith, same);
      passes = ap test (sym same) ∙ passes;
      last = λ j after below. absurd (omega (arith, same, after, below));
    })
    (λ fails rest. let found = last_found n test k rest in record {
      within = omega (arith, found.within);
      passes = found.passes;
      last = λ j after below. elim (cases_eq j n) [
        | inl e ↦ ap test e ∙ fails
        | inr other ↦ found.last j after (omega (arith, below, other))
      ];
    })

none_step : (b : Bool) (n : ℕ) (rest : Option ℕ) (P : Type 0) → (if b then Some n else rest) ≡ None → (b ≡ false → rest ≡ None → P) → P
none_step true n rest P is one = absurd cc
none_step false n rest P is one = one refl is

none_last : (n : ℕ) (test : ℕ → Bool) → last_below n test ≡ None → (k : ℕ) → k < n → test k ≡ false
unfolding last_below
none_last zero test is k below = absurd (omega (arith, below))
none_last (suc n) test is k below = none_step (test n) n (last_below n test) (test k ≡ false) is (λ fails rest. elim (cases_eq k n) [
  | inl e ↦ ap test e ∙ fails
  | inr other ↦ none_last n test rest k (omega (arith, below, other))
])

-- ---- whether it is a given place

not_place : (found : Option ℕ) (place : ℕ) → (found ≡ Some place → ⊥) → is_place found place ≡ false
not_place None place no_way = refl
not_place (Some k) place no_way = ne_eqb k place (λ e. no_way (ap Some e))

pub unread_at : (n : ℕ) (test : ℕ → Bool) (place : ℕ) → test place ≡ false → is_place (first_below n test) place ≡ false
unread_at n test place fails = not_place (first_below n test) place (λ is. both_ways (test place) fails (first_found n test place is).passes)

pub beyond : (n : ℕ) (test : ℕ → Bool) (place : ℕ) → n ≤ place → is_place (first_below n test) place ≡ false
beyond n test place above = not_place (first_below n test) place (λ is. let f = first_found n test place is in omega (arith, above, f.within))

pub earlier : (n : ℕ) (test : ℕ → Bool) (j place : ℕ) → j < place → test j ≡ true → is_place (first_below n test) place ≡ false
earlier n test j place before passes = not_place (first_below n test) place (λ is. both_ways (test j) ((first_found n test place is).first j before) passes)

pub same_place : (found : Option ℕ) (place : ℕ) → found ≡ Some place → is_place found place ≡ true
same_place found place is = ap (λ (o : Option ℕ). is_place o place) is ∙ eq-eqb place place refl

pub is_last : (n : ℕ) (test : ℕ → Bool) (place : ℕ) → place < n → test place ≡ true → ((j : ℕ) → place < j → j < n → test j ≡ false) → is_place (last_below n test) place ≡ true
is_last n test place within passes none = same_place (last_below n test) place (last_at n test place within passes none)

-- ---- the first load that reads a byte from outside: begins, loads and stores say at which places a core begins an attempt, loads the byte and stores to it

abbrev stored_before : (ℕ → Bool) → (ℕ → Bool) → ℕ → Option ℕ
stored_before begins stores place = last_below place (λ k. is_after (last_below place begins) k && stores k)

abbrev reads : (ℕ → Bool) → (ℕ → Bool) → (ℕ → Bool) → ℕ → ℕ → Bool
reads begins loads stores before place = (is_after (last_below before begins) place && loads place) && is_none (stored_before begins stores place)

-- the attempt of a place after its start
same_start : (before start place : ℕ) (begins : ℕ → Bool) → last_below before begins ≡ Some start → start < place → place ≤ before → last_below place begins ≡ Some start
same_start before start place begins is after most =
    let found = last_found before begins start is in
    last_at place begins start after found.passes (λ k later below. found.last k later (omega (arith, below, most)))

unstored : (before start place : ℕ) (begins stores : ℕ → Bool) → last_below before begins ≡ Some start → start < place → place ≤ before
    → ((k : ℕ) → start < k → k < place → stores k ≡ false) → stored_before begins stores place ≡ None
unstored before start place begins stores is after most none =
    sym (from_start place start (last_below place begins) stores (sym (same_start before start place begins is after most))) ∙ none_after place start stores none

-- nothing between was stored, where no store stands before a place
none_stored : (before start place : ℕ) (begins stores : ℕ → Bool) → last_below before begins ≡ Some start → start < place → place ≤ before
    → stored_before begins stores place ≡ None → (k : ℕ) → start < k → k < place → stores k ≡ false
none_stored before start place begins stores is after most none k later below =
    sym (ap (λ (o : Option ℕ). is_after o k && stores k) (same_start before start place begins is after most) ∙ ap (λ b. b && stores k) (lt-ltb start k later))
    ∙ none_last place (λ j. is_after (last_below place begins) j && stores j) none k below

pub all_so : (a b c : Bool) → a ≡ true → b ≡ true → c ≡ true → ((a && b) && c) ≡ true
all_so a b c x y z = rw (x, y, z) refl

none_of : (o : Option ℕ) (P : Type 0) → (o ≡ None → P) → (is_none o ≡ false → P) → P
none_of None P one other = one refl
none_of (Some k) P one other = other refl

pub no_first : (a b c : Bool) → a ≡ false → ((a && b) && c) ≡ false
no_first a b c is = rw is refl

no_second : (a b c : Bool) → b ≡ false → ((a && b) && c) ≡ false
no_second true b c is = ap (λ x. x && c) is
no_second false b c is = refl

first_of : (a b : Bool) → (a || b) ≡ true → b ≡ false → a ≡ true
first_of true b is other = refl
first_of false b is other = absurd (both_ways b other is)

-- no load after the start
pub not_after : (before start load : ℕ) (begins loads stores : ℕ → Bool) → last_below before begins ≡ Some start → load ≤ start
    → is_place (first_below before (reads begins loads stores before)) load ≡ false
not_after before start load begins loads stores is most = unread_at before (reads begins loads stores before) load
    (no_first (is_after (last_below before begins) load) (loads load) (is_none (stored_before begins stores load)) (ap (λ (o : Option ℕ). is_after o load) is ∙ le-ltb start load most))

pub no_load : (before load : ℕ) (begins loads stores : ℕ → Bool) → loads load ≡ false → is_place (first_below before (reads begins loads stores before)) load ≡ false
no_load before load begins loads stores fails = unread_at before (reads begins loads stores before) load
    (no_second (is_after (last_below before begins) load) (loads load) (is_none (stored_before begins stores load)) fails)
