-- The first load that read a byte of a line, by the first of each byte.
use Rattle.std.proofs.Common.{◌≡◌, ℕ, zero, suc, ◌+◌, ◌<◌, ◌≤◌, ◌==◌, ◌&&◌, Bool, true, false, is_some, nat_lt, IfNone, IfSome, List, Option, Some, None, unwrap_or, if◌then◌else◌, refl, sym, ap, subst, ◌∙◌, ◌⊎◌, inl, inr, arith, ltb-true, ltb-false}
use Rattle.std.specs.Option.{option_or}
use Rattle.std.proofs.lemmas.Bool.{and_from, and_parts, both_ways, cases_eq, eqb-true, false_from_ne_true}
use Rattle.rv32_image.specs.Image.{LoadedImage}
use Rattle.rv32_image.proofs.SmallFacts.{one_value, none_and_some}
use Rattle.spec_history.specs.declared.entry.Entry.{Entry}
use Rattle.spec_history.specs.Conflict.{line_number}
use Rattle.spec_history.specs.Searches.{first_below}
use Rattle.spec_history.proofs.Searches.Tests.{first_at, first_none}
use Rattle.conflicts.specs.Attempts.{first_read, reads_outside}
use Rattle.conflicts.proofs.Blaming.{either_way}
use Rattle.conflict_findings.specs.Runs.{byte_in, earlier, load_in, read_in}
use Rattle.conflict_findings.proofs.Beginning.{IsLeast, is_least}

-- ---- the least of so many

pub record IsFirst (reads : ℕ → Option ℕ) (n load x : ℕ) : Type 0 where
  pub below : x < n
  pub read : reads x ≡ Some load
  pub least : (y other : ℕ) → y < n → reads y ≡ Some other → load ≤ other
  pub lowest : (y other : ℕ) → y < x → reads y ≡ Some other → load < other

abbrev pub IsEarliest : (ℕ → Option ℕ) → ℕ → Option (ℕ × ℕ) → Type 0
IsEarliest reads n None = (x : ℕ) → x < n → reads x ≡ None
IsEarliest reads n (Some found) = IsFirst reads n found.0 found.1

none_more : (reads : ℕ → Option ℕ) (n : ℕ) → ((x : ℕ) → x < n → reads x ≡ None) → reads n ≡ None → (x : ℕ) → x < n + 1 → reads x ≡ None
none_more reads n was is x below = elim (cases_eq x n) [
  | inl e ↦ ap reads e ∙ is
  | inr other ↦ was x (omega (arith, below, other))
]

still_first : (reads : ℕ → Option ℕ) (n load x : ℕ) → IsFirst reads n load x → ((other : ℕ) → reads n ≡ Some other → load ≤ other) → IsFirst reads (n + 1) load x
still_first reads n load x was more = record {
  below = omega (arith, was.below);
  read = was.read;
  least = λ y other below is. elim (cases_eq y n) [
    | inl e ↦ more other (ap reads (sym e) ∙ is)
    | inr apart ↦ was.least y other (omega (arith, below, apart)) is
  ];
  lowest = was.lowest;
}

now_first : (reads : ℕ → Option ℕ) (n load : ℕ) → reads n ≡ Some load → ((y other : ℕ) → y < n → reads y ≡ Some other → load < other) → IsFirst reads (n + 1) load n
now_first reads n load is later = record {
  below = omega arith;
  read = is;
  least = λ y other below there. elim (cases_eq y n) [
    | inl e ↦ let one = one_value (reads n) load other is (ap reads (sym e) ∙ there) in omega (arith, one)
    | inr apart ↦ let less = later y other (omega (arith, below, apart)) there in omega (arith, less)
  ];
  lowest = later;
}

-- one more was asked
more_by : (reads : ℕ → Option ℕ) (n : ℕ) (known : Option (ℕ × ℕ)) (read : Option ℕ) → reads n ≡ read → IsEarliest reads n known → IsEarliest reads (n + 1) (earlier known read n)
more_by reads n None None is was = none_more reads n was is
more_by reads n (Some found) None is was = still_first reads n found.0 found.1 was (λ other there. absurd (none_and_some (reads n) other is there))
more_by reads n None (Some load) is was = now_first reads n load is (λ y other below there. absurd (none_and_some (reads y) other (was y below) there))
more_by reads n (Some found) (Some load) is was = either_way (nat_lt load found.0) (IsEarliest reads (n + 1) (if nat_lt load found.0 then Some (load, n) else Some found))
    (λ less. rw less (now_first reads n load is (λ y other below there.
    let most = was.least y other below there in
    let under = ltb-true load found.0 less in omega (arith, most, under))))
    (λ no. rw no (still_first reads n found.0 found.1 was (λ other there.
    let one = one_value (reads n) load other is there in
    let over = ltb-false load found.0 no in omega (arith, one, over))))

pub earliest_more : (reads : ℕ → Option ℕ) (n : ℕ) (known : Option (ℕ × ℕ)) → IsEarliest reads n known → IsEarliest reads (n + 1) (earlier known (reads n) n)
earliest_more reads n known was = more_by reads n known (reads n) refl was

-- the others have none
pub to_end : (reads : ℕ → Option ℕ) (n size : ℕ) (known : Option (ℕ × ℕ)) → n ≤ size → ((a : ℕ) → n ≤ a → a < size → reads a ≡ None) → IsEarliest reads n known → IsEarliest reads size known
to_end reads n size None most rest was = λ x below. either_way (nat_lt x n) (reads x ≡ None) (λ early. was x (ltb-true x n early)) (λ late. rest x (ltb-false x n late) below)
to_end reads n size (Some found) most rest was = record {
  below = omega (arith, was.below, most);
  read = was.read;
  least = λ y other below is. either_way (nat_lt y n) (found.0 ≤ other)
      (λ early. was.least y other (ltb-true y n early) is)
      (λ late. absurd (none_and_some (reads y) other (rest y (ltb-false y n late) below) is));
  lowest = was.lowest;
}

-- ---- what a search finds

by_step : (o : Option ℕ) (b : Bool) (n k : ℕ) (P : Type 0) → option_or o (if b then Some n else None) ≡ Some k → (o ≡ Some k → P) → (b ≡ true → n ≡ k → P) → P
by_step (Some i) b n k P is one other = one is
by_step None true n k P is one other = other refl (ap (λ o. unwrap_or o 0) is)
by_step None false n k P is one other = absurd cc

found_at : (n : ℕ) (test : ℕ → Bool) (k : ℕ) → first_below n test ≡ Some k → (k < n) × (test k ≡ true)
unfolding first_below
found_at zero test k is = absurd cc
found_at (suc n) test k is = by_step (first_below n test) (test n) n k ((k < suc n) × (test k ≡ true)) is
    (λ rest. let at = found_at n test k rest in (omega (arith, at.0), at.1))
    (λ passes e. (omega (arith, e), ap test (sym e) ∙ passes))

-- no later than any that passes
most_by : (n : ℕ) (test : ℕ → Bool) (k : ℕ) (found : Option ℕ) → first_below n test ≡ found → k < n → test k ≡ true → (o : ℕ) × (first_below n test ≡ Some o) × (o ≤ k)
most_by n test k None is below passes =
    let fails : test k ≡ false = subst (IsLeast n test) is (is_least n test) k below in
    absurd (both_ways (test k) fails passes)
most_by n test k (Some o) is below passes = (
  o,
  is,
  either_way (nat_lt k o) (o ≤ k)
      (λ less.
      let fails : test k ≡ false = subst (IsLeast n test) is (is_least n test) k (ltb-true k o less) in
      absurd (both_ways (test k) fails passes))
      (λ no. ltb-false k o no),
)

-- ---- of a line

where_it_lies : (lies : Bool) (read : Option ℕ) (load : ℕ) → (if lies then read else None) ≡ Some load → (lies ≡ true) × (read ≡ Some load)
where_it_lies true read load is = (refl, is)
where_it_lies false read load is = absurd cc

read_there : (lies : Bool) (read : Option ℕ) (load : ℕ) → lies ≡ true → read ≡ Some load → (if lies then read else None) ≡ Some load
read_there lies read load there is = rw there is

-- a byte that is not among the addresses of a line
pub elsewhere : (image : LoadedImage) (entries : List Entry) (core before line a first end : ℕ)
    → ((a : ℕ) → a < image.size → line_number image a ≡ line → (first ≤ a) × (a < end)) → a < image.size → (a < first) ⊎ (end ≤ a)
    → read_in image entries core before line a ≡ None
elsewhere image entries core before line a first end all inside out = either_way (line_number image a == line) (read_in image entries core before line a ≡ None)
    (λ lies.
    let there = all a inside (eqb-true (line_number image a) line lies) in
    absurd (elim out [ inl early ↦ omega (arith, early, there.0) | inr late ↦ omega (arith, late, there.1) ]))
    (λ no. rw no refl)

unread_by : (image : LoadedImage) (entries : List Entry) (core before line j a : ℕ) → ((o : ℕ) → read_in image entries core before line a ≡ Some o → o ≤ j → ⊥) → j < before
    → ((line_number image a == line) && reads_outside entries core before a j) ≡ false
unread_by image entries core before line j a never below = false_from_ne_true ((line_number image a == line) && reads_outside entries core before a j) (λ is.
    let two = and_parts (line_number image a == line) (reads_outside entries core before a j) is in
    let at = most_by before (reads_outside entries core before a) j _ refl below two.1 in
    never at.0 (read_there (line_number image a == line) (first_read entries core before a) at.0 two.0 at.1) at.2)

pub byte_found : (image : LoadedImage) (entries : List Entry) (core before line load a : ℕ) → IsFirst (read_in image entries core before line) image.size load a
    → byte_in image entries core before line load ≡ Some a
byte_found image entries core before line load a found =
    let two = where_it_lies (line_number image a == line) (first_read entries core before a) load found.read in
    let reads = found_at before (reads_outside entries core before a) load two.1 in
    first_at image.size (λ b. (line_number image b == line) && reads_outside entries core before b load) a found.below
    (and_from (line_number image a == line) (reads_outside entries core before a load) two.0 reads.1)
    (λ y before_it. unread_by image entries core before line load y (λ o is most. let less = found.lowest y o before_it is in omega (arith, less, most)) reads.0)

no_byte : (image : LoadedImage) (entries : List Entry) (core before line j : ℕ)
    → ((y : ℕ) → y < image.size → ((line_number image y == line) && reads_outside entries core before y j) ≡ false) → is_some (byte_in image entries core before line j) ≡ false
no_byte image entries core before line j none = ap is_some (first_none image.size (λ a. (line_number image a == line) && reads_outside entries core before a j) none)

pub load_found : (image : LoadedImage) (entries : List Entry) (core before line load a : ℕ) → IsFirst (read_in image entries core before line) image.size load a
    → load_in image entries core before line ≡ Some load
load_found image entries core before line load a found =
    let two = where_it_lies (line_number image a == line) (first_read entries core before a) load found.read in
    let reads = found_at before (reads_outside entries core before a) load two.1 in
    first_at before (λ j. is_some (byte_in image entries core before line j)) load reads.0 (ap is_some (byte_found image entries core before line load a found))
    (λ j early. no_byte image entries core before line j (λ y below. unread_by image entries core before line j y
    (λ o is most. let less = found.least y o below is in omega (arith, less, most, early)) (omega (arith, early, reads.0))))

pub none_found : (image : LoadedImage) (entries : List Entry) (core before line : ℕ)
    → ((a : ℕ) → a < image.size → read_in image entries core before line a ≡ None) → load_in image entries core before line ≡ None
none_found image entries core before line none =
    first_none before (λ j. is_some (byte_in image entries core before line j)) (λ j below. no_byte image entries core before line j (λ y inside.
    unread_by image entries core before line j y (λ o is most. none_and_some (read_in image entries core before line y) o (none y inside) is) below))

-- ---- where all were asked

pub none_so : (image : LoadedImage) (entries : List Entry) (core before line : ℕ) (found : Option (ℕ × ℕ)) → IsEarliest (read_in image entries core before line) image.size found
    → IfNone found (load_in image entries core before line ≡ None)
none_so image entries core before line None was = none_found image entries core before line was
none_so image entries core before line (Some found) was = tt

pub some_so : (image : LoadedImage) (entries : List Entry) (core before line : ℕ) (found : Option (ℕ × ℕ)) → IsEarliest (read_in image entries core before line) image.size found
    → IfSome found (λ f. (load_in image entries core before line ≡ Some f.0) × (byte_in image entries core before line f.0 ≡ Some f.1))
some_so image entries core before line None was = tt
some_so image entries core before line (Some found) was =
    (load_found image entries core before line found.0 found.1 was, byte_found image entries core before line found.0 found.1 was)
