-- What is noted of an attempt, one place after the other.
use Rattle.std.proofs.Common.{◌≡◌, ℕ, suc, ◌+◌, ◌<◌, ◌≤◌, ◌&&◌, Bool, true, false, is_none, is_some, nat_le, nat_lt, List, [], Option, Some, None, if◌then◌else◌, refl, sym, ap, subst, ◌∙◌, inl, inr, arith, add-one, le-leb, le-ltb, lt-ltb, leb-true, ltb-true, ltb-false}
use Rattle.std.specs.BTreeMap.{BTreeMap, IsUnchanged, Updates, get, is_at}
use Rattle.std.specs.Map.{lookup}
use Rattle.std.specs.Option.{option_or}
use Rattle.std.specs.Ordering.{nat_cmp}
use Rattle.std.proofs.lemmas.Bool.{cases_eq, and_right}
use Rattle.memory_bytes.proofs.SmallFacts.{none_is}
use Rattle.spec_history.specs.declared.entry.Entry.{Entry}
use Rattle.spec_history.specs.Searches.{first_below, last_below}
use Rattle.spec_history.proofs.Searches.Tests.{first_none}
use Rattle.conflicts.specs.Attempts.{attempt_place, core_does, first_read, is_after, is_begin, last_store, loads_byte, reads_outside, stores_byte}
use Rattle.conflicts.specs.Behind.{AreBehind, IsBehind, is_within, kept_first, kept_last}
use Rattle.conflicts.specs.declared.behind.Accesses.{Accesses}
use Rattle.conflicts.specs.declared.behind.Behind.{Behind}
use Rattle.conflicts.proofs.Backwards.{last_none}
use Rattle.conflicts.proofs.Blaming.{either_way}
use Rattle.conflicts.proofs.Finding.{last_found, no_first}
use Rattle.conflicts.proofs.Storing.{apart_by}

-- ---- the bytes of one access

not_yet : (first addr : ℕ) → is_within first addr addr ≡ false
not_yet first addr = and_right (nat_le first addr) _ (le-ltb addr addr (omega arith))

now_it : (first addr : ℕ) → first ≤ addr → is_within first (addr + 1) addr ≡ true
now_it first addr from = rw (le-leb first addr from, lt-ltb addr (addr + 1) (omega arith)) refl

still : (first addr a : ℕ) → (a ≡ addr → ⊥) → is_within first (addr + 1) a ≡ is_within first addr a
still first addr a apart = ap (λ b. nat_le first a && b) (either_way (nat_lt a addr) (nat_lt a (addr + 1) ≡ nat_lt a addr)
    (λ is. lt-ltb a (addr + 1) (omega (arith, ltb-true a addr is)) ∙ sym is)
    (λ isnt. le-ltb a (addr + 1) (elim (cases_eq a addr) [
      | inl e ↦ absurd (apart e)
      | inr other ↦ omega (arith, other, ltb-false a addr isnt)
    ]) ∙ sym isnt))

-- one byte more was stored
pub store_more : (first addr place : ℕ) (old before new : ℕ → Option ℕ) → first ≤ addr → ((a : ℕ) → before a ≡ kept_last (is_within first addr a) (old a) place)
    → new addr ≡ Some place → ((a : ℕ) → (addr ≡ a → ⊥) → new a ≡ before a) → (a : ℕ) → new a ≡ kept_last (is_within first (addr + 1) a) (old a) place
store_more first addr place old before new from was here others a = elim (cases_eq addr a) [
  | inl e ↦ ap new (sym e) ∙ (here ∙ sym (ap (λ b. kept_last b (old a) place) (ap (is_within first (addr + 1)) (sym e) ∙ now_it first addr from)))
  | inr other ↦ others a (λ e. omega (arith, e, other)) ∙ (was a ∙ sym (ap (λ b. kept_last b (old a) place) (still first addr a (λ e. omega (arith, e, other)))))
]

abbrev Noted : ℕ → ℕ → ℕ → (ℕ → Option ℕ) → (ℕ → Option ℕ) → (ℕ → Option ℕ) → ℕ → Type 0
Noted first end place stored old now a = now a ≡ kept_first (is_within first end a && is_none (stored a)) (old a) place

-- the others stay
noted_still : (first addr place : ℕ) (stored old before : ℕ → Option ℕ) (a : ℕ) → (a ≡ addr → ⊥) → Noted first addr place stored old before a → Noted first (addr + 1) place stored old before a
noted_still first addr place stored old before a apart was = was ∙ sym (ap (λ b. kept_first (b && is_none (stored a)) (old a) place) (still first addr a apart))

was_old : (first addr place : ℕ) (stored old before : ℕ → Option ℕ) → Noted first addr place stored old before addr → before addr ≡ old addr
was_old first addr place stored old before was = was ∙ ap (λ b. kept_first (b && is_none (stored addr)) (old addr) place) (not_yet first addr)

-- one byte more was read
pub read_more : (first addr place : ℕ) (stored old before new : ℕ → Option ℕ) → first ≤ addr → ((a : ℕ) → Noted first addr place stored old before a)
    → is_none (stored addr) ≡ true → is_none (before addr) ≡ true → new addr ≡ Some place → ((a : ℕ) → (addr ≡ a → ⊥) → new a ≡ before a)
    → (a : ℕ) → Noted first (addr + 1) place stored old new a
read_more first addr place stored old before new from was unstored unread here others a = elim (cases_eq addr a) [
  | inl e ↦
      let none : old addr ≡ None = sym (was_old first addr place stored old before (was addr)) ∙ none_is (before addr) unread in
      let so : new addr ≡ kept_first (is_within first (addr + 1) addr && is_none (stored addr)) (old addr) place = rw (here, now_it first addr from, unstored, none) refl in
      subst (Noted first (addr + 1) place stored old new) e so
  | inr other ↦ others a (λ e. omega (arith, e, other)) ∙ noted_still first addr place stored old before a (λ e. omega (arith, e, other)) (was a)
]

known_by : (stored old : Option ℕ) (place : ℕ) → (is_none stored && is_none old) ≡ false → old ≡ kept_first (is_none stored) old place
known_by None None place is = absurd cc
known_by None (Some k) place is = refl
known_by (Some k) old place is = refl

-- or was known
pub read_else : (first addr place : ℕ) (stored old before : ℕ → Option ℕ) → first ≤ addr → ((a : ℕ) → Noted first addr place stored old before a)
    → (is_none (stored addr) && is_none (before addr)) ≡ false → (a : ℕ) → Noted first (addr + 1) place stored old before a
read_else first addr place stored old before from was known a = elim (cases_eq addr a) [
  | inl e ↦
      let same = was_old first addr place stored old before (was addr) in
      let is : old addr ≡ kept_first (is_none (stored addr)) (old addr) place = known_by (stored addr) (old addr) place (ap (λ (o : Option ℕ). is_none (stored addr) && is_none o) (sym same) ∙ known) in
      let so : before addr ≡ kept_first (is_within first (addr + 1) addr && is_none (stored addr)) (old addr) place =
      same ∙ (is ∙ sym (ap (λ b. kept_first (b && is_none (stored addr)) (old addr) place) (now_it first addr from))) in
      subst (Noted first (addr + 1) place stored old before) e so
  | inr other ↦ noted_still first addr place stored old before a (λ e. omega (arith, e, other)) (was a)
]

-- no byte stands within nothing
outside : (first end a : ℕ) → end ≤ first → is_within first end a ≡ false
outside first end a most = either_way (nat_le first a) (is_within first end a ≡ false)
    (λ is. and_right (nat_le first a) _ (le-ltb a end (omega (arith, most, leb-true first a is))))
    (λ isnt. ap (λ b. b && nat_lt a end) isnt)

pub none_read : (first end place : ℕ) (stored old : ℕ → Option ℕ) (a : ℕ) → end ≤ first → Noted first end place stored old old a
none_read first end place stored old a most = sym (ap (λ b. kept_first (b && is_none (stored a)) (old a) place) (outside first end a most))

pub none_stored : (first end place : ℕ) (old : ℕ → Option ℕ) (a : ℕ) → end ≤ first → old a ≡ kept_last (is_within first end a) (old a) place
none_stored first end place old a most = sym (ap (λ b. kept_last b (old a) place) (outside first end a most))

both_so : (a b : Bool) → (a && b) ≡ true → (P : Type 0) → (a ≡ true → b ≡ true → P) → P
both_so true true is P so = so refl refl
both_so true false is P so = absurd cc
both_so false b is P so = absurd cc

-- those within are those that the core accesses
pub same_bytes : (first end a : ℕ) (does : Bool) → (first ≤ a → a < end → does ≡ true) → (does ≡ true → (first ≤ a) × (a < end)) → is_within first end a ≡ does
same_bytes first end a true only each = let in_it = each refl in rw (le-leb first a in_it.0, lt-ltb a end in_it.1) refl
same_bytes first end a false only each = either_way (is_within first end a) (is_within first end a ≡ false)
    (λ is. both_so (nat_le first a) (nat_lt a end) is (is_within first end a ≡ false) (λ one other. let clash : false ≡ true = only (leb-true first a one) (ltb-true a end other) in absurd cc))
    (λ isnt. isnt)

-- ---- one place further

abbrev Begins : List Entry → ℕ → ℕ → Bool
Begins entries core place = core_does entries core place is_begin

last_so : (n : ℕ) (test : ℕ → Bool) → test n ≡ true → last_below (suc n) test ≡ Some n
unfolding last_below
last_so n test is = rw is refl

last_else : (n : ℕ) (test : ℕ → Bool) (b : Bool) → test n ≡ b → last_below (suc n) test ≡ kept_last b (last_below n test) n
unfolding last_below
last_else n test true is = rw is refl
last_else n test false is = rw is refl

first_by : (o : Option ℕ) (b : Bool) (n : ℕ) → option_or o (if b then Some n else None) ≡ kept_first b o n
first_by None true n = refl
first_by None false n = refl
first_by (Some k) true n = refl
first_by (Some k) false n = refl

first_more : (n : ℕ) (test : ℕ → Bool) → first_below (suc n) test ≡ kept_first (test n) (first_below n test) n
unfolding first_below
first_more n test = first_by (first_below n test) (test n) n

-- where an attempt begins
begun_here : (entries : List Entry) (core place : ℕ) → Begins entries core place ≡ true → attempt_place entries core (place + 1) ≡ Some place
begun_here entries core place is = ap (λ k. last_below k (Begins entries core)) (add-one place) ∙ last_so place (Begins entries core) is

pub begun_so : (entries : List Entry) (core place : ℕ) → Begins entries core place ≡ true → true ≡ is_some (attempt_place entries core (place + 1))
begun_so entries core place is = sym (ap is_some (begun_here entries core place is))

not_after : (attempt : Option ℕ) (start k : ℕ) → attempt ≡ Some start → k < start + 1 → is_after attempt k ≡ false
not_after attempt start k is below = ap (λ (o : Option ℕ). is_after o k) is ∙ le-ltb start k (omega (arith, below))

pub unread_here : (entries : List Entry) (core place a : ℕ) → Begins entries core place ≡ true → first_read entries core (place + 1) a ≡ None
unread_here entries core place a is = first_none (place + 1) (reads_outside entries core (place + 1) a) (λ k below.
    no_first (is_after (attempt_place entries core (place + 1)) k) (core_does entries core k (loads_byte a)) (is_none (last_store entries core k a))
    (not_after (attempt_place entries core (place + 1)) place k (begun_here entries core place is) below))

pub unstored_here : (entries : List Entry) (core place a : ℕ) → Begins entries core place ≡ true → last_store entries core (place + 1) a ≡ None
unstored_here entries core place a is = last_none (place + 1) (λ k. is_after (attempt_place entries core (place + 1)) k && core_does entries core k (stores_byte a)) (λ k below.
    ap (λ b. b && core_does entries core k (stores_byte a)) (not_after (attempt_place entries core (place + 1)) place k (begun_here entries core place is) below))

-- where none does
pub same_attempt : (entries : List Entry) (core place : ℕ) → Begins entries core place ≡ false → attempt_place entries core (place + 1) ≡ attempt_place entries core place
same_attempt entries core place isnt = ap (λ k. last_below k (Begins entries core)) (add-one place) ∙ last_else place (Begins entries core) false isnt

after_it : (entries : List Entry) (core place : ℕ) (attempt : Option ℕ) → attempt_place entries core place ≡ attempt → is_after attempt place ≡ is_some attempt
after_it entries core place None is = refl
after_it entries core place (Some start) is = lt-ltb start place (last_found place (Begins entries core) start is).within

pub read_next : (entries : List Entry) (core place a : ℕ) → Begins entries core place ≡ false
    → first_read entries core (place + 1) a
    ≡ kept_first ((is_some (attempt_place entries core place) && core_does entries core place (loads_byte a)) && is_none (last_store entries core place a)) (first_read entries core place a) place
read_next entries core place a isnt =
    let test : Option ℕ → ℕ → Bool = λ o k. (is_after o k && core_does entries core k (loads_byte a)) && is_none (last_store entries core k a) in
    let attempt = attempt_place entries core place in
    ap (λ (o : Option ℕ). first_below (place + 1) (test o)) (same_attempt entries core place isnt)
    ∙ (ap (λ k. first_below k (test attempt)) (add-one place)
    ∙ (first_more place (test attempt)
    ∙ ap (λ b. kept_first ((b && core_does entries core place (loads_byte a)) && is_none (last_store entries core place a)) (first_read entries core place a) place) (after_it entries core place attempt refl)))

pub store_next : (entries : List Entry) (core place a : ℕ) → Begins entries core place ≡ false
    → last_store entries core (place + 1) a
    ≡ kept_last (is_some (attempt_place entries core place) && core_does entries core place (stores_byte a)) (last_store entries core place a) place
store_next entries core place a isnt =
    let test : Option ℕ → ℕ → Bool = λ o k. is_after o k && core_does entries core k (stores_byte a) in
    let attempt = attempt_place entries core place in
    ap (λ (o : Option ℕ). last_below (place + 1) (test o)) (same_attempt entries core place isnt)
    ∙ (ap (λ k. last_below k (test attempt)) (add-one place)
    ∙ last_else place (test attempt) (is_some attempt && core_does entries core place (stores_byte a)) (ap (λ b. b && core_does entries core place (stores_byte a)) (after_it entries core place attempt refl)))

-- ---- a loop over the bytes of an access

-- its end is that of the bytes, or there are none
pub ended : (first end last a : ℕ) → (first ≤ end → last ≤ end) → end ≤ last → (end < first → last ≤ first) → is_within first last a ≡ is_within first end a
ended first end last a within past early = either_way (nat_lt end first) (is_within first last a ≡ is_within first end a)
    (λ none. let less = ltb-true end first none in outside first last a (early less) ∙ sym (outside first end a (omega (arith, less))))
    (λ some. ap (λ n. is_within first n a) (omega (arith, past, within (ltb-false end first some))))

-- ---- what is kept of a core

-- right after the beginning
pub known_here : (size : ℕ) (entries : List Entry) (core place : ℕ) (reads stores : BTreeMap ℕ ℕ) → Begins entries core place ≡ true → reads.entries ≡ [] → stores.entries ≡ []
    → AreBehind size entries core (record { place = place + 1; begun = true; reads = reads; stores = stores })
known_here size entries core place reads stores is none_read none_stored = record {
  begun_is = begun_so entries core place is;
  reads_are = λ a below. ap (lookup (is_at (nat_cmp a))) none_read ∙ sym (unread_here entries core place a is);
  stores_are = λ a below. ap (lookup (is_at (nat_cmp a))) none_stored ∙ sym (unstored_here entries core place a is);
}

-- before the history
pub known_first : (size : ℕ) (entries : List Entry) (core : ℕ) (reads stores : BTreeMap ℕ ℕ) → reads.entries ≡ [] → stores.entries ≡ []
    → AreBehind size entries core (record { place = 0; begun = false; reads = reads; stores = stores })
known_first size entries core reads stores none_read none_stored = record {
  begun_is = sym (ap is_some (last_none 0 (Begins entries core) (λ k below. absurd (omega (arith, below)))));
  reads_are = λ a below. ap (lookup (is_at (nat_cmp a))) none_read ∙ sym (first_none 0 (reads_outside entries core 0 a) (λ k early. absurd (omega (arith, early))));
  stores_are = λ a below. ap (lookup (is_at (nat_cmp a))) none_stored
      ∙ sym (last_none 0 (λ k. is_after (attempt_place entries core 0) k && core_does entries core k (stores_byte a)) (λ k early. absurd (omega (arith, early))));
}

-- one place further within an attempt
pub known_next : (size : ℕ) (entries : List Entry) (core first end low high : ℕ) (x : Accesses) (reads stores : BTreeMap ℕ ℕ) → Begins entries core x.place ≡ false → x.begun ≡ true
    → AreBehind size entries core x
    → ((a : ℕ) → first ≤ a → a < end → core_does entries core x.place (loads_byte a) ≡ true)
    → ((a : ℕ) → core_does entries core x.place (loads_byte a) ≡ true → a < size → (first ≤ a) × (a < end))
    → ((a : ℕ) → low ≤ a → a < high → core_does entries core x.place (stores_byte a) ≡ true)
    → ((a : ℕ) → core_does entries core x.place (stores_byte a) ≡ true → a < size → (low ≤ a) × (a < high))
    → ((a : ℕ) → get nat_cmp reads a ≡ kept_first (is_within first end a && is_none (get nat_cmp x.stores a)) (get nat_cmp x.reads a) x.place)
    → ((a : ℕ) → get nat_cmp stores a ≡ kept_last (is_within low high a) (get nat_cmp x.stores a) x.place)
    → AreBehind size entries core (record { place = x.place + 1; begun = x.begun; reads = reads; stores = stores })
known_next size entries core first end low high x reads stores isnt begun was loads each_load stored each_store read_is store_is =
    let there : is_some (attempt_place entries core x.place) ≡ true = sym was.begun_is ∙ begun in record {
      begun_is = was.begun_is ∙ sym (ap is_some (same_attempt entries core x.place isnt));
      reads_are = λ a below.
          read_is a
          ∙ (ap (λ b. kept_first (b && is_none (get nat_cmp x.stores a)) (get nat_cmp x.reads a) x.place)
          (same_bytes first end a (core_does entries core x.place (loads_byte a)) (loads a) (λ is. each_load a is below))
          ∙ (ap (λ o. kept_first (core_does entries core x.place (loads_byte a) && is_none o) (get nat_cmp x.reads a) x.place) (was.stores_are a below)
          ∙ (ap (λ o. kept_first (core_does entries core x.place (loads_byte a) && is_none (last_store entries core x.place a)) o x.place) (was.reads_are a below)
          ∙ sym (read_next entries core x.place a isnt
          ∙ ap (λ b. kept_first ((b && core_does entries core x.place (loads_byte a)) && is_none (last_store entries core x.place a)) (first_read entries core x.place a) x.place) there))));
      stores_are = λ a below.
          store_is a
          ∙ (ap (λ b. kept_last b (get nat_cmp x.stores a) x.place) (same_bytes low high a (core_does entries core x.place (stores_byte a)) (stored a) (λ is. each_store a is below))
          ∙ (ap (λ o. kept_last (core_does entries core x.place (stores_byte a)) o x.place) (was.stores_are a below)
          ∙ sym (store_next entries core x.place a isnt ∙ ap (λ b. kept_last (b && core_does entries core x.place (stores_byte a)) (last_store entries core x.place a) x.place) there)));
    }

-- and without one
pub known_none : (size : ℕ) (entries : List Entry) (core : ℕ) (x : Accesses) → Begins entries core x.place ≡ false → x.begun ≡ false → AreBehind size entries core x
    → AreBehind size entries core (record { place = x.place + 1; begun = x.begun; reads = x.reads; stores = x.stores })
known_none size entries core x isnt begun was =
    let there : is_some (attempt_place entries core x.place) ≡ false = sym was.begun_is ∙ begun in record {
      begun_is = was.begun_is ∙ sym (ap is_some (same_attempt entries core x.place isnt));
      reads_are = λ a below.
          was.reads_are a below
          ∙ sym (read_next entries core x.place a isnt
          ∙ ap (λ b. kept_first ((b && core_does entries core x.place (loads_byte a)) && is_none (last_store entries core x.place a)) (first_read entries core x.place a) x.place) there);
      stores_are = λ a below.
          was.stores_are a below
          ∙ sym (store_next entries core x.place a isnt ∙ ap (λ b. kept_last (b && core_does entries core x.place (stores_byte a)) (last_store entries core x.place a) x.place) there);
    }

-- what is put there is right
pub put : (size : ℕ) (entries : List Entry) (core : ℕ) (x : Accesses) (old new : BTreeMap ℕ Accesses) → IsBehind size entries (record { found = old }) → AreBehind size entries core x
    → Updates nat_cmp old new core (Some x) → IsBehind size entries (record { found = new })
put size entries core x old new known is updates other kept there = elim (cases_eq core other) [
  | inl e ↦ let same : Some x ≡ Some kept = sym updates.1 ∙ (ap (get nat_cmp new) e ∙ there) in
      let one : x ≡ kept = cc in
      subst (λ n. AreBehind size entries n kept) e (subst (AreBehind size entries core) one is)
  | inr apart ↦ known other kept (sym (updates.2 other (apart_by core other apart)) ∙ there)
]

-- and so is what is left where one was taken out
pub left : (size : ℕ) (entries : List Entry) (core : ℕ) (old new : BTreeMap ℕ Accesses) → IsBehind size entries (record { found = old }) → Updates nat_cmp old new core None
    → IsBehind size entries (record { found = new })
left size entries core old new known updates other kept there = elim (cases_eq core other) [
  | inl e ↦ let clash : None ≡ Some kept = sym updates.1 ∙ (ap (get nat_cmp new) e ∙ there) in absurd cc
  | inr apart ↦ known other kept (sym (updates.2 other (apart_by core other apart)) ∙ there)
]

pub unchanged : (size : ℕ) (entries : List Entry) (old new : BTreeMap ℕ Accesses) → IsBehind size entries (record { found = old }) → IsUnchanged old new → IsBehind size entries (record { found = new })
unchanged size entries old new known same core kept there = known core kept (sym (ap (lookup (is_at (nat_cmp core))) same) ∙ there)

-- what the map has is what is asked
pub at_hand : (size : ℕ) (entries : List Entry) (core before addr : ℕ) (behind : Behind) (x : Accesses) → IsBehind size entries behind → get nat_cmp behind.found core ≡ Some x → x.place ≡ before → addr < size
    → (get nat_cmp x.reads addr ≡ first_read entries core before addr) × (get nat_cmp x.stores addr ≡ last_store entries core before addr)
at_hand size entries core before addr behind x known there same below =
    let is = known core x there in
    (is.reads_are addr below ∙ ap (λ n. first_read entries core n addr) same, is.stores_are addr below ∙ ap (λ n. last_store entries core n addr) same)
