-- The first store to a byte that the victim has read, and what it says of false sharing.
use Rattle.std.proofs.Common.{◌≡◌, ℕ, ◌+◌, ◌<◌, ◌≤◌, ◌==◌, ◌&&◌, ◌||◌, Bool, true, false, is_some, nat_lt, List, length, slice_get, slice_index, Option, Some, None, min, option_and_then, if◌then◌else◌, refl, sym, ap, subst, ◌∙◌, inl, inr, arith, lt-ltb, ltb-true, ltb-false}
use Rattle.std.proofs.lemmas.Bool.{cases_eq, false_from_ne_true, and_from, and_parts, or_right}
use Rattle.memory_bytes.specs.Shadow.{IsAmong}
use Rattle.rv32_image.proofs.SmallFacts.{value_of}
use Rattle.spec_history.specs.declared.entry.Entry.{Entry}
use Rattle.spec_history.specs.declared.entry.What.{What}
use Rattle.spec_history.specs.declared.entry.What.TheVariants.{Start, Load, Store, Hurt, Cancel, Restart, Publish, Commit, Fault}
use Rattle.spec_history.specs.Conflict.{entry_is, passes}
use Rattle.spec_history.specs.Searches.{IsNext, first_below}
use Rattle.spec_history.proofs.OneEntry.Legal.{some_below}
use Rattle.spec_history.proofs.Searches.Tests.{first_at, first_none, one_passes}
use Rattle.conflicts.specs.Attempts.{core_does, covers, is_begin, stores_byte}
use Rattle.conflicts.specs.Later.{came_true_at, ends_or_stores, stores_one, stores_to}
use Rattle.conflicts.proofs.Blaming.{either_way}

-- ---- stores to one of some bytes

abbrev Stored : List Entry → ℕ → ℕ → ℕ → Bool
Stored entries core addr j = core_does entries core j (stores_byte addr)

abbrev Sign : ℕ → List Entry → ℕ → (ℕ → Bool) → ℕ → Bool
Sign size entries core read j = entry_is entries j (stores_to size core read)

-- a store to a byte of memory that was read
what_stores : (size addr : ℕ) (read : ℕ → Bool) (what : What) → addr < size → read addr ≡ true → stores_byte addr what ≡ true → stores_one size read what ≡ true
what_stores size addr read (Store a w v) small is does = one_passes size (λ b. covers a w b && read b) addr small (rw (does, is) refl)
what_stores size addr read (Start e) small is does = absurd cc
what_stores size addr read (Load a w v) small is does = absurd cc
what_stores size addr read (Hurt e) small is does = absurd cc
what_stores size addr read (Cancel e) small is does = absurd cc
what_stores size addr read Restart small is does = absurd cc
what_stores size addr read Publish small is does = absurd cc
what_stores size addr read Commit small is does = absurd cc
what_stores size addr read (Fault a b) small is does = absurd cc

entry_stores : (size core addr : ℕ) (read : ℕ → Bool) (o : Option Entry) → addr < size → read addr ≡ true
    → passes o (λ entry. (entry.by == core) && stores_byte addr entry.what) ≡ true → passes o (stores_to size core read) ≡ true
entry_stores size core addr read None small is does = does
entry_stores size core addr read (Some e) small is does =
    let both = and_parts (e.by == core) (stores_byte addr e.what) does in
    and_from (e.by == core) (stores_one size read e.what) both.0 (what_stores size addr read e.what small is both.1)

pub is_sign : (size : ℕ) (entries : List Entry) (core addr : ℕ) (read : ℕ → Bool) (j : ℕ) → addr < size → read addr ≡ true → Stored entries core addr j ≡ true → Sign size entries core read j ≡ true
is_sign size entries core addr read j small is does = entry_stores size core addr read (slice_get entries j) small is does

record Hits (size : ℕ) (read : ℕ → Bool) (stores : ℕ → Bool) : Type 0 where
  addr : ℕ
  small : addr < size
  was : read addr ≡ true
  does : stores addr ≡ true

what_hits : (size : ℕ) (read : ℕ → Bool) (what : What) → stores_one size read what ≡ true → Hits size read (λ a. stores_byte a what)
what_hits size read (Store a w v) is =
    let at = some_below size (λ b. covers a w b && read b) is in
    let both = and_parts (covers a w at.0) (read at.0) at.2 in record { addr = at.0; small = at.1; was = both.1; does = both.0 }
what_hits size read (Start e) is = absurd cc
what_hits size read (Load a w v) is = absurd cc
what_hits size read (Hurt e) is = absurd cc
what_hits size read (Cancel e) is = absurd cc
what_hits size read Restart is = absurd cc
what_hits size read Publish is = absurd cc
what_hits size read Commit is = absurd cc
what_hits size read (Fault a b) is = absurd cc

entry_hits : (size core : ℕ) (read : ℕ → Bool) (o : Option Entry) → passes o (stores_to size core read) ≡ true
    → Hits size read (λ a. passes o (λ entry. (entry.by == core) && stores_byte a entry.what))
entry_hits size core read None is = absurd cc
entry_hits size core read (Some e) is =
    let both = and_parts (e.by == core) (stores_one size read e.what) is in
    let at = what_hits size read e.what both.1 in record { addr = at.addr; small = at.small; was = at.was; does = and_from (e.by == core) (stores_byte at.addr e.what) both.0 at.does }

-- ---- the first of them, among some addresses

pub record IsSoonest (size : ℕ) (entries : List Entry) (core : ℕ) (read : ℕ → Bool) (addresses : List ℕ) (after end count first : ℕ) : Type 0 where
  pub most : first ≤ end
  pub passes : first < end → (after + 1 ≤ first) × (Sign size entries core read first ≡ true)
  pub tried : (k : ℕ) → k < count → read (slice_index addresses k) ≡ true → (j : ℕ) → after + 1 ≤ j → j < first → Stored entries core (slice_index addresses k) j ≡ false

pub none_sooner : (size : ℕ) (entries : List Entry) (core : ℕ) (read : ℕ → Bool) (addresses : List ℕ) (after end : ℕ) → IsSoonest size entries core read addresses after end 0 end
none_sooner size entries core read addresses after end = record {
  most = omega arith;
  passes = λ below. absurd (omega (arith, below));
  tried = λ k below. absurd (omega (arith, below));
}

pub unread_next : (size : ℕ) (entries : List Entry) (core : ℕ) (read : ℕ → Bool) (addresses : List ℕ) (after end count first : ℕ) → read (slice_index addresses count) ≡ false
    → IsSoonest size entries core read addresses after end count first → IsSoonest size entries core read addresses after end (count + 1) first
unread_next size entries core read addresses after end count first fails was = record {
  most = was.most;
  passes = was.passes;
  tried = λ k below is j from before. elim (cases_eq k count) [
    | inl e ↦ let so : read (slice_index addresses count) ≡ true = ap (λ n. read (slice_index addresses n)) (sym e) ∙ is in absurd cc
    | inr other ↦ was.tried k (omega (arith, below, other)) is j from before
  ];
}

pub sooner : (size : ℕ) (entries : List Entry) (core : ℕ) (read : ℕ → Bool) (addresses : List ℕ) (after end count first next : ℕ) → read (slice_index addresses count) ≡ true
    → slice_index addresses count < size → IsNext (Stored entries core (slice_index addresses count)) (after + 1) end next
    → IsSoonest size entries core read addresses after end count first → IsSoonest size entries core read addresses after end (count + 1) (min first next)
sooner size entries core read addresses after end count first next is small found was = record {
  most = omega (arith, was.most);
  passes = λ below. either_way (nat_lt first next) ((after + 1 ≤ min first next) × (Sign size entries core read (min first next) ≡ true))
      (λ less. let same : first ≡ min first next = omega (arith, ltb-true first next less) in
      subst (λ n. (after + 1 ≤ n) × (Sign size entries core read n ≡ true)) same (was.passes (omega (arith, below, same))))
      (λ more. let same : next ≡ min first next = omega (arith, ltb-false first next more) in
      let there = found.passes (omega (arith, below, same)) in
      subst (λ n. (after + 1 ≤ n) × (Sign size entries core read n ≡ true)) same
      (there.0, is_sign size entries core (slice_index addresses count) read next small is there.1));
  tried = λ k below so j from before. elim (cases_eq k count) [
    | inl e ↦ ap (λ n. Stored entries core (slice_index addresses n) j) e ∙ found.first j from (omega (arith, before))
    | inr other ↦ was.tried k (omega (arith, below, other)) so j from (omega (arith, before))
  ];
}

pub soonest : (size : ℕ) (entries : List Entry) (core : ℕ) (read : ℕ → Bool) (addresses : List ℕ) (after end count first : ℕ) → length addresses ≤ count
    → ((a : ℕ) → read a ≡ true → IsAmong a addresses) → IsSoonest size entries core read addresses after end count first
    → IsNext (Sign size entries core read) (after + 1) end first
soonest size entries core read addresses after end count first all listed was = record {
  most = was.most;
  passes = was.passes;
  first = λ j from before. false_from_ne_true (Sign size entries core read j) (λ is.
      let at = entry_hits size core read (slice_get entries j) is in
      let among = listed at.addr at.was in
      let fails = was.tried among.place (omega (arith, among.within, all)) (ap read among.is ∙ at.was) j from before in
      let so : Stored entries core (slice_index addresses among.place) j ≡ true = ap (λ a. Stored entries core a j) among.is ∙ at.does in
      absurd cc);
}

pub listed_by : (bytes : ℕ → Option ℕ) (addresses : List ℕ) → ((a byte : ℕ) → bytes a ≡ Some byte → IsAmong a addresses)
    → (a : ℕ) → is_some (bytes a) ≡ true → IsAmong a addresses
listed_by bytes addresses each a is = let byte = value_of (bytes a) is in each a byte.0 byte.1

pub still_next : (test : ℕ → Bool) (from after count end : ℕ) → from ≤ after → after < end → IsNext test (from + 1) count end → IsNext test (after + 1) count end
still_next test from after count end past room next = record {
  most = next.most;
  passes = λ below. (omega (arith, room), (next.passes below).1);
  first = λ k beyond before. next.first k (omega (arith, past, beyond)) before;
}

-- ---- the first sign: another attempt, or such a store

either : (b a c : Bool) → (a && c) ≡ true → (a && (b || c)) ≡ true
either b true true is = or_right b true refl
either b true false is = absurd cc
either b false c is = absurd cc

neither : (a b c : Bool) → (a && b) ≡ false → (a && c) ≡ false → (a && (b || c)) ≡ false
neither true true c x y = absurd cc
neither true false c x y = y
neither false b c x y = refl

begun : (a b c : Bool) → (a && b) ≡ true → (a && (b || c)) ≡ true
begun true true c is = refl
begun true false c is = absurd cc
begun false b c is = absurd cc

entry_signs : (size core : ℕ) (read : ℕ → Bool) (o : Option Entry) → passes o (stores_to size core read) ≡ true → passes o (ends_or_stores size core read) ≡ true
entry_signs size core read None is = is
entry_signs size core read (Some e) is = either (is_begin e.what) (e.by == core) (stores_one size read e.what) is

entry_begins : (size core : ℕ) (read : ℕ → Bool) (o : Option Entry) → passes o (λ entry. (entry.by == core) && is_begin entry.what) ≡ true → passes o (ends_or_stores size core read) ≡ true
entry_begins size core read None is = is
entry_begins size core read (Some e) is = begun (e.by == core) (is_begin e.what) (stores_one size read e.what) is

entry_neither : (size core : ℕ) (read : ℕ → Bool) (o : Option Entry) → passes o (λ entry. (entry.by == core) && is_begin entry.what) ≡ false
    → passes o (stores_to size core read) ≡ false → passes o (ends_or_stores size core read) ≡ false
entry_neither size core read None begins stores = refl
entry_neither size core read (Some e) begins stores = neither (e.by == core) (is_begin e.what) (stores_one size read e.what) begins stores

-- a store of it
entry_one : (size core : ℕ) (read : ℕ → Bool) (o : Option Entry) → passes o (stores_to size core read) ≡ true → passes o (λ entry. stores_one size read entry.what) ≡ true
entry_one size core read None is = is
entry_one size core read (Some e) is = (and_parts (e.by == core) (stores_one size read e.what) is).1

-- what begins an attempt stores nothing
what_none : (size : ℕ) (read : ℕ → Bool) (what : What) → is_begin what ≡ true → stores_one size read what ≡ false
what_none size read (Start e) is = refl
what_none size read Restart is = refl
what_none size read (Store a w v) is = absurd cc
what_none size read (Load a w v) is = absurd cc
what_none size read (Hurt e) is = absurd cc
what_none size read (Cancel e) is = absurd cc
what_none size read Publish is = absurd cc
what_none size read Commit is = absurd cc
what_none size read (Fault a b) is = absurd cc

entry_none : (size core : ℕ) (read : ℕ → Bool) (o : Option Entry) → passes o (λ entry. (entry.by == core) && is_begin entry.what) ≡ true → passes o (λ entry. stores_one size read entry.what) ≡ false
entry_none size core read None is = refl
entry_none size core read (Some e) is = what_none size read e.what (and_parts (e.by == core) (is_begin e.what) is).1

abbrev First : ℕ → List Entry → ℕ → ℕ → (ℕ → Bool) → ℕ → Bool
First size entries cause core read j = nat_lt cause j && entry_is entries j (ends_or_stores size core read)

after_it : (cause j : ℕ) (b : Bool) → cause < j → b ≡ true → (nat_lt cause j && b) ≡ true
after_it cause j b past is = rw (lt-ltb cause j past) is

quiet : (size : ℕ) (entries : List Entry) (core cause end first : ℕ) (read : ℕ → Bool) → first ≤ end → IsNext (λ j. core_does entries core j is_begin) (cause + 1) (length entries) end
    → IsNext (Sign size entries core read) (cause + 1) end first → (j : ℕ) → j < first → First size entries cause core read j ≡ false
quiet size entries core cause end first read most begins signs j before = either_way (nat_lt cause j) (First size entries cause core read j ≡ false)
    (λ past. let after : cause < j = ltb-true cause j past in
    ap (λ b. b && entry_is entries j (ends_or_stores size core read)) past
    ∙ entry_neither size core read (slice_get entries j) (begins.first j (omega (arith, after)) (omega (arith, before, most))) (signs.first j (omega (arith, after)) before))
    (λ early. ap (λ b. b && entry_is entries j (ends_or_stores size core read)) early)

chosen : (entries : List Entry) (size : ℕ) (read : ℕ → Bool) (o : Option ℕ) (j : ℕ) (b : Bool) → o ≡ Some j → entry_is entries j (λ entry. stores_one size read entry.what) ≡ b
    → option_and_then (λ k. if entry_is entries k (λ entry. stores_one size read entry.what) then Some k else None) o ≡ (if b then Some j else None)
chosen entries size read o j b is does = rw (is, does) refl

pub came : (size : ℕ) (entries : List Entry) (core cause end first : ℕ) (read : ℕ → Bool) → first < end → IsNext (λ j. core_does entries core j is_begin) (cause + 1) (length entries) end
    → IsNext (Sign size entries core read) (cause + 1) end first → Some first ≡ came_true_at size entries cause core read
came size entries core cause end first read before begins signs =
    let there = signs.passes before in
    sym (chosen entries size read (first_below (length entries) (First size entries cause core read)) first true
    (first_at (length entries) (First size entries cause core read) first (omega (arith, before, begins.most))
    (after_it cause first _ (omega (arith, there.0)) (entry_signs size core read (slice_get entries first) there.1))
    (quiet size entries core cause end first read (omega (arith, before)) begins signs))
    (entry_one size core read (slice_get entries first) there.1))

pub never_came : (size : ℕ) (entries : List Entry) (core cause end first : ℕ) (read : ℕ → Bool) → end ≤ first → IsNext (λ j. core_does entries core j is_begin) (cause + 1) (length entries) end
    → IsNext (Sign size entries core read) (cause + 1) end first → None ≡ came_true_at size entries cause core read
never_came size entries core cause end first read all begins signs =
    let same : first ≡ end = omega (arith, all, signs.most) in
    let silent = quiet size entries core cause end first read (omega (arith, same)) begins signs in
    either_way (nat_lt end (length entries)) (None ≡ came_true_at size entries cause core read)
    (λ less. let there = begins.passes (ltb-true end (length entries) less) in
    sym (chosen entries size read (first_below (length entries) (First size entries cause core read)) end false
    (first_at (length entries) (First size entries cause core read) end (ltb-true end (length entries) less)
    (after_it cause end _ (omega (arith, there.0)) (entry_begins size core read (slice_get entries end) there.1))
    (λ j before. silent j (omega (arith, before, same))))
    (entry_none size core read (slice_get entries end) there.1)))
    (λ last. sym (ap (option_and_then (λ k. if entry_is entries k (λ entry. stores_one size read entry.what) then Some k else None))
    (first_none (length entries) (First size entries cause core read) (λ j before. silent j (omega (arith, before, same, ltb-false end (length entries) last))))))
