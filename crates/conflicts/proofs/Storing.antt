-- The stores that an attempt has ahead of it: their list as it is made, and the first of them to a byte.
use Rattle.std.proofs.Common.{◌≡◌, ◌⊎◌, ℕ, ◌+◌, ◌<◌, ◌≤◌, ◌==◌, ◌&&◌, Bool, true, false, nat_le, nat_lt, List, [], ◌∷◌, ◌++◌, length, get_or, Option, Some, None, min, unwrap_or, refl, sym, ap, subst, ◌∙◌, inl, inr, arith, eqb-true, eq-eqb, leb-true, ltb-true, ltb-false, leb-false, le-leb, lt-ltb}
use Rattle.std.specs.Cmp.{IsTotalOrder}
use Rattle.std.specs.List.{Contains}
use Rattle.std.specs.List.Sorted.{IsPartitionPoint, IsPartitionedBy, IsPermutation, IsSorted}
use Rattle.std.specs.Ordering.{is_eq, is_lt, nat_cmp, ordering_then}
use Rattle.std.specs.BTreeMap.{BTreeMap, IsUnchanged, Updates, get, is_at}
use Rattle.std.specs.Map.{lookup}
use Rattle.std.proofs.lemmas.Bool.{cases_eq, false_from_ne_true, or_right, and_parts, or_cases}
use Rattle.std.proofs.lemmas.Cmp.{nat_cmp_total, on_total, then_total}
use Rattle.std.proofs.lemmas.List.{get_or_default}
use Rattle.std.proofs.lemmas.Option.{slice_get_cases}
use Rattle.std.proofs.lemmas.List.Elements.{Contains-append_left, Contains-push, Contains-push_cases}
use Rattle.std.proofs.lemmas.List.Sorted.{Contains-permutation, IsPermutation-sym, ranks_by, sorted_far}
use Rattle.memory_bytes.proofs.SmallFacts.{by_numbers}
use Rattle.spec_history.specs.declared.entry.Entry.{Entry}
use Rattle.spec_history.specs.Searches.{IsNext}
use Rattle.conflicts.specs.declared.ahead.Ahead.{Ahead}
use Rattle.conflicts.specs.declared.ahead.Stores.{Stores}
use Rattle.conflicts.specs.Ahead.{AreAhead, AreStored, IsAhead, IsExtended, IsFound, StoresTo, byte_order, is_before, place_in, place_of}
use Rattle.conflicts.specs.Attempts.{core_does, stores_byte}
use Rattle.conflicts.proofs.Blaming.{either_way}

-- ---- the bytes of a place

pub record IsFilled (entries : List Entry) (core place first upto : ℕ) (old new : List (ℕ × ℕ)) : Type 0 where
  pub kept : (x : ℕ × ℕ) → Contains old x → Contains new x
  pub only : (x : ℕ × ℕ) → Contains new x → Contains old x ⊎ ((x.1 ≡ place) × StoresTo entries core x)
  pub each : (a : ℕ) → first ≤ a → a < upto → Contains new (a, place)

pub none_filled : (entries : List Entry) (core place first : ℕ) (xs : List (ℕ × ℕ)) → IsFilled entries core place first first xs xs
none_filled entries core place first xs = record {
  kept = λ x h. h;
  only = λ x h. inl h;
  each = λ a from below. absurd (omega (arith, from, below));
}

by_push : (entries : List Entry) (core addr place : ℕ) (old : List (ℕ × ℕ)) (x : ℕ × ℕ) → StoresTo entries core (addr, place) → (addr, place) ≡ x
    → Contains old x ⊎ ((x.1 ≡ place) × StoresTo entries core x)
by_push entries core addr place old x is same = inr (sym (ap (λ (p : ℕ × ℕ). p.1) same), subst (StoresTo entries core) same is)

pub filled_more : (entries : List Entry) (core place first addr : ℕ) (old xs : List (ℕ × ℕ)) → StoresTo entries core (addr, place)
    → IsFilled entries core place first addr old xs → IsFilled entries core place first (addr + 1) old (xs ++ (addr, place) ∷ [])
filled_more entries core place first addr old xs is was = record {
  kept = λ x h. Contains-append_left xs ((addr, place) ∷ []) x (was.kept x h);
  only = λ x h. elim (Contains-push_cases xs (addr, place) x h) [
    | inl before ↦ was.only x before
    | inr same ↦ by_push entries core addr place old x is same
  ];
  each = λ a from below. elim (cases_eq a addr) [
    | inl e ↦ subst (λ n. Contains (xs ++ (addr, place) ∷ []) (n, place)) (sym e) (Contains-push xs (addr, place))
    | inr other ↦ Contains-append_left xs ((addr, place) ∷ []) (a, place) (was.each a from (omega (arith, below, other)))
  ];
}

pub extended : (size : ℕ) (entries : List Entry) (core place first end upto : ℕ) (old new : List (ℕ × ℕ)) → end ≤ upto
    → ((a : ℕ) → core_does entries core place (stores_byte a) ≡ true → a < size → (first ≤ a) × (a < end))
    → IsFilled entries core place first upto old new → IsExtended size entries core place old new
extended size entries core place first end upto old new most each filled = record {
  kept = filled.kept;
  only = filled.only;
  each = λ a below is. let within = each a is below in filled.each a within.0 (omega (arith, within.1, most));
}

-- ---- the stores of one place more

pub none_stored : (size : ℕ) (entries : List Entry) (core after : ℕ) (xs : List (ℕ × ℕ)) → xs ≡ [] → AreStored size entries core after (after + 1) xs
none_stored size entries core after xs empty = record {
  only = λ x h. absurd (omega (arith, h.1, ap length empty));
  each = λ a place below from before. absurd (omega (arith, from, before));
}

pub stored_more : (size : ℕ) (entries : List Entry) (core after place : ℕ) (old new : List (ℕ × ℕ)) → after < place
    → IsExtended size entries core place old new → AreStored size entries core after place old → AreStored size entries core after (place + 1) new
stored_more size entries core after place old new past grown was = record {
  only = λ x h. elim (grown.only x h) [
    | inl before ↦ let w = was.only x before in (w.0, omega (arith, w.1), w.2)
    | inr here ↦ (omega (arith, past, here.0), omega (arith, here.0), here.1)
  ];
  each = λ a p below from before is. elim (cases_eq p place) [
    | inl e ↦ subst (λ n. Contains new (a, n)) (sym e) (grown.each a below (subst (λ n. StoresTo entries core (a, n)) e is))
    | inr other ↦ grown.kept (a, p) (was.each a p below from (omega (arith, before, other)) is)
  ];
}

pub stored_sorted : (size : ℕ) (entries : List Entry) (core after place end : ℕ) (old new : List (ℕ × ℕ)) → place ≡ end
    → IsPermutation old new → AreStored size entries core after place old → AreStored size entries core after end new
stored_sorted size entries core after place end old new same moved was = record {
  only = λ x h. let w = was.only x (Contains-permutation new old x (IsPermutation-sym old new moved) h) in (w.0, omega (arith, w.1, same), w.2);
  each = λ a p below from before is. Contains-permutation old new (a, p) moved (was.each a p below from (omega (arith, before, same)) is);
}

-- the core begins no attempt right there
pub ends_after : (begins : ℕ → Bool) (after count end : ℕ) → after < count → IsNext begins (after + 1) count end → after < end
ends_after begins after count end within next = either_way (nat_lt end count) (after < end)
    (λ less. omega (arith, (next.passes (ltb-true end count less)).0))
    (λ last. omega (arith, within, ltb-false end count last))

-- ---- the order

total : IsTotalOrder byte_order
total = then_total (on_total (λ (p : ℕ × ℕ). p.0) nat_cmp_total) (on_total (λ (p : ℕ × ℕ). p.1) nat_cmp_total)

-- not after another
abbrev IsUpTo : ℕ × ℕ → ℕ × ℕ → Type 0
IsUpTo x y = (x.0 < y.0) ⊎ ((x.0 ≡ y.0) × (x.1 ≤ y.1))

up_to : (x y : ℕ × ℕ) → is_lt (byte_order y x) ≡ false → IsUpTo x y
up_to x y = by_numbers y.0 x.0 (λ o. is_lt (ordering_then o (nat_cmp y.1 x.1)) ≡ false → IsUpTo x y)
    (λ less is. absurd cc)
    (λ same. by_numbers y.1 x.1 (λ o. is_lt o ≡ false → IsUpTo x y)
    (λ less is. absurd cc)
    (λ same_place is. inr (sym same, omega (arith, same_place)))
    (λ more is. inr (sym same, omega (arith, more))))
    (λ more is. inl more)

pub in_order : (xs : List (ℕ × ℕ)) → IsSorted byte_order xs → (i j : ℕ) (d : ℕ × ℕ) → i ≤ j → j < length xs → IsUpTo (get_or xs i d) (get_or xs j d)
in_order xs sorted i j d up below =
    up_to (get_or xs i d) (get_or xs j d) (sorted_far (λ x y. is_lt (byte_order x y)) (ranks_by total (λ p. p)) xs sorted i j d up below)

-- ---- what stands before the stores to a byte after a place

abbrev Before : ℕ → ℕ → ℕ × ℕ → Type 0
Before addr after x = (x.0 < addr) ⊎ ((x.0 ≡ addr) × (x.1 ≤ after))

before : (addr after : ℕ) (x : ℕ × ℕ) → is_before addr after x ≡ true → Before addr after x
before addr after x is = elim (or_cases (nat_lt x.0 addr) ((x.0 == addr) && nat_le x.1 after) is) [
  | inl less ↦ inl (ltb-true x.0 addr less)
  | inr same ↦ (let both = and_parts (x.0 == addr) (nat_le x.1 after) same in inr (eqb-true x.0 addr both.0, leb-true x.1 after both.1))
]

is_so : (addr after : ℕ) (x : ℕ × ℕ) → Before addr after x → is_before addr after x ≡ true
is_so addr after x (inl less) = rw (lt-ltb x.0 addr less) refl
is_so addr after x (inr both) = rw (eq-eqb x.0 addr both.0, le-leb x.1 after both.1) (or_right (nat_lt x.0 addr) true refl)

-- after it
not_before : (addr after : ℕ) (x : ℕ × ℕ) → is_before addr after x ≡ false → Before addr after x → ⊥
not_before addr after x is so = let other : is_before addr after x ≡ true = is_so addr after x so in absurd cc

still : (addr after : ℕ) (x y : ℕ × ℕ) → IsUpTo x y → Before addr after y → Before addr after x
still addr after x y (inl less) (inl before) = inl (omega (arith, less, before))
still addr after x y (inl less) (inr before) = inl (omega (arith, less, before.0))
still addr after x y (inr same) (inl before) = inl (omega (arith, same.0, before))
still addr after x y (inr same) (inr before) = inr (omega (arith, same.0, before.0), omega (arith, same.1, before.1))

pub parted : (addr after : ℕ) (xs : List (ℕ × ℕ)) → IsSorted byte_order xs → IsPartitionedBy (is_before addr after) xs
parted addr after xs sorted i j d up below is =
    is_so addr after (get_or xs i d) (still addr after (get_or xs i d) (get_or xs j d) (in_order xs sorted i j d up below) (before addr after (get_or xs j d) is))

-- ---- the first store to a byte after a place

abbrev IsSplit : ℕ → ℕ → List (ℕ × ℕ) → ℕ → Type 0
IsSplit addr after xs index = IsPartitionPoint (λ x. is_before addr after x ≡ true) (λ x. is_before addr after x ≡ false) xs index

abbrev Stored : List Entry → ℕ → ℕ → ℕ → Bool
Stored entries core addr j = core_does entries core j (stores_byte addr)

later_than : (addr after : ℕ) (x : ℕ × ℕ) → is_before addr after x ≡ false → x.0 ≡ addr → after < x.1
later_than addr after x fails same = either_way (nat_le x.1 after) (after < x.1)
    (λ early. absurd (not_before addr after x fails (inr (same, leb-true x.1 after early))))
    (λ late. leb-false x.1 after late)

-- a store that is before the first of those with the index or beyond
no_earlier : (addr after place j : ℕ) → IsUpTo (addr, place) (addr, j) → j < place → ⊥
no_earlier addr after place j (inl less) before = omega (arith, less)
no_earlier addr after place j (inr same) before = omega (arith, same.1, before)

not_first : (addr after j : ℕ) → after < j → is_before addr after (addr, j) ≡ true → ⊥
not_first addr after j past is = elim (before addr after (addr, j) is) [
  | inl less ↦ omega (arith, less)
  | inr both ↦ omega (arith, both.1, past)
]

pub hit : (size : ℕ) (entries : List Entry) (core from after end index addr : ℕ) (xs : List (ℕ × ℕ)) (x : ℕ × ℕ) → AreStored size entries core from end xs → IsSorted byte_order xs
    → IsSplit addr after xs index → from ≤ after → addr < size → index < length xs → get_or xs index x ≡ x → x.0 ≡ addr
    → IsNext (Stored entries core addr) (after + 1) end x.1
hit size entries core from after end index addr xs x stored sorted split past small within at same =
    let here = stored.only x (index, within, at) in
    let late : after < x.1 = later_than addr after x (subst (λ y. is_before addr after y ≡ false) at (split.1 index x (omega arith) within)) same in
    record {
      most = omega (arith, here.1);
      passes = λ _. (omega (arith, late), subst (λ a. Stored entries core a x.1 ≡ true) same here.2);
      first = λ j beyond below. false_from_ne_true (Stored entries core addr j) (λ is.
          let among = stored.each addr j small (omega (arith, beyond, past)) (omega (arith, below, here.1)) is in
          either_way (nat_lt among.0 index) ⊥
          (λ before_it. not_first addr after j (omega (arith, beyond)) (subst (λ y. is_before addr after y ≡ true) among.2 (split.0 among.0 (addr, j) (omega arith) (ltb-true among.0 index before_it))))
          (λ beyond_it. no_earlier addr after x.1 j
          (subst (λ y. IsUpTo y (addr, j)) (get_or_default xs index (addr, j) x within ∙ (at ∙ ap (λ a. (a, x.1)) same))
          (subst (IsUpTo (get_or xs index (addr, j))) among.2 (in_order xs sorted index among.0 (addr, j) (ltb-false among.0 index beyond_it) among.1)))
          below));
    }

pub miss : (size : ℕ) (entries : List Entry) (core from after end index addr : ℕ) (xs : List (ℕ × ℕ)) → after < end → AreStored size entries core from end xs → IsSorted byte_order xs
    → IsSplit addr after xs index → from ≤ after → addr < size → ((d : ℕ × ℕ) → index < length xs → (get_or xs index d).0 ≡ addr → ⊥)
    → IsNext (Stored entries core addr) (after + 1) end end
miss size entries core from after end index addr xs room stored sorted split past small other = record {
  most = omega arith;
  passes = λ below. absurd (omega (arith, below));
  first = λ j beyond below. false_from_ne_true (Stored entries core addr j) (λ is.
      let among = stored.each addr j small (omega (arith, beyond, past)) below is in
      let d : ℕ × ℕ = (addr, j) in
      either_way (nat_lt among.0 index) ⊥
      (λ before_it. not_first addr after j (omega (arith, beyond)) (subst (λ y. is_before addr after y ≡ true) among.2 (split.0 among.0 d (omega arith) (ltb-true among.0 index before_it))))
      (λ beyond_it. let up : index ≤ among.0 = ltb-false among.0 index beyond_it in
      let within : index < length xs = omega (arith, up, among.1) in
      elim (subst (IsUpTo (get_or xs index d)) among.2 (in_order xs sorted index among.0 d up among.1)) [
        | inl less ↦ not_before addr after (get_or xs index d) (split.1 index d (omega arith) within) (inl less)
        | inr same ↦ other d within same.0
      ]));
}

by_place : (x : ℕ × ℕ) (addr : ℕ) (b : Bool) (P : Option ℕ → Type 0) → (x.0 == addr) ≡ b → (x.0 ≡ addr → P (Some x.1)) → ((x.0 ≡ addr → ⊥) → P None) → P (place_in (Some x) addr)
by_place x addr true P is one other = rw is (one (eqb-true x.0 addr is))
by_place x addr false P is one other = rw is (other (λ same. let so : (x.0 == addr) ≡ true = eq-eqb x.0 addr same in absurd cc))

pub next_is : (size : ℕ) (entries : List Entry) (core addr after index : ℕ) (s : Stores) → AreAhead size entries core s → s.after ≤ after → addr < size → after < s.end
    → IsSplit addr after s.bytes.items index → IsNext (Stored entries core addr) (after + 1) s.end (min (unwrap_or (place_of s.bytes.items index addr) s.end) s.end)
next_is size entries core addr after index s ahead past small room split = elim (slice_get_cases s.bytes.items index).1 [
  | inl in_it ↦ subst (λ o. IsNext (Stored entries core addr) (after + 1) s.end (min (unwrap_or (place_in o addr) s.end) s.end)) (sym in_it.2)
      (by_place in_it.0 addr (in_it.0.0 == addr) (λ o. IsNext (Stored entries core addr) (after + 1) s.end (min (unwrap_or o s.end) s.end)) refl
      (λ same. let found = hit size entries core s.after after s.end index addr s.bytes.items in_it.0 ahead.stored ahead.ordered split past small in_it.1 in_it.3 same in
      subst (IsNext (Stored entries core addr) (after + 1) s.end) (omega (arith, found.most)) found)
      (λ apart. subst (IsNext (Stored entries core addr) (after + 1) s.end) (omega arith)
      (miss size entries core s.after after s.end index addr s.bytes.items room ahead.stored ahead.ordered split past small
      (λ d within same. apart (ap (λ (p : ℕ × ℕ). p.0) (sym in_it.3 ∙ get_or_default s.bytes.items index in_it.0 d within) ∙ same)))))
  | inr out ↦ subst (λ o. IsNext (Stored entries core addr) (after + 1) s.end (min (unwrap_or (place_in o addr) s.end) s.end)) (sym out.1)
      (subst (IsNext (Stored entries core addr) (after + 1) s.end) (omega arith)
      (miss size entries core s.after after s.end index addr s.bytes.items room ahead.stored ahead.ordered split past small (λ d within same. omega (arith, within, out.0))))
]

-- ---- what is kept of each core

pub apart_by : (core other : ℕ) → (core ≡ other → ⊥) → is_eq (nat_cmp core other) ≡ false
apart_by core other apart = by_numbers core other (λ o. is_eq o ≡ false) (λ less. refl) (λ same. absurd (apart same)) (λ more. refl)

pub found_now : (old : Ahead) (found : BTreeMap ℕ Stores) (core after : ℕ) (stores : Stores) → (size : ℕ) (entries : List Entry)
    → (stores.after ≡ after) × AreAhead size entries core stores → after < length entries → Updates nat_cmp old.found found core (Some stores) → IsFound (record { found = found }) core after
found_now old found core after stores size entries is within updates =
    let begins = is.1.end in record {
      stores = stores;
      is = updates.1;
      from = omega (arith, is.0);
      before = omega (arith, is.0, ends_after _ stores.after (length entries) stores.end (omega (arith, is.0, within)) begins);
    }

pub known_more : (old : Ahead) (found : BTreeMap ℕ Stores) (core after : ℕ) (stores : Stores) → (size : ℕ) (entries : List Entry)
    → IsAhead size entries old → (stores.after ≡ after) × AreAhead size entries core stores → Updates nat_cmp old.found found core (Some stores) → IsAhead size entries (record { found = found })
known_more old found core after stores size entries known is updates other kept there = elim (cases_eq core other) [
  | inl e ↦ let same : Some stores ≡ Some kept = sym updates.1 ∙ (ap (get nat_cmp found) e ∙ there) in
      let one : stores ≡ kept = cc in
      subst (λ n. AreAhead size entries n kept) e (subst (AreAhead size entries core) one is.1)
  | inr apart ↦ known other kept (sym (updates.2 other (apart_by core other apart)) ∙ there)
]

pub known_still : (old : Ahead) (found : BTreeMap ℕ Stores) (size : ℕ) (entries : List Entry) → IsAhead size entries old → IsUnchanged old.found found → IsAhead size entries (record { found = found })
known_still old found size entries known same core kept there =
    known core kept (sym (ap (lookup (is_at (nat_cmp core))) same) ∙ there)
