-- Lines that epochs share, counted as they run: what a touch and a store change.
use Rattle.std.proofs.Common.{◌≡◌, ◌≢◌, ◌⊎◌, ℕ, zero, suc, ◌+◌, ◌-◌, ◌==◌, ◌&&◌, ◌||◌, ◌<◌, ◌≤◌, not, nat_lt, Bool, true, false, cond, length, set, slice_index, refl, sym, ap, subst, ◌∙◌, inl, inr, true≢false, arith, add-one, eq-eqb, eqb-true, ltb-true, lt-ltb, get_or-set_same, get_or-set_other, length-set}
use Rattle.std.proofs.lemmas.Bool.{and_parts, both_ways, cases_Bool, cases_eq, cases_lt, le-ltb, ne_eqb, not-true}
use Rattle.dependences.specs.Conflict.{first_beside}
use Rattle.dependences.specs.KeptLines.{IsLastOf, followed}
use Rattle.dependences.specs.KeptTouches.{AreShares, AreSoMany, IsCount, IsEarly, IsInside, IsNear, IsSharedLine, Touched, after_store, after_touch, counted, is_shared_now, with_store, with_toucher}
use Rattle.epoch_paths.proofs.Cores.{count_more, count_most}
use Rattle.dependences.proofs.Lining.{last_low, none_from, some_from}
use Rattle.dependences.proofs.Counting.{count_none}

-- ---- the last of some

last_wide : (P Q : ℕ → Type 0) (bound bound' w : ℕ) → bound ≤ bound' → ((d : ℕ) → P d → Q d) → ((d : ℕ) → Q d → P d) → ((d : ℕ) → P d → d < bound) → IsLastOf P bound w → IsLastOf Q bound' w
last_wide P Q bound bound' zero most to from low is = λ d below q. let p = from d q in is d (low d p) p
last_wide P Q bound bound' (suc e) most to from low is =
    let less = is.0 in (omega (arith, less, most), to e is.1, λ d below q. let p = from d q in is.2 d (low d p) p)

last_so : (P Q : ℕ → Type 0) (bound w : ℕ) → ((d : ℕ) → P d → Q d) → ((d : ℕ) → Q d → P d) → IsLastOf P bound w → IsLastOf Q bound w
last_so P Q bound zero to from is = λ d below q. is d below (from d q)
last_so P Q bound (suc e) to from is = (is.0, to e is.1, λ d below q. is.2 d below (from d q))

-- up to one that is not among them
last_below : (P Q : ℕ → Type 0) (e w : ℕ) → w ≢ e + 1 → ((d : ℕ) → P d → Q d) → ((d : ℕ) → d < e → Q d → P d) → IsLastOf P (e + 1) w → IsLastOf Q e w
last_below P Q e zero other to from is = λ d below q. is d (omega (arith, below)) (from d below q)
last_below P Q e (suc last) other to from is =
    let less = is.0 in (omega (arith, less, other), to last is.1, λ d below q. is.2 d (omega (arith, below)) (from d below q))

last_here : (P : ℕ → Type 0) (e : ℕ) → P e → IsLastOf P (e + 1) (e + 1)
last_here P e p = subst (λ n. IsLastOf P (e + 1) n) (sym (add-one e)) (omega arith, p, λ d low q. omega (arith, low))

-- one that is so is no later than the last
last_most : (P : ℕ → Type 0) (bound w d : ℕ) → IsLastOf P bound w → d < bound → P d → d + 1 ≤ w
last_most P bound zero d is low p = absurd (is d low p)
last_most P bound (suc e) d is low p = let most = is.2 d low p in omega (arith, most)

last_is : (P : ℕ → Type 0) (bound w e : ℕ) → w ≡ e + 1 → IsLastOf P bound w → P e
last_is P bound zero e same is = absurd (omega (arith, same))
last_is P bound (suc d) e same is = subst P (omega (arith, same)) is.1

-- ---- how many

so_many_so : (lines : ℕ) (P Q : ℕ → Type 0) (n : ℕ) → ((l : ℕ) → P l → Q l) → ((l : ℕ) → Q l → P l) → AreSoMany lines P n → AreSoMany lines Q n
so_many_so lines P Q n to from x = record { which = x.which; some = λ l is. to l (x.some l is); all = λ l q. x.all l (from l q); count = x.count }

-- one line more
line_more : (lines line : ℕ) (P Q : ℕ → Type 0) (n : ℕ) → line < lines → (P line → ⊥) → Q line → ((l : ℕ) → P l → Q l) → ((l : ℕ) → l ≢ line → Q l → P l)
    → AreSoMany lines P n → AreSoMany lines Q (n + 1)
line_more lines line P Q n within none here to from x = record {
  which = λ k. (k == line) || x.which k;
  some = λ k is. elim (cases_eq k line) [
    | inl e ↦ subst Q (sym e) here
    | inr other ↦ to k (x.some k (sym (ap (λ b. b || x.which k) (ne_eqb k line other)) ∙ is))
  ];
  all = λ k q. elim (cases_eq k line) [
    | inl e ↦ (omega (arith, within, e), ap (λ b. b || x.which k) (eq-eqb k line e))
    | inr other ↦ (let was = x.all k (from k other q) in (was.0, ap (λ b. b || x.which k) (ne_eqb k line other) ∙ was.1))
  ];
  count =
      (let more = count_more lines line x.which (λ k. (k == line) || x.which k) within (λ k other. sym (ap (λ b. b || x.which k) (ne_eqb k line other))) fresh (ap (λ b. b || x.which line) (eq-eqb line line refl)) in
      let count = x.count in omega (arith, more, count));
}
  where
    fresh : x.which line ≡ false
    fresh = elim (cases_Bool (x.which line)) [
      | inl is ↦ absurd (none (x.some line is))
      | inr is ↦ is
    ]

none_so_many : (lines : ℕ) (P : ℕ → Type 0) → ((l : ℕ) → P l → ⊥) → AreSoMany lines P 0
none_so_many lines P none = record {
  which = λ k. false;
  some = λ k is. absurd (true≢false (sym is));
  all = λ k p. absurd (none k p);
  count = sym (count_none lines (λ k. false) (λ k. refl));
}

-- where one is so, they are some
some_many : (lines l : ℕ) (P : ℕ → Type 0) (n : ℕ) → P l → AreSoMany lines P n → 0 < n
some_many lines l P n p x =
    let here = x.all l p in
    let more = count_more lines l (λ k. not (k == l) && x.which k) x.which here.0 (λ k other. others k other (cases_Bool (k == l))) itself here.1 in
    let count = x.count in omega (arith, more, count)
  where
    others : (k : ℕ) → k ≢ l → ((k == l) ≡ true) ⊎ ((k == l) ≡ false) → (not (k == l) && x.which k) ≡ x.which k
    others k other (inl is) = absurd (other (eqb-true k l is))
    others k other (inr is) = ap (λ b. not b && x.which k) is

    itself : (not (l == l) && x.which l) ≡ false
    itself = ap (λ b. not b && x.which l) (eq-eqb l l refl)

few_many : (lines : ℕ) (P : ℕ → Type 0) (n : ℕ) → AreSoMany lines P n → n ≤ lines
few_many lines P n x = let most = count_most lines x.which in let count = x.count in omega (arith, most, count)

-- ---- counts of an epoch

count_so : (lines cores : ℕ) (T S T' S' : ℕ → ℕ → Type 0) (d n : ℕ) → (IsEarly cores T S d → IsEarly cores T' S' d) → (IsEarly cores T' S' d → IsEarly cores T S d)
    → ((l : ℕ) → IsSharedLine cores T S d l → IsSharedLine cores T' S' d l) → ((l : ℕ) → IsSharedLine cores T' S' d l → IsSharedLine cores T S d l)
    → IsCount lines cores T S d n → IsCount lines cores T' S' d n
count_so lines cores T S T' S' d n early back to from (inl x) = inl (early x.0, so_many_so lines _ _ n to from x.1)
count_so lines cores T S T' S' d n early back to from (inr x) = inr (λ e. x.0 (back e), x.1)

pub count_few : (lines cores : ℕ) (T S : ℕ → ℕ → Type 0) (d n : ℕ) → IsCount lines cores T S d n → n ≤ lines
count_few lines cores T S d n (inl x) = few_many lines _ n x.1
count_few lines cores T S d n (inr x) = let none = x.1 in omega (arith, none)

-- the same lines and epochs, said in other words
pub shares_so : (lines cores limit bound bound' : ℕ) (T S T' S' : ℕ → ℕ → Type 0) (t : Touched) → bound ≤ bound' → ((l d : ℕ) → T l d → T' l d) → ((l d : ℕ) → T' l d → T l d)
    → ((l d : ℕ) → S l d → S' l d) → ((l d : ℕ) → S' l d → S l d) → AreShares lines cores limit bound T S t → AreShares lines cores limit bound' T' S' t
shares_so lines cores limit bound bound' T S T' S' t most to from stored back x = record {
  last = λ l. last_wide (T l) (T' l) bound bound' _ most (to l) (from l) (x.low l) (x.last l);
  before = λ l d is. last_so (T l) (T' l) d _ (to l) (from l) (x.before l d is);
  stored = λ l d is s. x.stored l d is (back l d s);
  stores_so = λ l d is. stored l d (x.stores_so l d is);
  low = λ l d is. let low = x.low l d (from l d is) in omega (arith, low, most);
  touched = λ l d s. to l d (x.touched l d (back l d s));
  within = λ l d s. x.within l d (back l d s);
  counts = λ d. count_so lines cores T S T' S' d _
      (λ e. record { line = e.line; earlier = e.earlier; near = e.near; stored = stored e.line d e.stored; touched = to e.line e.earlier e.touched })
      (λ e. record { line = e.line; earlier = e.earlier; near = e.near; stored = back e.line d e.stored; touched = from e.line e.earlier e.touched })
      (λ l s. record { other = s.other; near = s.near; stored = stored l d s.stored; touched = to l s.other s.touched })
      (λ l s. record { other = s.other; near = s.near; stored = back l d s.stored; touched = from l s.other s.touched })
      (x.counts d);
  above = x.above;
  most = x.most;
}

-- ---- a count more

module _ (t : Touched) (limit d : ℕ) (within : d < length t.counts) where
  counted_here : slice_index (counted t limit d).counts d ≡ slice_index t.counts d + 1
  counted_here = get_or-set_same t.counts d (slice_index t.counts d + 1) 0 within

  counted_other : (k : ℕ) → k ≢ d → slice_index (counted t limit d).counts k ≡ slice_index t.counts k
  counted_other k other = get_or-set_other t.counts d k (slice_index t.counts d + 1) 0 other

  -- none is less
  counted_up : (k : ℕ) → slice_index t.counts k ≤ slice_index (counted t limit d).counts k
  counted_up k = elim (cases_eq k d) [
    | inl same ↦ subst (λ n. slice_index t.counts n ≤ slice_index (counted t limit d).counts n) (sym same) (omega (arith, counted_here))
    | inr other ↦ (let is = counted_other k other in omega (arith, is))
  ]

  above_on : (t.full ≡ true → (k : ℕ) × (limit < slice_index t.counts k)) → (counted t limit d).full ≡ true → (k : ℕ) × (limit < slice_index (counted t limit d).counts k)
  above_on before full = by_full t.full refl
    where
      by_full : (b : Bool) → t.full ≡ b → (k : ℕ) × (limit < slice_index (counted t limit d).counts k)
      by_full true is = let one = before is in let less = one.1 in let up = counted_up one.0 in (one.0, omega (arith, less, up))
      by_full false is =
          let now : nat_lt limit (slice_index t.counts d + 1) ≡ true = sym (ap (λ b. b || nat_lt limit (slice_index t.counts d + 1)) is) ∙ full in
          let less = ltb-true _ _ now in (d, omega (arith, less, counted_here))

  most_on : (t.full ≡ false → (k : ℕ) → slice_index t.counts k ≤ limit) → (counted t limit d).full ≡ false → (k : ℕ) → slice_index (counted t limit d).counts k ≤ limit
  most_on before out k = by_full t.full refl
    where
      by_full : (b : Bool) → t.full ≡ b → slice_index (counted t limit d).counts k ≤ limit
      by_full true is = absurd (true≢false (sym (ap (λ b. b || nat_lt limit (slice_index t.counts d + 1)) is) ∙ out))
      by_full false is = elim (cases_eq k d) [
        | inl same ↦ subst (λ n. slice_index (counted t limit d).counts n ≤ limit) (sym same)
            (elim (cases_lt limit (slice_index t.counts d + 1)) [
              | inl less ↦ absurd (both_ways (nat_lt limit (slice_index t.counts d + 1)) (sym (ap (λ b. b || nat_lt limit (slice_index t.counts d + 1)) is) ∙ out) (lt-ltb _ _ less))
              | inr most ↦ omega (arith, most, counted_here)
            ])
        | inr other ↦ (let most = before is k in let same = counted_other k other in omega (arith, most, same))
      ]

-- ---- a touch

-- the epoch that runs touches a line, which it has not touched before
module _ (lines cores limit e : ℕ) (T S T' : ℕ → ℕ → Type 0) (t : Touched) (x : AreShares lines cores limit (e + 1) T S t) (line : ℕ) (inside : IsInside t e line)
    (fresh : slice_index t.two.last line ≢ e + 1) (old : (l d : ℕ) → T l d → T' l d) (here : T' line e) (new : (l d : ℕ) → T' l d → T l d ⊎ ((l ≡ line) × (d ≡ e))) where
  -- the last epoch that touched the line before
  abbrev d0 : ℕ
  d0 = slice_index t.two.last line - 1

  -- it is near; and what else the test asks
  abbrev is_near_last : Bool
  is_near_last = nat_lt (first_beside cores e) (slice_index t.two.last line)

  abbrev is_unshared : Bool
  is_unshared = not (nat_lt (first_beside cores (slice_index t.two.last line - 1)) (slice_index t.two.before line))

  abbrev is_counted : Bool
  is_counted = nat_lt 0 (slice_index t.counts (slice_index t.two.last line - 1))

  abbrev is_rest : Bool
  is_rest = (slice_index t.stored line == slice_index t.two.last line) && (is_unshared && is_counted)

  last_most_e : slice_index t.two.last line ≤ e
  last_most_e = let low = last_low (T line) (e + 1) (slice_index t.two.last line) (x.last line) in omega (arith, low, fresh)

  untouched : T line e → ⊥
  untouched touches = let most = last_most (T line) (e + 1) _ e (x.last line) (omega arith) touches in omega (arith, most, last_most_e)

  unstored : S line e → ⊥
  unstored stores = untouched (x.touched line e stores)

  still : (l : ℕ) → l ≢ line → (d : ℕ) → T' l d → T l d
  still l other d touches = elim (new l d touches) [
    | inl was ↦ was
    | inr now ↦ absurd (other now.0)
  ]

  earlier_so : (d : ℕ) → d < e → T' line d → T line d
  earlier_so d below touches = elim (new line d touches) [
    | inl was ↦ was
    | inr now ↦ (let same = now.1 in absurd (omega (arith, same, below)))
  ]

  last_line : (l : ℕ) → l ≢ line → slice_index (followed t.two e line).last l ≡ slice_index t.two.last l
  last_line l other = get_or-set_other t.two.last line l (e + 1) 0 other

  before_line : (l : ℕ) → l ≢ line → slice_index (followed t.two e line).before l ≡ slice_index t.two.before l
  before_line l other = get_or-set_other t.two.before line l (slice_index t.two.last line) 0 other

  last_now : slice_index (followed t.two e line).last line ≡ e + 1
  last_now = get_or-set_same t.two.last line (e + 1) 0 inside.last

  before_now : slice_index (followed t.two e line).before line ≡ slice_index t.two.last line
  before_now = get_or-set_same t.two.before line (slice_index t.two.last line) 0 inside.before

  last_all : (l : ℕ) → IsLastOf (T' l) (e + 1) (slice_index (followed t.two e line).last l)
  last_all l = elim (cases_eq l line) [
    | inl same ↦ subst (λ n. IsLastOf (T' n) (e + 1) (slice_index (followed t.two e line).last n)) (sym same)
        (subst (λ n. IsLastOf (T' line) (e + 1) n) (sym last_now) (last_here (T' line) e here))
    | inr other ↦ subst (λ n. IsLastOf (T' l) (e + 1) n) (sym (last_line l other)) (last_so (T l) (T' l) (e + 1) _ (old l) (still l other) (x.last l))
  ]

  before_this : (d : ℕ) → slice_index (followed t.two e line).last line ≡ d + 1 → IsLastOf (T' line) d (slice_index (followed t.two e line).before line)
  before_this d is =
      let same : e ≡ d = omega (arith, is, last_now) in
      subst (λ n. IsLastOf (T' line) n (slice_index (followed t.two e line).before line)) same
      (subst (λ n. IsLastOf (T' line) e n) (sym before_now) (last_below (T line) (T' line) e _ fresh (old line) earlier_so (x.last line)))

  before_all : (l d : ℕ) → slice_index (followed t.two e line).last l ≡ d + 1 → IsLastOf (T' l) d (slice_index (followed t.two e line).before l)
  before_all l d is = elim (cases_eq l line) [
    | inl same ↦ subst (λ n. IsLastOf (T' n) d (slice_index (followed t.two e line).before n)) (sym same)
        (before_this d (subst (λ n. slice_index (followed t.two e line).last n ≡ d + 1) same is))
    | inr other ↦ subst (λ n. IsLastOf (T' l) d n) (sym (before_line l other))
        (last_so (T l) (T' l) d _ (old l) (still l other) (x.before l d (sym (last_line l other) ∙ is)))
  ]

  stored_all : (l d : ℕ) → slice_index (followed t.two e line).last l ≡ d + 1 → S l d → slice_index t.stored l ≡ d + 1
  stored_all l d is stores = elim (cases_eq l line) [
    | inl same ↦
        (let here_is : slice_index (followed t.two e line).last line ≡ d + 1 = subst (λ n. slice_index (followed t.two e line).last n ≡ d + 1) same is in
        let this : d ≡ e = omega (arith, here_is, last_now) in
        absurd (unstored (subst (λ n. S line n) this (subst (λ n. S n d) same stores))))
    | inr other ↦ x.stored l d (sym (last_line l other) ∙ is) stores
  ]

  low_all : (l d : ℕ) → T' l d → d < e + 1
  low_all l d touches = elim (new l d touches) [
    | inl was ↦ x.low l d was
    | inr now ↦ (let same = now.1 in omega (arith, same))
  ]

  -- ---- its counts

  early_on : (d : ℕ) → IsEarly cores T S d → IsEarly cores T' S d
  early_on d y = record { line = y.line; earlier = y.earlier; near = y.near; stored = y.stored; touched = old y.line y.earlier y.touched }

  -- who touches later is no earlier one
  early_back : (d : ℕ) → IsEarly cores T' S d → IsEarly cores T S d
  early_back d y = elim (new y.line y.earlier y.touched) [
    | inl was ↦ record { line = y.line; earlier = y.earlier; near = y.near; stored = y.stored; touched = was }
    | inr now ↦
        (let low = x.low y.line d (x.touched y.line d y.stored) in
        let same = now.1 in
        let before = y.near.1 in absurd (omega (arith, low, same, before)))
  ]

  shared_on : (d l : ℕ) → IsSharedLine cores T S d l → IsSharedLine cores T' S d l
  shared_on d l y = record { other = y.other; near = y.near; stored = y.stored; touched = old l y.other y.touched }

  -- a line that is shared now was so before, or is this one, and the epoch is near
  shared_back : (d l : ℕ) → IsSharedLine cores T' S d l → IsSharedLine cores T S d l ⊎ ((l ≡ line) × IsNear cores d e)
  shared_back d l y = elim (new l y.other y.touched) [
    | inl was ↦ inl (record { other = y.other; near = y.near; stored = y.stored; touched = was })
    | inr now ↦ inr (now.0, near_by d l y.stored (subst (λ n. IsNear cores n d ⊎ IsNear cores d n) now.1 y.near))
  ]
    where
      near_by : (d l : ℕ) → S l d → IsNear cores e d ⊎ IsNear cores d e → IsNear cores d e
      near_by d l stores (inl near) = let low = x.low l d (x.touched l d stores) in let before = near.1 in absurd (omega (arith, low, before))
      near_by d l stores (inr near) = near

  -- between an epoch and this one another touches the line: so it was shared
  between : (d : ℕ) → IsNear cores d e → S line d → d + 1 < slice_index t.two.last line → IsSharedLine cores T S d line
  between d near stores less =
      let from = near.0 in
      record {
        other = d0;
        near = inr (omega (arith, from, last_most_e, less), omega (arith, less));
        stored = stores;
        touched = last_is (T line) (e + 1) (slice_index t.two.last line) d0 (omega (arith, less)) (x.last line);
      }

  -- so for all but the last one that touched it
  shared_still : (d : ℕ) → d + 1 ≢ slice_index t.two.last line → (l : ℕ) → IsSharedLine cores T' S d l → IsSharedLine cores T S d l
  shared_still d other l y = elim (shared_back d l y) [
    | inl was ↦ was
    | inr now ↦
        (let most = last_most (T line) (e + 1) _ d (x.last line) (let low = now.1.1 in omega (arith, low)) (x.touched line d (subst (λ n. S n d) now.0 y.stored)) in
        subst (λ n. IsSharedLine cores T S d n) (sym now.0) (between d now.1 (subst (λ n. S n d) now.0 y.stored) (omega (arith, most, other))))
  ]

  count_still : (d : ℕ) → d + 1 ≢ slice_index t.two.last line → IsCount lines cores T S d (slice_index t.counts d) → IsCount lines cores T' S d (slice_index t.counts d)
  count_still d other = count_so lines cores T S T' S d _ (early_on d) (early_back d) (shared_on d) (shared_still d other)

  -- ---- the last one that touched the line

  module _ (d : ℕ) (is : d + 1 ≡ slice_index t.two.last line) where
    shared_by_test : (l : ℕ) → is_shared_now t cores e line ≡ false → 0 < slice_index t.counts d → IsSharedLine cores T' S d l → IsSharedLine cores T S d l
    shared_by_test l unshared some y = elim (shared_back d l y) [
      | inl was ↦ was
      | inr now ↦ subst (λ n. IsSharedLine cores T S d n) (sym now.0) (by_before (subst (λ n. S n d) now.0 y.stored) now.1 (cases_lt (first_beside cores d) (slice_index t.two.before line)))
    ]
      where
        by_before : S line d → IsNear cores d e → (first_beside cores d < slice_index t.two.before line) ⊎ (slice_index t.two.before line ≤ first_beside cores d) → IsSharedLine cores T S d line
        by_before stores near (inl less) =
            let one = some_from (T line) d (slice_index t.two.before line) (first_beside cores d) (x.before line d (sym is)) less in
            record { other = one.0; near = inl (one.1, one.2); stored = stores; touched = one.3 }
        by_before stores near (inr most) = absurd (both_ways (is_shared_now t cores e line) unshared (shared_now near stores most))
          where
            shared_now : IsNear cores d e → S line d → slice_index t.two.before line ≤ first_beside cores d → is_shared_now t cores e line ≡ true
            shared_now near stores most =
                let d_is : slice_index t.two.last line - 1 ≡ d = omega (arith, is) in
                let from = near.0 in
                let stored = x.stored line d (sym is) stores in
                rw (
                  d_is,
                  lt-ltb (first_beside cores e) (slice_index t.two.last line) (omega (arith, from, is)),
                  eq-eqb (slice_index t.stored line) (slice_index t.two.last line) (stored ∙ is),
                  le-ltb (first_beside cores d) (slice_index t.two.before line) most,
                  lt-ltb 0 (slice_index t.counts d) some,
                ) refl

    count_unshared : is_shared_now t cores e line ≡ false → IsCount lines cores T S d (slice_index t.counts d) → IsCount lines cores T' S d (slice_index t.counts d)
    count_unshared unshared (inl y) =
        let early = y.0 in
        let some = some_many lines early.line (IsSharedLine cores T S d) (slice_index t.counts d) (record { other = early.earlier; near = inl early.near; stored = early.stored; touched = early.touched }) y.1 in
        inl (early_on d early, so_many_so lines _ _ _ (shared_on d) (λ l z. shared_by_test l unshared some z) y.1)
    count_unshared unshared (inr y) = inr (λ early. y.0 (early_back d early), y.1)

    -- ---- where it is shared now

    module _ (shared : is_shared_now t cores e line ≡ true) where
      parts : (nat_lt (first_beside cores e) (slice_index t.two.last line) ≡ true) × ((slice_index t.stored line == slice_index t.two.last line) ≡ true)
          × (nat_lt (first_beside cores d) (slice_index t.two.before line) ≡ false) × (nat_lt 0 (slice_index t.counts d) ≡ true)
      parts =
          let one = and_parts is_near_last is_rest shared in
          let two = and_parts (slice_index t.stored line == slice_index t.two.last line) (is_unshared && is_counted) one.1 in
          let three = and_parts is_unshared is_counted two.1 in
          let d_is : slice_index t.two.last line - 1 ≡ d = omega (arith, is) in (
            one.0,
            two.0,
            subst (λ n. nat_lt (first_beside cores n) (slice_index t.two.before line) ≡ false) d_is (not-true _ three.0),
            subst (λ n. nat_lt 0 (slice_index t.counts n) ≡ true) d_is three.1,
          )

      near_it : IsNear cores d e
      near_it =
          let less = ltb-true _ _ parts.0 in (omega (arith, less, is), omega (arith, is, last_most_e))

      stores_it : S line d
      stores_it = x.stores_so line d (eqb-true _ _ parts.1 ∙ sym is)

      -- it wasn't before
      unshared_before : IsSharedLine cores T S d line → ⊥
      unshared_before y = by_near y.near
        where
          by_near : IsNear cores y.other d ⊎ IsNear cores d y.other → ⊥
          by_near (inl near) = none_from (T line) d (slice_index t.two.before line) (first_beside cores d) (x.before line d (sym is)) (most_by parts.2) y.other near.0 near.1 y.touched
            where
              most_by : nat_lt (first_beside cores d) (slice_index t.two.before line) ≡ false → slice_index t.two.before line ≤ first_beside cores d
              most_by out = elim (cases_lt (first_beside cores d) (slice_index t.two.before line)) [
                | inl less ↦ absurd (both_ways _ out (lt-ltb _ _ less))
                | inr most ↦ most
              ]
          by_near (inr near) =
              let most = last_most (T line) (e + 1) _ y.other (x.last line) (x.low line y.other y.touched) y.touched in
              let before = near.1 in omega (arith, most, before, is)

      count_shared : IsCount lines cores T S d (slice_index t.counts d) → IsCount lines cores T' S d (slice_index t.counts d + 1)
      count_shared (inl y) =
          inl (
            early_on d y.0,
            line_more lines line (IsSharedLine cores T S d) (IsSharedLine cores T' S d) (slice_index t.counts d) (x.within line d stores_it) unshared_before
                (record { other = e; near = inr near_it; stored = stores_it; touched = here }) (shared_on d)
                (λ l other z. elim (shared_back d l z) [ inl was ↦ was | inr now ↦ absurd (other now.0) ]) y.1,
          )
      count_shared (inr y) = let some = ltb-true _ _ parts.3 in let none = y.1 in absurd (omega (arith, some, none))

  -- ---- all of it

  counts_same : is_shared_now t cores e line ≡ false → (d : ℕ) → IsCount lines cores T' S d (slice_index t.counts d)
  counts_same unshared d = elim (cases_eq (d + 1) (slice_index t.two.last line)) [
    | inl is ↦ count_unshared d is unshared (x.counts d)
    | inr other ↦ count_still d other (x.counts d)
  ]

  unshared_all : is_shared_now t cores e line ≡ false → AreShares lines cores limit (e + 1) T' S (with_toucher t e line)
  unshared_all unshared = record {
    last = last_all;
    before = before_all;
    stored = stored_all;
    stores_so = x.stores_so;
    low = low_all;
    touched = λ l d stores. old l d (x.touched l d stores);
    within = x.within;
    counts = counts_same unshared;
    above = x.above;
    most = x.most;
  }

  counts_more : (d : ℕ) → (is : d + 1 ≡ slice_index t.two.last line) → is_shared_now t cores e line ≡ true → (k : ℕ) → IsCount lines cores T' S k (slice_index (counted t limit d).counts k)
  counts_more d is shared k = elim (cases_eq k d) [
    | inl same ↦ subst (λ n. IsCount lines cores T' S n (slice_index (counted t limit d).counts n)) (sym same)
        (subst (λ n. IsCount lines cores T' S d n) (sym (counted_here t limit d (within_it d is))) (count_shared d is shared (x.counts d)))
    | inr other ↦ subst (λ n. IsCount lines cores T' S k n) (sym (counted_other t limit d (within_it d is) k other)) (count_still k (omega (arith, other, is)) (x.counts k))
  ]
    where
      within_it : (d : ℕ) → d + 1 ≡ slice_index t.two.last line → d < length t.counts
      within_it d is = let room = inside.counts in omega (arith, is, room, last_most_e)

  shared_all : (d : ℕ) → d + 1 ≡ slice_index t.two.last line → is_shared_now t cores e line ≡ true → AreShares lines cores limit (e + 1) T' S (with_toucher (counted t limit d) e line)
  shared_all d is shared =
      let room = inside.counts in
      let within : d < length t.counts = omega (arith, is, room, last_most_e) in record {
        last = last_all;
        before = before_all;
        stored = stored_all;
        stores_so = x.stores_so;
        low = low_all;
        touched = λ l d stores. old l d (x.touched l d stores);
        within = x.within;
        counts = counts_more d is shared;
        above = above_on t limit d within x.above;
        most = most_on t limit d within x.most;
      }

  touched_by : (b : Bool) → is_shared_now t cores e line ≡ b
      → AreShares lines cores limit (e + 1) T' S (with_toucher (cond b (counted t limit (slice_index t.two.last line - 1)) t) e line)
  touched_by true is =
      let less : first_beside cores e < slice_index t.two.last line = ltb-true _ _ (and_parts is_near_last is_rest is).0 in shared_all d0 (omega (arith, less)) is
  touched_by false is = unshared_all is

  pub shares_touched : AreShares lines cores limit (e + 1) T' S (after_touch t limit cores e line)
  shares_touched = by_last (slice_index t.two.last line == e + 1) refl
    where
      by_last : (b : Bool) → (slice_index t.two.last line == e + 1) ≡ b
          → AreShares lines cores limit (e + 1) T' S (cond b t (with_toucher (cond (is_shared_now t cores e line) (counted t limit (slice_index t.two.last line - 1)) t) e line))
      by_last true is = absurd (fresh (eqb-true _ _ is))
      by_last false is = touched_by (is_shared_now t cores e line) refl

-- ---- a store

-- the epoch that runs stores in a line that it touches, and in which it has not stored before
module _ (lines cores limit e : ℕ) (T S S' : ℕ → ℕ → Type 0) (t : Touched) (x : AreShares lines cores limit (e + 1) T S t) (line : ℕ) (inside : IsInside t e line) (below : line < lines)
    (touches : slice_index t.two.last line ≡ e + 1) (fresh : slice_index t.stored line ≢ e + 1)
    (old : (l d : ℕ) → S l d → S' l d) (here : S' line e) (new : (l d : ℕ) → S' l d → S l d ⊎ ((l ≡ line) × (d ≡ e))) where
  unstored_before : S line e → ⊥
  unstored_before stores = fresh (x.stored line e touches stores)

  touches_line : T line e
  touches_line = last_is (T line) (e + 1) _ e touches (x.last line)

  stored_line : (l : ℕ) → l ≢ line → slice_index (with_store t e line).stored l ≡ slice_index t.stored l
  stored_line l other = get_or-set_other t.stored line l (e + 1) 0 other

  stored_here : slice_index (with_store t e line).stored line ≡ e + 1
  stored_here = get_or-set_same t.stored line (e + 1) 0 inside.stored

  store_all : (l d : ℕ) → slice_index t.two.last l ≡ d + 1 → S' l d → slice_index (with_store t e line).stored l ≡ d + 1
  store_all l d is stores = elim (cases_eq l line) [
    | inl same ↦
        (let last_is_d : slice_index t.two.last line ≡ d + 1 = subst (λ n. slice_index t.two.last n ≡ d + 1) same is in
        let this : d ≡ e = omega (arith, last_is_d, touches) in
        subst (λ n. slice_index (with_store t e line).stored n ≡ d + 1) (sym same) (stored_here ∙ ap (λ n. n + 1) (sym this)))
    | inr other ↦ elim (new l d stores) [
      | inl was ↦ stored_line l other ∙ x.stored l d is was
      | inr now ↦ absurd (other now.0)
    ]
  ]

  stores_all : (l d : ℕ) → slice_index (with_store t e line).stored l ≡ d + 1 → S' l d
  stores_all l d is = elim (cases_eq l line) [
    | inl same ↦
        (let here_is : slice_index (with_store t e line).stored line ≡ d + 1 = subst (λ n. slice_index (with_store t e line).stored n ≡ d + 1) same is in
        let this : e ≡ d = omega (arith, here_is, stored_here) in
        subst (λ n. S' n d) (sym same) (subst (λ n. S' line n) this here))
    | inr other ↦ old l d (x.stores_so l d (sym (stored_line l other) ∙ is))
  ]

  touched_all : (l d : ℕ) → S' l d → T l d
  touched_all l d stores = elim (new l d stores) [
    | inl was ↦ x.touched l d was
    | inr now ↦ subst (λ n. T n d) (sym now.0) (subst (λ n. T line n) (sym now.1) touches_line)
  ]

  within_all : (l d : ℕ) → S' l d → l < lines
  within_all l d stores = elim (new l d stores) [
    | inl was ↦ x.within l d was
    | inr now ↦ subst (λ n. n < lines) (sym now.0) below
  ]

  -- ---- its counts

  store_early : (d : ℕ) → IsEarly cores T S d → IsEarly cores T S' d
  store_early d y = record { line = y.line; earlier = y.earlier; near = y.near; stored = old y.line d y.stored; touched = y.touched }

  store_shared : (d l : ℕ) → IsSharedLine cores T S d l → IsSharedLine cores T S' d l
  store_shared d l y = record { other = y.other; near = y.near; stored = old l d y.stored; touched = y.touched }

  other_early : (d : ℕ) → d ≢ e → IsEarly cores T S' d → IsEarly cores T S d
  other_early d other y = elim (new y.line d y.stored) [
    | inl was ↦ record { line = y.line; earlier = y.earlier; near = y.near; stored = was; touched = y.touched }
    | inr now ↦ absurd (other now.1)
  ]

  other_shared : (d : ℕ) → d ≢ e → (l : ℕ) → IsSharedLine cores T S' d l → IsSharedLine cores T S d l
  other_shared d other l y = elim (new l d y.stored) [
    | inl was ↦ record { other = y.other; near = y.near; stored = was; touched = y.touched }
    | inr now ↦ absurd (other now.1)
  ]

  other_count : (d : ℕ) → d ≢ e → IsCount lines cores T S' d (slice_index t.counts d)
  other_count d other = count_so lines cores T S T S' d _ (store_early d) (other_early d other) (store_shared d) (other_shared d other) (x.counts d)

  -- of another line
  away_shared : (l : ℕ) → l ≢ line → IsSharedLine cores T S' e l → IsSharedLine cores T S e l
  away_shared l other y = elim (new l e y.stored) [
    | inl was ↦ record { other = y.other; near = y.near; stored = was; touched = y.touched }
    | inr now ↦ absurd (other now.0)
  ]

  -- whoever touches a line that this epoch stores in is an earlier one
  by_earlier : (l f : ℕ) → T l f → IsNear cores f e ⊎ IsNear cores e f → IsNear cores f e
  by_earlier l f touched (inl near) = near
  by_earlier l f touched (inr near) = let low = x.low l f touched in let before = near.1 in absurd (omega (arith, low, before))

  -- where nobody near has touched the line
  module _ (none : slice_index t.two.before line ≤ first_beside cores e) where
    not_here : (f : ℕ) → IsNear cores f e → T line f → ⊥
    not_here f near touched = none_from (T line) e (slice_index t.two.before line) (first_beside cores e) (x.before line e touches) none f near.0 near.1 touched

    unshared_by : (l : ℕ) → IsSharedLine cores T S' e l → IsSharedLine cores T S e l
    unshared_by l y = elim (cases_eq l line) [
      | inl same ↦ absurd (not_here y.other (by_earlier l y.other y.touched y.near) (subst (λ n. T n y.other) same y.touched))
      | inr other ↦ away_shared l other y
    ]

    unearly_by : IsEarly cores T S' e → IsEarly cores T S e
    unearly_by y = elim (new y.line e y.stored) [
      | inl was ↦ record { line = y.line; earlier = y.earlier; near = y.near; stored = was; touched = y.touched }
      | inr now ↦ absurd (not_here y.earlier y.near (subst (λ n. T n y.earlier) now.0 y.touched))
    ]

    unshared_count : (d : ℕ) → IsCount lines cores T S' d (slice_index t.counts d)
    unshared_count d = elim (cases_eq d e) [
      | inl same ↦ subst (λ n. IsCount lines cores T S' n (slice_index t.counts n)) (sym same)
          (count_so lines cores T S T S' e _ (store_early e) unearly_by (store_shared e) unshared_by (x.counts e))
      | inr other ↦ other_count d other
    ]

    unshared_store : AreShares lines cores limit (e + 1) T S' (with_store t e line)
    unshared_store = record {
      last = x.last;
      before = x.before;
      stored = store_all;
      stores_so = stores_all;
      low = x.low;
      touched = touched_all;
      within = within_all;
      counts = unshared_count;
      above = x.above;
      most = x.most;
    }

  -- where one has
  module _ (some : first_beside cores e < slice_index t.two.before line) where
    abbrev one : (f : ℕ) × (first_beside cores e ≤ f) × (f < e) × T line f
    one = some_from (T line) e (slice_index t.two.before line) (first_beside cores e) (x.before line e touches) some

    early_now : IsEarly cores T S' e
    early_now = record { line = line; earlier = one.0; near = (one.1, one.2); stored = here; touched = one.3 }

    shared_now : IsSharedLine cores T S' e line
    shared_now = record { other = one.0; near = inl (one.1, one.2); stored = here; touched = one.3 }

    not_before : IsSharedLine cores T S e line → ⊥
    not_before y = unstored_before y.stored

    count_here : IsCount lines cores T S e (slice_index t.counts e) → IsCount lines cores T S' e (slice_index t.counts e + 1)
    count_here (inl y) = inl (early_now, line_more lines line (IsSharedLine cores T S e) (IsSharedLine cores T S' e) _ below not_before shared_now (store_shared e) away_shared y.1)
    count_here (inr y) =
        inl (
          early_now,
          subst (λ n. AreSoMany lines (IsSharedLine cores T S' e) (n + 1)) (sym y.1)
              (line_more lines line (IsSharedLine cores T S e) (IsSharedLine cores T S' e) 0 below not_before shared_now (store_shared e) away_shared
              (none_so_many lines (IsSharedLine cores T S e) (λ l z. y.0 (record { line = l; earlier = z.other; near = by_earlier l z.other z.touched z.near; stored = z.stored; touched = z.touched })))),
        )

    shared_count : (d : ℕ) → IsCount lines cores T S' d (slice_index (counted (with_store t e line) limit e).counts d)
    shared_count d = elim (cases_eq d e) [
      | inl same ↦ subst (λ n. IsCount lines cores T S' n (slice_index (counted (with_store t e line) limit e).counts n)) (sym same)
          (subst (λ n. IsCount lines cores T S' e n) (sym (counted_here (with_store t e line) limit e inside.counts)) (count_here (x.counts e)))
      | inr other ↦ subst (λ n. IsCount lines cores T S' d n) (sym (counted_other (with_store t e line) limit e inside.counts d other)) (other_count d other)
    ]

    shared_store : AreShares lines cores limit (e + 1) T S' (counted (with_store t e line) limit e)
    shared_store = record {
      last = x.last;
      before = x.before;
      stored = store_all;
      stores_so = stores_all;
      low = x.low;
      touched = touched_all;
      within = within_all;
      counts = shared_count;
      above = above_on (with_store t e line) limit e inside.counts x.above;
      most = most_on (with_store t e line) limit e inside.counts x.most;
    }

  pub shares_stored : AreShares lines cores limit (e + 1) T S' (after_store t limit cores e line)
  shares_stored = by_stored (slice_index t.stored line == e + 1) refl
    where
      by_near : (b : Bool) → nat_lt (first_beside cores e) (slice_index t.two.before line) ≡ b
          → AreShares lines cores limit (e + 1) T S' (cond b (counted (with_store t e line) limit e) (with_store t e line))
      by_near true is = shared_store (ltb-true _ _ is)
      by_near false is = unshared_store (elim (cases_lt (first_beside cores e) (slice_index t.two.before line)) [
        | inl less ↦ absurd (both_ways _ is (lt-ltb _ _ less))
        | inr most ↦ most
      ])

      by_stored : (b : Bool) → (slice_index t.stored line == e + 1) ≡ b
          → AreShares lines cores limit (e + 1) T S' (cond b t (cond (nat_lt (first_beside cores e) (slice_index t.two.before line)) (counted (with_store t e line) limit e) (with_store t e line)))
      by_stored true is = absurd (fresh (eqb-true _ _ is))
      by_stored false is = by_near (nat_lt (first_beside cores e) (slice_index t.two.before line)) refl

-- ---- what they change of the lists

module _ (t : Touched) (limit cores e line : ℕ) (inside : IsInside t e line) where
  count_two : (b : Bool) (d : ℕ) → (cond b (counted t limit d) t).two ≡ t.two
  count_two true d = refl
  count_two false d = refl

  count_stored : (b : Bool) (d : ℕ) → (cond b (counted t limit d) t).stored ≡ t.stored
  count_stored true d = refl
  count_stored false d = refl

  count_long : (b : Bool) (d : ℕ) → length (cond b (counted t limit d) t).counts ≡ length t.counts
  count_long true d = length-set t.counts d (slice_index t.counts d + 1)
  count_long false d = refl

  -- a touch leaves the lists as they are, or notes the epoch, perhaps with a count more
  touch_by : (P : Touched → Type 0) → (slice_index t.two.last line ≡ e + 1 → P t)
      → ((c : Touched) → c.two ≡ t.two → c.stored ≡ t.stored → length c.counts ≡ length t.counts → P (with_toucher c e line)) → P (after_touch t limit cores e line)
  touch_by P still now = by_last (slice_index t.two.last line == e + 1) refl
    where
      by_last : (b : Bool) → (slice_index t.two.last line == e + 1) ≡ b
          → P (cond b t (with_toucher (cond (is_shared_now t cores e line) (counted t limit (slice_index t.two.last line - 1)) t) e line))
      by_last true is = still (eqb-true _ _ is)
      by_last false is =
          now (cond (is_shared_now t cores e line) (counted t limit (slice_index t.two.last line - 1)) t) (count_two (is_shared_now t cores e line) _)
          (count_stored (is_shared_now t cores e line) _) (count_long (is_shared_now t cores e line) _)

  pub touch_last : slice_index (after_touch t limit cores e line).two.last line ≡ e + 1
  touch_last =
      touch_by (λ u. slice_index u.two.last line ≡ e + 1) (λ is. is)
      (λ c two stored long. subst (λ s. slice_index (followed s e line).last line ≡ e + 1) (sym two) (get_or-set_same t.two.last line (e + 1) 0 inside.last))

  pub touch_others : (l : ℕ) → l ≢ line → slice_index (after_touch t limit cores e line).two.last l ≡ slice_index t.two.last l
  touch_others l other =
      touch_by (λ u. slice_index u.two.last l ≡ slice_index t.two.last l) (λ is. refl)
      (λ c two stored long. subst (λ s. slice_index (followed s e line).last l ≡ slice_index t.two.last l) (sym two) (get_or-set_other t.two.last line l (e + 1) 0 other))

  pub touch_stored : (after_touch t limit cores e line).stored ≡ t.stored
  touch_stored = touch_by (λ u. u.stored ≡ t.stored) (λ is. refl) (λ c two stored long. stored)

  pub touch_last_long : length (after_touch t limit cores e line).two.last ≡ length t.two.last
  touch_last_long =
      touch_by (λ u. length u.two.last ≡ length t.two.last) (λ is. refl)
      (λ c two stored long. subst (λ s. length (followed s e line).last ≡ length t.two.last) (sym two) (length-set t.two.last line (e + 1)))

  pub touch_before_long : length (after_touch t limit cores e line).two.before ≡ length t.two.before
  touch_before_long =
      touch_by (λ u. length u.two.before ≡ length t.two.before) (λ is. refl)
      (λ c two stored long. subst (λ s. length (followed s e line).before ≡ length t.two.before) (sym two) (length-set t.two.before line (slice_index t.two.last line)))

  pub touch_counts_long : length (after_touch t limit cores e line).counts ≡ length t.counts
  touch_counts_long = touch_by (λ u. length u.counts ≡ length t.counts) (λ is. refl) (λ c two stored long. long)

  pub touch_again : slice_index t.two.last line ≡ e + 1 → after_touch t limit cores e line ≡ t
  touch_again is = ap (λ b. cond b t (with_toucher (cond (is_shared_now t cores e line) (counted t limit (slice_index t.two.last line - 1)) t) e line)) (eq-eqb _ _ is)

  -- so does a store, which leaves who touched the lines
  store_by : (P : Touched → Type 0) → (slice_index t.stored line ≡ e + 1 → P t)
      → ((c : Touched) → c.two ≡ t.two → c.stored ≡ set t.stored line (e + 1) → length c.counts ≡ length t.counts → P c) → P (after_store t limit cores e line)
  store_by P still now = by_stored (slice_index t.stored line == e + 1) refl
    where
      by_near : (b : Bool) → P (cond b (counted (with_store t e line) limit e) (with_store t e line))
      by_near true = now (counted (with_store t e line) limit e) refl refl (length-set t.counts e (slice_index t.counts e + 1))
      by_near false = now (with_store t e line) refl refl refl

      by_stored : (b : Bool) → (slice_index t.stored line == e + 1) ≡ b
          → P (cond b t (cond (nat_lt (first_beside cores e) (slice_index t.two.before line)) (counted (with_store t e line) limit e) (with_store t e line)))
      by_stored true is = still (eqb-true _ _ is)
      by_stored false is = by_near (nat_lt (first_beside cores e) (slice_index t.two.before line))

  pub store_here : slice_index (after_store t limit cores e line).stored line ≡ e + 1
  store_here =
      store_by (λ u. slice_index u.stored line ≡ e + 1) (λ is. is)
      (λ c two stored long. subst (λ s. slice_index s line ≡ e + 1) (sym stored) (get_or-set_same t.stored line (e + 1) 0 inside.stored))

  pub store_others : (l : ℕ) → l ≢ line → slice_index (after_store t limit cores e line).stored l ≡ slice_index t.stored l
  store_others l other =
      store_by (λ u. slice_index u.stored l ≡ slice_index t.stored l) (λ is. refl)
      (λ c two stored long. subst (λ s. slice_index s l ≡ slice_index t.stored l) (sym stored) (get_or-set_other t.stored line l (e + 1) 0 other))

  pub store_two : (after_store t limit cores e line).two ≡ t.two
  store_two = store_by (λ u. u.two ≡ t.two) (λ is. refl) (λ c two stored long. two)

  pub store_long : length (after_store t limit cores e line).stored ≡ length t.stored
  store_long =
      store_by (λ u. length u.stored ≡ length t.stored) (λ is. refl)
      (λ c two stored long. ap length stored ∙ length-set t.stored line (e + 1))

  pub store_counts_long : length (after_store t limit cores e line).counts ≡ length t.counts
  store_counts_long = store_by (λ u. length u.counts ≡ length t.counts) (λ is. refl) (λ c two stored long. long)

  pub store_again : slice_index t.stored line ≡ e + 1 → after_store t limit cores e line ≡ t
  store_again is =
      ap (λ b. cond b t (cond (nat_lt (first_beside cores e) (slice_index t.two.before line)) (counted (with_store t e line) limit e) (with_store t e line))) (eq-eqb _ _ is)
