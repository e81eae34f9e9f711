-- The list of places, and its flags.
use Rattle.std.proofs.Common.{◌≡◌, ℕ, ◌+◌, ◌<◌, ◌≤◌, Bool, true, false, true≢false, cond, List, [], ◌∷◌, ◌++◌, Contains, replicate, length, get_or, set, slice_index, inl, inr, refl, sym, ap, subst, ◌∙◌, arith, get_or-set_same, get_or-set_other, length-set}
use Rattle.std.specs.List.{count_by}
use Rattle.std.proofs.lemmas.Bool.{cases_eq, cases_lt, false_from_ne_true}
use Rattle.std.proofs.lemmas.List.{get_or_default, get_or_past, get_or-replicate, length-replicate, length_push}
use Rattle.std.proofs.lemmas.List.Elements.{All-nil, All-push, Contains-append_left, Contains-push}
use Rattle.std.proofs.lemmas.List.Sums.{count_by-le-length, sum_by-le, sum_by-set}
use Rattle.cache_lines.specs.Noted.{IsList, is_listed}
use Rattle.cache_lines.proofs.Walks.{IsLeft, left_more, none_left}

abbrev count_of : List Bool → ℕ
count_of listed = count_by (λ flag. flag) listed

-- ---- an empty list

-- no flag is set
none_counted : (listed : List Bool) → ((place : ℕ) → is_listed listed place ≡ false) → count_of listed ≡ 0
none_counted listed none =
    let most = sum_by-le (λ flag. cond flag 1 0) 0 listed (λ place d within. zero_by (get_or listed place d) (get_or_default listed place d false within ∙ none place)) in
    omega (arith, most)
  where
    zero_by : (flag : Bool) → flag ≡ false → cond flag 1 0 ≤ 0
    zero_by flag e = rw e (omega arith)

-- so no place is in the list
pub list_none : (listed : List Bool) → ((place : ℕ) → is_listed listed place ≡ false) → IsList [] listed
list_none listed none =
    record {
      within = All-nil (λ place. place < length listed);
      each = λ place is. absurd (true≢false (sym is ∙ none place));
      count = sym (none_counted listed none);
    }

-- no place has a flag at first
pub unlisted : (n place : ℕ) → is_listed (replicate n false) place ≡ false
unlisted n place = elim (cases_lt place n) [
  | inl within ↦ get_or-replicate n place false false within
  | inr past ↦ get_or_past (replicate n false) place false (omega (arith, past, length-replicate n false))
]

-- ---- one place more

-- what a flag more counts
counted_more : (listed : List Bool) (place : ℕ) → place < length listed → is_listed listed place ≡ false → count_of (set listed place true) ≡ count_of listed + 1
counted_more listed place within none =
    let sums = sum_by-set (λ flag. cond flag 1 0) listed place true false within in
    let one : ℕ = 1 in
    let zero : cond (is_listed listed place) one 0 ≡ 0 = rw none refl in
    omega (arith, sums, zero)

-- there is room for a place that isn't in the list
pub list_room : (places : List ℕ) (listed : List Bool) (place : ℕ) → place < length listed → is_listed listed place ≡ false → IsList places listed
    → length places < length listed
list_room places listed place within none is =
    omega (arith, is.count, counted_more listed place within none, count_by-le-length (λ flag. flag) (set listed place true), length-set listed place true)

-- the place comes into the list
pub list_more : (places : List ℕ) (listed : List Bool) (place : ℕ) → place < length listed → is_listed listed place ≡ false → IsList places listed
    → IsList (places ++ place ∷ []) (set listed place true)
list_more places listed place within none is =
    record {
      within = rw (length-set listed place true) (All-push (λ p. p < length listed) places place is.within within);
      each = λ other flag. elim (cases_eq other place) [
        | inl e ↦ subst (λ p. Contains (places ++ place ∷ []) p) (sym e) (Contains-push places place)
        | inr apart ↦ Contains-append_left places (place ∷ []) other (is.each other (sym (get_or-set_other listed place other true false apart) ∙ flag))
      ];
      count = length_push places place ∙ (ap (λ n. n + 1) is.count ∙ sym (counted_more listed place within none));
    }

-- ---- all places are taken out

-- the flags that are set are of places that are left
pub record IsUnlisting (old listed : List Bool) (places : List ℕ) (i : ℕ) : Type 0 where
  pub size : length listed ≡ length old
  pub left : (place : ℕ) → is_listed listed place ≡ true → IsLeft places i place

-- the flag of one more place is taken away
pub unlist_more : (old listed : List Bool) (places : List ℕ) (i : ℕ) → slice_index places i < length listed → IsUnlisting old listed places i
    → IsUnlisting old (set listed (slice_index places i) false) places (i + 1)
unlist_more old listed places i within was =
    record {
      size = length-set listed (slice_index places i) false ∙ was.size;
      left = λ place flag. elim (cases_eq place (slice_index places i)) [
        | inl e ↦ absurd (true≢false (sym flag ∙ (ap (is_listed (set listed (slice_index places i) false)) e ∙ get_or-set_same listed (slice_index places i) false false within)))
        | inr apart ↦ left_more places i place apart (was.left place (sym (get_or-set_other listed (slice_index places i) place false false apart) ∙ flag))
      ];
    }

-- at the end no flag is set
pub unlist_end : (old listed : List Bool) (places : List ℕ) (i : ℕ) → length places ≤ i → IsUnlisting old listed places i → IsList [] listed
unlist_end old listed places i past was =
    list_none listed (λ place. false_from_ne_true (is_listed listed place) (λ flag. none_left places i place past (was.left place flag)))
