-- The walks over the listed places.
use Rattle.std.proofs.Common.{◌≡◌, ◌≢◌, ℕ, ◌+◌, ◌<◌, ◌≤◌, false, true≢false, List, Contains, map, length, get_or, set, slice_index, inl, inr, refl, sym, ap, ◌∙◌, arith, get_or-set_same, get_or-set_other, length-set}
use Rattle.std.proofs.lemmas.Bool.{cases_eq, true_from_ne_false}
use Rattle.std.proofs.lemmas.List.{get_or-map, get_or_default, length-map, same_lists}
use Rattle.cache_lines.specs.declared.line.Line.{Line}
use Rattle.cache_lines.specs.Lines.{invalid_line}
use Rattle.cache_lines.specs.Noted.{HasMarked, is_plain, line_at}
use Rattle.cache_lines.proofs.Plain.{MakesPlain}

-- the place stands in the list from this index on
abbrev pub IsLeft : List ℕ → ℕ → ℕ → Type 0
IsLeft places i place = (j : ℕ) × (i ≤ j) × (j < length places) × (slice_index places j ≡ place)

-- at the first index: each place of the list
pub left_start : (places : List ℕ) (place : ℕ) → Contains places place → IsLeft places 0 place
left_start places place has = (has.0, omega arith, has.1, get_or_default places has.0 0 place has.1 ∙ has.2)

-- at the next index: any other than the one at this index
pub left_more : (places : List ℕ) (i place : ℕ) → place ≢ slice_index places i → IsLeft places i place → IsLeft places (i + 1) place
left_more places i place other left = elim (cases_eq left.0 i) [
  | inl e ↦ absurd (other (sym left.3 ∙ ap (slice_index places) e))
  | inr apart ↦ (left.0, omega (arith, left.1, apart), left.2, left.3)
]

-- at the end: none
pub none_left : (places : List ℕ) (i place : ℕ) → length places ≤ i → IsLeft places i place → ⊥
none_left places i place past left = omega (arith, left.1, left.2, past)

-- the lines in the first places are changed, and those that aren't plain are left
pub record IsUnderWay (change : Line → Line) (old lines : List Line) (places : List ℕ) (i : ℕ) : Type 0 where
  pub size : length lines ≡ length old
  pub same : (place : ℕ) → change (line_at lines place) ≡ change (line_at old place)
  pub left : (place : ℕ) → is_plain (line_at lines place) ≡ false → IsLeft places i place

-- before the first place
pub walk_start : (change : Line → Line) (lines : List Line) (places : List ℕ) → HasMarked lines places → IsUnderWay change lines lines places 0
unfolding HasMarked
walk_start change lines places marked =
    record { size = refl; same = λ place. refl; left = λ place mark. left_start places place (marked place mark) }

-- the line in one more place is changed
pub walk_more : (change : Line → Line) → MakesPlain change → (old lines : List Line) (places : List ℕ) (i : ℕ) (d : Line)
    → slice_index places i < length lines → IsUnderWay change old lines places i
    → IsUnderWay change old (set lines (slice_index places i) (change (get_or lines (slice_index places i) d))) places (i + 1)
walk_more change makes old lines places i d within was =
    record {
      size = length-set lines at new ∙ was.size;
      same = λ place. elim (cases_eq place at) [
        | inl e ↦ ap (λ p. change (line_at (set lines at new) p)) e
            ∙ (ap change here ∙ (makes.keeps new (makes.plain _) ∙ (ap change from ∙ (was.same at ∙ ap (λ p. change (line_at old p)) (sym e)))))
        | inr other ↦ ap change (there place other) ∙ was.same place
      ];
      left = λ place mark. elim (cases_eq place at) [
        | inl e ↦ absurd (true≢false (sym (ap is_plain (ap (line_at (set lines at new)) e ∙ here) ∙ makes.plain _) ∙ mark))
        | inr other ↦ left_more places i place other (was.left place (ap is_plain (sym (there place other)) ∙ mark))
      ];
    }
  where
    at : ℕ
    at = slice_index places i

    new : Line
    new = change (get_or lines at d)

    from : get_or lines at d ≡ line_at lines at
    from = get_or_default lines at d invalid_line within

    here : line_at (set lines at new) at ≡ new
    here = get_or-set_same lines at new invalid_line within

    there : (place : ℕ) → place ≢ at → line_at (set lines at new) place ≡ line_at lines place
    there place other = get_or-set_other lines at place new invalid_line other

-- at the end every line is changed
pub walk_end : (change : Line → Line) → MakesPlain change → (old lines : List Line) (places : List ℕ) (i : ℕ) → length places ≤ i
    → IsUnderWay change old lines places i → lines ≡ map change old
walk_end change makes old lines places i past was =
    same_lists lines (map change old) (was.size ∙ sym (length-map old change)) (λ place d within.
    let in_old : place < length old = omega (arith, within, was.size) in
    let plain = true_from_ne_false (is_plain (line_at lines place)) (λ mark. none_left places i place past (was.left place mark)) in
    get_or_default lines place d invalid_line within
    ∙ (sym (makes.keeps (line_at lines place) plain) ∙ (was.same place ∙ sym (get_or-map change old place invalid_line d in_old))))
