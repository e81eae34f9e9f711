-- Lines, and the list of the places whose lines may carry marks.
use Rattle.std.proofs.Common.{◌≡◌, ℕ, ◌<◌, ◌≤◌, Bool, true, false, true≢false, List, [], ◌++◌, All, Contains, map, replicate, length, set, take, inl, inr, refl, sym, ap, subst, ◌∙◌, arith, get_or-set_same, get_or-set_other, length-set}
use Rattle.std.proofs.Math.Seq.{take-append_seam}
use Rattle.std.proofs.lemmas.Bool.{cases_eq, cases_lt}
use Rattle.std.proofs.lemmas.List.{get_or_past, length-map, length-replicate}
use Rattle.std.proofs.lemmas.List.Elements.{All-map, All-replicate}
use Rattle.cache_lines.specs.declared.line.Line.{Line}
use Rattle.cache_lines.specs.Lines.{invalid_line}
use Rattle.cache_lines.specs.Noted.{HasMarked, IsList, IsNoted, is_plain, line_at}
use Rattle.cache_lines.proofs.ListLaws.{list_none, unlisted}
use Rattle.cache_lines.proofs.Plain.{MakesPlain}

-- what a call leaves of a list, where it changes a slice of the whole
pub whole : {X : Type 0} (n : ℕ) (xs ys : List X) → length xs ≡ n → take n (xs ++ ys) ≡ xs
whole n xs ys e = rw (← e) (take-append_seam xs ys)

plain-invalid_line : is_plain invalid_line ≡ true
unfolding invalid_line
plain-invalid_line = refl

-- where each line is plain the list may be any
marked-plain : (lines : List Line) (places : List ℕ) → All (λ line. is_plain line ≡ true) lines → HasMarked lines places
unfolding HasMarked
marked-plain lines places plain place mark = elim (cases_lt place (length lines)) [
  | inl within ↦ absurd (true≢false (sym (plain place invalid_line within) ∙ mark))
  | inr past ↦ absurd (true≢false (sym (ap is_plain (get_or_past lines place invalid_line past) ∙ plain-invalid_line) ∙ mark))
]

-- the same plain line in each place, and no place in the list
pub noted-replicate : (n capacity : ℕ) (line : Line) → is_plain line ≡ true → n ≤ capacity → IsNoted (replicate n line) [] (replicate n false) capacity
noted-replicate n capacity line plain room =
    record {
      list = list_none (replicate n false) (unlisted n);
      flags = length-replicate n false ∙ sym (length-replicate n line);
      room = omega (arith, room, length-replicate n line);
      marked = marked-plain (replicate n line) [] (All-replicate (λ l. is_plain l ≡ true) n line plain);
    }

-- a line is put into a place, which the list has now, unless the line is plain
pub noted-set : (lines : List Line) (places places' : List ℕ) (listed listed' : List Bool) (capacity place : ℕ) (line : Line) → place < length lines → IsNoted lines places listed capacity
    → IsList places' listed' → length listed' ≡ length listed → (is_plain line ≡ false → Contains places' place) → ((other : ℕ) → Contains places other → Contains places' other)
    → IsNoted (set lines place line) places' listed' capacity
unfolding HasMarked
noted-set lines places places' listed listed' capacity place line within was list flags there kept =
    record {
      list = list;
      flags = flags ∙ (was.flags ∙ sym (length-set lines place line));
      room = omega (arith, was.room, length-set lines place line);
      marked = λ other mark. elim (cases_eq other place) [
        | inl e ↦ subst (λ p. Contains places' p) (sym e) (there (sym (ap (λ p. is_plain (line_at (set lines place line) p)) e ∙ ap is_plain (get_or-set_same lines place line invalid_line within)) ∙ mark))
        | inr apart ↦ kept other (was.marked other (ap is_plain (sym (get_or-set_other lines place other line invalid_line apart)) ∙ mark))
      ];
    }

-- each line is made plain, and the list is empty
pub noted-map : (change : Line → Line) → MakesPlain change → (lines : List Line) (places : List ℕ) (listed listed' : List Bool) (capacity : ℕ) → IsNoted lines places listed capacity
    → IsList [] listed' → length listed' ≡ length listed → IsNoted (map change lines) [] listed' capacity
noted-map change makes lines places listed listed' capacity was list flags =
    record {
      list = list;
      flags = flags ∙ (was.flags ∙ sym (length-map lines change));
      room = omega (arith, was.room, length-map lines change);
      marked = marked-plain (map change lines) [] (All-map (λ line. is_plain line ≡ true) change lines (λ place d within. makes.plain _));
    }
