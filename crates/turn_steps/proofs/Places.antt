-- How the lines of text of a cache go on.
use Rattle.std.proofs.Common.{◌≡◌, ℕ, zero, suc, ◌+◌, ◌<◌, ◌≤◌, List, ◌++◌, Option, length, map, take, slice_index, refl, ap, sym, subst, ◌∙◌, arith, add-one, append_assoc}
use Rattle.std.proofs.lemmas.List.{append-nil, length-take-le, get_or-take}
use Rattle.std.proofs.lemmas.List.FromFn.{fill_by_all}
use Rattle.std.specs.List.{range_with_len}
use Rattle.rv32_image.specs.declared.machine.Machine.{Machine}
use Rattle.cache_lines.specs.declared.line.Line.{Line}
use Rattle.turn_steps.specs.Caches.{standing}
use Rattle.turn_steps.specs.Places.{Standing, changed, way_changes, way_line}
use Rattle.turn_steps.proofs.Changes.{changed-same}

pub way_changes-none : (text : List ℕ) (machine : Machine) (core : ℕ) (old now : ℕ → Option Standing) → text ≡ text ++ way_changes machine core old now 0
unfolding way_changes
way_changes-none text machine core old now = sym (append-nil text)

-- what the place adds
abbrev pub change_at : Machine → ℕ → (ℕ → Option Standing) → (ℕ → Option Standing) → ℕ → List ℕ
change_at machine core old now place = changed (way_line machine core place (old place)) (way_line machine core place (now place))

more : (machine : Machine) (core : ℕ) (old now : ℕ → Option Standing) (place : ℕ)
    → way_changes machine core old now (suc place) ≡ way_changes machine core old now place ++ change_at machine core old now place
unfolding way_changes
more machine core old now place = refl

pub way_changes-more : (text : List ℕ) (machine : Machine) (core : ℕ) (old now : ℕ → Option Standing) (place : ℕ)
    → (text ++ way_changes machine core old now place) ++ change_at machine core old now place ≡ text ++ way_changes machine core old now (place + 1)
way_changes-more text machine core old now place =
    append_assoc text (way_changes machine core old now place) (change_at machine core old now place)
    ∙ ap (λ l. text ++ l) (sym (more machine core old now place) ∙ sym (ap (way_changes machine core old now) (add-one place)))

-- the same stand in the first places
pub way_changes-same : (machine : Machine) (core : ℕ) (old now old' now' : ℕ → Option Standing) (count : ℕ)
    → ((place : ℕ) → place < count → old place ≡ old' place) → ((place : ℕ) → place < count → now place ≡ now' place)
    → way_changes machine core old now count ≡ way_changes machine core old' now' count
unfolding way_changes
way_changes-same machine core old now old' now' zero e f = refl
way_changes-same machine core old now old' now' (suc count) e f =
    rw (
      way_changes-same machine core old now old' now' count (λ place lt. e place (omega (arith, lt))) (λ place lt. f place (omega (arith, lt))),
      e count (omega arith),
      f count (omega arith),
    ) refl

-- the first bytes, one by one
pub first_cells : (cells : List ℕ) (n : ℕ) → n ≤ length cells → take n cells ≡ map (slice_index cells) (range_with_len 0 n)
first_cells cells n within = fill_by_all (slice_index cells) (take n cells) n 0 (length-take-le n cells within) (λ k lt. get_or-take n cells k 0 lt)

-- the line is the one that was there
pub unchanged : (text : List ℕ) (machine : Machine) (core place : ℕ) (old now : Line) → old ≡ now
    → text ≡ text ++ changed (way_line machine core place (standing old)) (way_line machine core place (standing now))
unchanged text machine core place old now same =
    subst (λ (l : Line). text ≡ text ++ changed (way_line machine core place (standing old)) (way_line machine core place (standing l))) same
    (changed-same text (way_line machine core place (standing old)))
