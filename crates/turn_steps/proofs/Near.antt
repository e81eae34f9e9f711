-- Bytes of one line lie near one another, also those that lie apart.
use Rattle.std.proofs.Common.{◌≡◌, ℕ, ◌+◌, ◌-◌, ◌*◌, ◌/◌, ◌%◌, ◌<◌, ◌≤◌, ◌&&◌, nat_le, nat_lt, Bool, true, false, inl, inr, Option, Some, None, refl, sym, ap, subst, ◌∙◌, arith}
use Rattle.std.proofs.Math.Nat.{mod-lt}
use Rattle.std.proofs.lemmas.Bool.Decides.{nat_tests}
use Rattle.std.proofs.lemmas.Nat.{div-add-mod'}
use Rattle.memory_bytes.proofs.SmallFacts.{none_or_some}
use Rattle.rv32_image.specs.declared.apart.Apart.{Apart}
use Rattle.rv32_image.specs.declared.machine.Machine.{Machine}
use Rattle.rv32_image.specs.Machine.{IsMachineFor, is_line_length}
use Rattle.rv32_image.specs.Places.{FitsApart, behind, lies_apart, place, place_with}
use Rattle.rv32_image.proofs.Bounds.{by_length, number_below, number_up, behind_line}
use Rattle.rv32_image.proofs.Places.{place-apart, place-inside, place-none, place-past, place-stays, places-whole}
use Rattle.turn_steps.specs.Caches.{LiesIn, first_row}

-- ---- numbers of lines

close : (n a b : ℕ) → is_line_length n ≡ true → a / n ≡ b / n → a < b + 64
close n a b is = by_length (λ n. a / n ≡ b / n → a < b + 64) n is (λ same. omega arith) (λ same. omega arith) (λ same. omega arith)

close_past : (n a b k : ℕ) → is_line_length n ≡ true → (a + k * n) / n ≡ (b + k * n) / n → a < b + 64
close_past n a b k is =
    by_length (λ n. (a + k * n) / n ≡ (b + k * n) / n → a < b + 64) n is (λ same. omega arith) (λ same. omega arith) (λ same. omega arith)

-- a line has at most 64 bytes
pub short : (n : ℕ) → is_line_length n ≡ true → n ≤ 64
short n is = by_length (λ n. n ≤ 64) n is (omega arith) (omega arith) (omega arith)

-- ---- places

-- a byte that lies apart
at_apart : (machine : Machine) (apart : Apart) (size a : ℕ) → machine.apart ≡ Some apart → lies_apart apart a ≡ true
    → place machine size a ≡ size + ((a - apart.first) / apart.piece * machine.line_length + (a - apart.first) % apart.piece)
at_apart machine apart size a is e = place-apart machine apart size a is ∙ (rw e refl)

at_past : (machine : Machine) (apart : Apart) (size a : ℕ) → machine.apart ≡ Some apart → lies_apart apart a ≡ false → size ≤ a
    → place machine size a ≡ a + behind apart machine.line_length
at_past machine apart size a is e le =
    let f : nat_lt a size ≡ false = grind (arith, nat_tests) in place-apart machine apart size a is ∙ (rw (e, f) refl)

close_pieces : (apart : Apart) (n size a b : ℕ) → FitsApart size n apart → is_line_length n ≡ true → size % n ≡ 0 → apart.first ≤ a → apart.first ≤ b
    → (size + ((a - apart.first) / apart.piece * n + (a - apart.first) % apart.piece)) / n ≡ (size + ((b - apart.first) / apart.piece * n + (b - apart.first) % apart.piece)) / n
    → a < b + 64
close_pieces apart n size a b fits is whole first_a first_b same =
    let x : ℕ = a - apart.first in
    let y : ℕ = b - apart.first in
    let rest_x : x % apart.piece < apart.piece = mod-lt x fits.some_piece in
    let rest_y : y % apart.piece < apart.piece = mod-lt y fits.some_piece in
    let number_x = behind_line n size (x / apart.piece) (x % apart.piece) is whole (omega (arith, rest_x, fits.short_piece)) in
    let number_y = behind_line n size (y / apart.piece) (y % apart.piece) is whole (omega (arith, rest_y, fits.short_piece)) in
    let one : x / apart.piece ≡ y / apart.piece = omega (arith, number_x, number_y, same) in
    let piece : x / apart.piece * apart.piece ≡ y / apart.piece * apart.piece = ap (λ q. q * apart.piece) one in
    let all_x = div-add-mod' x apart.piece in
    let all_y = div-add-mod' y apart.piece in
    omega (arith, piece, all_x, all_y, rest_x, fits.short_piece, short n is)

module _ (machine : Machine) (size : ℕ) (fits : IsMachineFor size machine) where
  abbrev n : ℕ
  n = machine.line_length

  abbrev at : ℕ → ℕ
  at a = place machine size a

  -- bytes of memory share no line with others
  not_past : (a b : ℕ) → a < size → size ≤ b → at a / n ≡ at b / n → ⊥
  not_past a b lt le same =
      let low = number_below n (at a) (at size) fits.is.line_length (place-inside machine size a fits lt) (places-whole machine size fits) in
      let high = number_up n (at size) (at b) (place-past machine size b fits le) in
      omega (arith, low, high, same)

  module _ (apart : Apart) (is : machine.apart ≡ Some apart) where
    abbrev f : FitsApart size machine.line_length apart
    f = fits.apart apart is

    -- nor do those that lie apart with others
    not_behind : (a b : ℕ) → lies_apart apart a ≡ true → lies_apart apart b ≡ false → b < size → at a / n ≡ at b / n → ⊥
    not_behind a b e g lt same =
        let stays = place-stays machine apart size b is g lt in
        let there = at_apart machine apart size a is e in
        let low = number_below n b size fits.is.line_length lt fits.whole_lines in
        let high = number_up n size (at a) (omega (arith, there)) in
        omega (arith, low, high, same, ap (λ p. p / n) stays)

    past : (a : ℕ) → size ≤ a → at a ≡ a + behind apart n
    past a le = let f : lies_apart apart a ≡ false = grind (arith, nat_tests, f.within) in at_past machine apart size a is f le

    near_below : (a b : ℕ) (c d : Bool) → lies_apart apart a ≡ c → lies_apart apart b ≡ d → a < size → b < size → at a / n ≡ at b / n → a < b + 64
    near_below a b true true e g lt_a lt_b same =
        let here = at_apart machine apart size a is e in
        let there = at_apart machine apart size b is g in
        close_pieces apart n size a b f fits.is.line_length fits.whole_lines (grind (arith, nat_tests)) (grind (arith, nat_tests))
        (sym (ap (λ p. p / n) here) ∙ (same ∙ ap (λ p. p / n) there))
    near_below a b true false e g lt_a lt_b same = absurd (not_behind a b e g lt_b same)
    near_below a b false true e g lt_a lt_b same = absurd (not_behind b a g e lt_a (sym same))
    near_below a b false false e g lt_a lt_b same =
        close n a b fits.is.line_length
        (sym (ap (λ p. p / n) (place-stays machine apart size a is e lt_a)) ∙ (same ∙ ap (λ p. p / n) (place-stays machine apart size b is g lt_b)))

    near_apart : (a b : ℕ) (c d : Bool) → nat_lt a size ≡ c → nat_lt b size ≡ d → at a / n ≡ at b / n → a < b + 64
    near_apart a b true true e g same = near_below a b (lies_apart apart a) (lies_apart apart b) refl refl (grind (arith, nat_tests)) (grind (arith, nat_tests)) same
    near_apart a b true false e g same = absurd (not_past a b (grind (arith, nat_tests)) (grind (arith, nat_tests)) same)
    near_apart a b false true e g same = absurd (not_past b a (grind (arith, nat_tests)) (grind (arith, nat_tests)) (sym same))
    near_apart a b false false e g same =
        close_past n a b ((apart.length - 1) / apart.piece + 1) fits.is.line_length
        (sym (ap (λ p. p / n) (past a (grind (arith, nat_tests)))) ∙ (same ∙ ap (λ p. p / n) (past b (grind (arith, nat_tests)))))

  -- bytes of one line are less than 64 apart
  pub near : (a b : ℕ) → at a / n ≡ at b / n → a < b + 64
  near a b same =
      elim (none_or_some machine.apart) [
        | inl none ↦
            close n a b fits.is.line_length
            (sym (ap (λ p. p / n) (place-none machine size a none)) ∙ (same ∙ ap (λ p. p / n) (place-none machine size b none)))
        | inr x ↦ near_apart x.0 x.1 a b (nat_lt a size) (nat_lt b size) refl refl same
      ]

-- ---- the first row of a line

from_line : (n p a line : ℕ) → is_line_length n ≡ true → p ≡ a → n * (p / n) ≡ line → (line / 16 ≤ a / 16) × (a / 16 ≤ line / 16 + 4) × (line ≤ a)
from_line n p a line is at =
    by_length (λ n. n * (p / n) ≡ line → (line / 16 ≤ a / 16) × (a / 16 ≤ line / 16 + 4) × (line ≤ a)) n is
    (λ l. (omega arith, omega arith, omega arith)) (λ l. (omega arith, omega arith, omega arith)) (λ l. (omega arith, omega arith, omega arith))

from_behind : (n size p q r line : ℕ) → is_line_length n ≡ true → size % n ≡ 0 → r < n → p ≡ size + (q * n + r) → n * (p / n) ≡ line → (size ≤ line) × ((line - size) / n ≡ q)
from_behind n size p q r line is =
    by_length (λ n. size % n ≡ 0 → r < n → p ≡ size + (q * n + r) → n * (p / n) ≡ line → (size ≤ line) × ((line - size) / n ≡ q)) n is
    (λ w b at l. (omega arith, omega arith)) (λ w b at l. (omega arith, omega arith)) (λ w b at l. (omega arith, omega arith))

module _ (machine : Machine) (size line : ℕ) (fits : IsMachineFor size machine) where
  InRows : ℕ → ℕ → Type 0
  InRows row a = (row ≤ a / 16) × (a / 16 ≤ row + 4)

  of_none : machine.apart ≡ None → (a : ℕ) → LiesIn machine size a line → InRows (first_row None size machine.line_length line) a
  unfolding InRows
  of_none none a lies =
      let found = from_line machine.line_length (place machine size a) a line fits.is.line_length (place-none machine size a none) lies in (found.0, found.1)

  of_some : (apart : Apart) → machine.apart ≡ Some apart → (a : ℕ) → a < size → LiesIn machine size a line → (b : Bool) → lies_apart apart a ≡ b
      → InRows (first_row (Some apart) size machine.line_length line) a
  unfolding InRows
  of_some apart is a lt lies true e =
      let f = fits.apart apart is in
      let x : ℕ = a - apart.first in
      let rest : x % apart.piece < apart.piece = mod-lt x f.some_piece in
      let found = from_behind machine.line_length size (place machine size a) (x / apart.piece) (x % apart.piece) line fits.is.line_length fits.whole_lines
      (omega (arith, rest, f.short_piece)) (at_apart machine apart size a is e) lies in
      let above : nat_le size line ≡ true = let le = found.0 in grind (arith, nat_tests) in
      let all = div-add-mod' x apart.piece in
      let from : apart.first ≤ a = grind (arith, nat_tests) in
      let piece : (line - size) / machine.line_length * apart.piece ≡ x / apart.piece * apart.piece = ap (λ q. q * apart.piece) found.1 in
      rw above (omega (arith, piece, all, rest, from, f.short_piece, short machine.line_length fits.is.line_length), omega (arith, piece, all, rest, from, f.short_piece, short machine.line_length fits.is.line_length))
  of_some apart is a lt lies false e =
      let found = from_line machine.line_length (place machine size a) a line fits.is.line_length (place-stays machine apart size a is e lt) lies in
      let below : nat_le size line ≡ false = let le = found.2 in grind (arith, nat_tests) in
      rw below (found.0, found.1)

  -- a byte of the line lies in its first row, or in one of the four behind it
  pub in_first_rows : (a : ℕ) → a < size → LiesIn machine size a line
      → (first_row machine.apart size machine.line_length line ≤ a / 16) × (a / 16 ≤ first_row machine.apart size machine.line_length line + 4)
  unfolding InRows
  in_first_rows a lt lies =
      elim (none_or_some machine.apart) [
        | inl none ↦ subst (λ (o : Option Apart). InRows (first_row o size machine.line_length line) a) (sym none) (of_none none a lies)
        | inr x ↦ subst (λ (o : Option Apart). InRows (first_row o size machine.line_length line) a) (sym x.1) (of_some x.0 x.1 a lt lies (lies_apart x.0 a) refl)
      ]
