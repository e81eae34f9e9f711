-- The places of bytes: each has its own, a word stays whole, and the bytes of memory lie below the place of its end.
use Rattle.std.proofs.Common.{◌≡◌, ◌≢◌, ℕ, zero, suc, ◌+◌, ◌-◌, ◌*◌, ◌/◌, ◌%◌, ◌<◌, ◌≤◌, ◌==◌, ◌&&◌, nat_le, nat_lt, Bool, true, false, ◌⊎◌, inl, inr, add_assoc, Option, Some, None, refl, sym, ap, subst, ◌∙◌, arith}
use Rattle.std.proofs.Math.Nat.{div-le_self, mod-lt, mod-mod_of_dvd, mul-le-mul_right, add-mul}
use Rattle.std.proofs.lemmas.Bool.Decides.{nat_tests}
use Rattle.std.proofs.lemmas.Nat.{div-add-mod', div-mul-add, mod-mul-add}
use Rattle.std.proofs.lemmas.Nat.Gcd.{dvd_of_mod-eq-zero}
use Rattle.memory_bytes.specs.Bytes.{IsWidth}
use Rattle.memory_bytes.proofs.SmallFacts.{by_width, none_or_some, some_wide}
use Rattle.rv32_image.specs.declared.apart.Apart.{Apart}
use Rattle.rv32_image.specs.declared.machine.Machine.{Machine}
use Rattle.rv32_image.specs.Machine.{is_line_length, IsMachineFor}
use Rattle.rv32_image.specs.Places.{FitsApart, lies_apart, behind, place_with, place_by, place}
use Rattle.rv32_image.proofs.Bounds.{by_length, number_up}

-- ---- a piece

-- the place of byte x behind memory, by the length of pieces and of lines
abbrev laid : ℕ → ℕ → ℕ → ℕ
laid piece n x = x / piece * n + x % piece

split : (piece x y : ℕ) → x / piece ≡ y / piece → x % piece ≡ y % piece → x ≡ y
split piece x y e f = sym (div-add-mod' x piece) ∙ (ap (λ q. q * piece + x % piece) e ∙ (ap (λ r. y / piece * piece + r) f ∙ div-add-mod' y piece))

laid-one : (piece n x y : ℕ) → 1 ≤ piece → piece ≤ n → laid piece n x ≡ laid piece n y → x ≡ y
laid-one piece n x y some short same =
    let below_x : x % piece < piece = mod-lt x some in
    let below_y : y % piece < piece = mod-lt y some in
    let in_x : x % piece < n = omega arith in
    let in_y : y % piece < n = omega arith in
    split piece x y
    (sym (div-mul-add (x / piece) n (x % piece) in_x) ∙ (ap (λ p. p / n) same ∙ div-mul-add (y / piece) n (y % piece) in_y))
    (sym (mod-mul-add (x / piece) n (x % piece) in_x) ∙ (ap (λ p. p % n) same ∙ mod-mul-add (y / piece) n (y % piece) in_y))

laid-below : (piece n x length : ℕ) → 1 ≤ piece → piece ≤ n → x < length → laid piece n x < ((length - 1) / piece + 1) * n
laid-below piece n x length some short lt =
    let below_x : x % piece < piece = mod-lt x some in
    let up : x / piece ≤ (length - 1) / piece = number_up piece x (length - 1) (omega arith) in
    let long : (x / piece + 1) * n ≤ ((length - 1) / piece + 1) * n = mul-le-mul_right n (omega arith) in
    let one : (x / piece + 1) * n ≡ x / piece * n + n = add-mul (x / piece) 1 n ∙ ap (λ m. x / piece * n + m) (omega arith) in
    omega arith

-- its word stays whole
laid-next : (piece n x i : ℕ) → 1 ≤ piece → x % piece + i < piece → laid piece n (x + i) ≡ laid piece n x + i
laid-next piece n x i some inside =
    let at : x + i ≡ x / piece * piece + (x % piece + i) = omega (arith, div-add-mod' x piece) in
    let number : (x + i) / piece ≡ x / piece = ap (λ y. y / piece) at ∙ div-mul-add (x / piece) piece (x % piece + i) inside in
    let rest : (x + i) % piece ≡ x % piece + i = ap (λ y. y % piece) at ∙ mod-mul-add (x / piece) piece (x % piece + i) inside in
    ap (λ q. q * n + (x + i) % piece) number ∙ (ap (λ r. x / piece * n + r) rest ∙ sym (add_assoc (x / piece * n) (x % piece) i))

-- ---- words

-- a byte of the aligned access that lies in no other word
pub record InWord (width a i : ℕ) : Type 0 where
  pub wide : IsWidth width
  pub aligned : a % width ≡ 0
  pub inside : i < width

-- a bound that is a multiple of 4 lies on one side of the whole word
same_side : (bound width a i : ℕ) → bound % 4 ≡ 0 → InWord width a i → nat_lt (a + i) bound ≡ nat_lt a bound
same_side bound width a i whole w =
    by_width (λ n. a % n ≡ 0 → i < n → nat_lt (a + i) bound ≡ nat_lt a bound) width w.wide
    (λ al lt. grind (arith, nat_tests)) (λ al lt. grind (arith, nat_tests)) (λ al lt. grind (arith, nat_tests)) w.aligned w.inside

in_piece : (piece width x i : ℕ) → 1 ≤ piece → piece % 4 ≡ 0 → InWord width x i → x % piece + i < piece
in_piece piece width x i some whole w =
    let below_x : x % piece < piece = mod-lt x some in
    by_width (λ n. x % n ≡ 0 → i < n → x % piece + i < piece) width w.wide
    (λ al lt. omega arith)
    (λ al lt. let part : x % piece % 2 ≡ x % 2 = mod-mod_of_dvd 2 x (dvd_of_mod-eq-zero 2 (omega arith)) in omega arith)
    (λ al lt. let part : x % piece % 4 ≡ x % 4 = mod-mod_of_dvd 4 x (dvd_of_mod-eq-zero 4 whole) in omega arith)
    w.aligned w.inside

-- counted from a multiple of 4
from : (first width a i : ℕ) → first % 4 ≡ 0 → first ≤ a → InWord width a i → InWord width (a - first) i
from first width a i whole le w = record {
  wide = w.wide;
  aligned = by_width (λ n. a % n ≡ 0 → (a - first) % n ≡ 0) width w.wide (λ al. omega arith) (λ al. omega arith) (λ al. omega arith) w.aligned;
  inside = w.inside;
}

-- ---- a byte lies apart, or elsewhere in memory, or past its end

pub data Lies (apart : Apart) (n size a : ℕ) : Type 0 where
  Apartly : apart.first ≤ a → a < apart.first + apart.length → lies_apart apart a ≡ true → Lies apart n size a
  Inside : lies_apart apart a ≡ false → a < size → Lies apart n size a
  Past : lies_apart apart a ≡ false → size ≤ a → Lies apart n size a

lies : (apart : Apart) (n size a : ℕ) → Lies apart n size a
lies apart n size a = pick (lies_apart apart a) (nat_lt a size) refl refl
  where
    pick : (b c : Bool) → lies_apart apart a ≡ b → nat_lt a size ≡ c → Lies apart n size a
    pick true c e f = Apartly (grind (arith, nat_tests)) (grind (arith, nat_tests)) e
    pick false true e f = Inside e (grind (arith, nat_tests))
    pick false false e f = Past e (grind (arith, nat_tests))

-- a machine's places where this lies apart
pub place-apart : (machine : Machine) (apart : Apart) (size a : ℕ) → machine.apart ≡ Some apart → place machine size a ≡ place_with apart machine.line_length size a
unfolding place
place-apart machine apart size a is = ap (λ (o : Option Apart). place_by o machine.line_length size a) is

at_apart : (apart : Apart) (n size a : ℕ) → lies_apart apart a ≡ true → place_with apart n size a ≡ size + laid apart.piece n (a - apart.first)
at_apart apart n size a e = rw e refl

at_inside : (apart : Apart) (n size a : ℕ) → lies_apart apart a ≡ false → a < size → place_with apart n size a ≡ a
at_inside apart n size a e lt = let f : nat_lt a size ≡ true = grind (arith, nat_tests) in rw (e, f) refl

at_past : (apart : Apart) (n size a : ℕ) → lies_apart apart a ≡ false → size ≤ a → place_with apart n size a ≡ a + behind apart n
at_past apart n size a e le = let f : nat_lt a size ≡ false = grind (arith, nat_tests) in rw (e, f) refl

-- ---- the places of a range

module _ (apart : Apart) (n size : ℕ) (fits : FitsApart size n apart) where
  abbrev at : ℕ → ℕ
  at a = place_with apart n size a

  below_end : (a : ℕ) → apart.first ≤ a → a < apart.first + apart.length → laid apart.piece n (a - apart.first) < behind apart n
  below_end a first last = laid-below apart.piece n (a - apart.first) apart.length fits.some_piece fits.short_piece (omega arith)

  with-one : (a b : ℕ) → at a ≡ at b → a ≡ b
  with-one a b same = both (lies apart n size a) (lies apart n size b)
    where
      both : Lies apart n size a → Lies apart n size b → a ≡ b
      both (Apartly first last e) (Apartly first2 last2 f) =
          let here = at_apart apart n size a e in
          let there = at_apart apart n size b f in
          let moved : a - apart.first ≡ b - apart.first =
          laid-one apart.piece n (a - apart.first) (b - apart.first) fits.some_piece fits.short_piece (omega (arith, here, there, same)) in
          omega arith
      both (Apartly first last e) (Inside f lt) = let here = at_apart apart n size a e in let there = at_inside apart n size b f lt in absurd (omega (arith, here, there, same))
      both (Apartly first last e) (Past f le) =
          let here = at_apart apart n size a e in let there = at_past apart n size b f le in let low = below_end a first last in absurd (omega (arith, here, there, same, low))
      both (Inside e lt) (Apartly first last f) = let here = at_inside apart n size a e lt in let there = at_apart apart n size b f in absurd (omega (arith, here, there, same))
      both (Inside e lt) (Inside f lt2) = let here = at_inside apart n size a e lt in let there = at_inside apart n size b f lt2 in omega (arith, here, there, same)
      both (Inside e lt) (Past f le) = let here = at_inside apart n size a e lt in let there = at_past apart n size b f le in absurd (omega (arith, here, there, same))
      both (Past e le) (Apartly first last f) =
          let here = at_past apart n size a e le in let there = at_apart apart n size b f in let low = below_end b first last in absurd (omega (arith, here, there, same, low))
      both (Past e le) (Inside f lt) = let here = at_past apart n size a e le in let there = at_inside apart n size b f lt in absurd (omega (arith, here, there, same))
      both (Past e le) (Past f le2) = let here = at_past apart n size a e le in let there = at_past apart n size b f le2 in omega (arith, here, there, same)

  with-end : at size ≡ size + behind apart n
  with-end = at_past apart n size size (grind (arith, nat_tests, fits.within)) (omega arith)

  with-inside : (a : ℕ) → a < size → at a < size + behind apart n
  with-inside a lt = pick (lies apart n size a)
    where
      pick : Lies apart n size a → at a < size + behind apart n
      pick (Apartly first last e) = let here = at_apart apart n size a e in let low = below_end a first last in omega (arith, here, low)
      pick (Inside e lt2) = let here = at_inside apart n size a e lt2 in omega (arith, here)
      pick (Past e le) = absurd (omega arith)

  with-past : (a : ℕ) → size ≤ a → size + behind apart n ≤ at a
  with-past a le = pick (lies apart n size a)
    where
      pick : Lies apart n size a → size + behind apart n ≤ at a
      pick (Apartly first last e) = absurd (omega (arith, fits.within))
      pick (Inside e lt) = absurd (omega arith)
      pick (Past e le2) = let here = at_past apart n size a e le2 in omega (arith, here)

  -- no byte moves down
  with-up : (a c : ℕ) → c ≤ size → c ≤ a → c ≤ at a
  with-up a c low le = pick (lies apart n size a)
    where
      pick : Lies apart n size a → c ≤ at a
      pick (Apartly first last e) = let here = at_apart apart n size a e in omega (arith, here)
      pick (Inside e lt) = let here = at_inside apart n size a e lt in omega (arith, here)
      pick (Past e le2) = let here = at_past apart n size a e le2 in omega (arith, here)

  same_side_of_range : (width a i : ℕ) → InWord width a i → lies_apart apart (a + i) ≡ lies_apart apart a
  same_side_of_range width a i w =
      let end : (apart.first + apart.length) % 4 ≡ 0 = omega (arith, fits.first_word, fits.whole_words) in
      let above = same_side apart.first width a i fits.first_word w in
      let below = same_side (apart.first + apart.length) width a i end w in
      let first : nat_le apart.first (a + i) ≡ nat_le apart.first a = grind (arith, nat_tests) in
      (λ j. first j && below j)

  with-word : (width a i : ℕ) → size % 4 ≡ 0 → InWord width a i → at (a + i) ≡ at a + i
  with-word width a i whole w = pick (lies apart n size a)
    where
      side : nat_lt (a + i) size ≡ nat_lt a size
      side = same_side size width a i whole w

      pick : Lies apart n size a → at (a + i) ≡ at a + i
      pick (Apartly first last e) =
          let here = at_apart apart n size a e in
          let there = at_apart apart n size (a + i) (same_side_of_range width a i w ∙ e) in
          let moved : a + i - apart.first ≡ a - apart.first + i = omega arith in
          let inside = in_piece apart.piece width (a - apart.first) i fits.some_piece fits.piece_words (from apart.first width a i fits.first_word first w) in
          let next = laid-next apart.piece n (a - apart.first) i fits.some_piece inside in
          there ∙ (ap (λ x. size + laid apart.piece n x) moved ∙ (ap (λ p. size + p) next ∙ (sym (add_assoc size (laid apart.piece n (a - apart.first)) i) ∙ ap (λ p. p + i) (sym here))))
      pick (Inside e lt) =
          let here = at_inside apart n size a e lt in
          let there = at_inside apart n size (a + i) (same_side_of_range width a i w ∙ e) (grind (arith, nat_tests, side)) in
          there ∙ ap (λ p. p + i) (sym here)
      pick (Past e le) =
          let here = at_past apart n size a e le in
          let there = at_past apart n size (a + i) (same_side_of_range width a i w ∙ e) (omega arith) in
          omega (arith, here, there)

-- ---- the places of a machine

abbrev by_apart : ℕ → ℕ → ℕ → Option Apart → ℕ
by_apart n size a apart = place_by apart n size a

-- where nothing lies apart, places are addresses
pub place-none : (machine : Machine) (size a : ℕ) → machine.apart ≡ None → place machine size a ≡ a
unfolding place
place-none machine size a none = ap (by_apart machine.line_length size a) none

-- what doesn't lie apart stays at its address
pub place-stays : (machine : Machine) (apart : Apart) (size a : ℕ) → machine.apart ≡ Some apart → lies_apart apart a ≡ false → a < size → place machine size a ≡ a
unfolding place
place-stays machine apart size a is e lt = ap (by_apart machine.line_length size a) is ∙ at_inside apart machine.line_length size a e lt

-- a fact of the places of a range, and of addresses, is one of the places of every machine
by_places : (P : (ℕ → ℕ) → Type 0) (machine : Machine) (size : ℕ) → IsMachineFor size machine → P (λ a. a)
    → ((apart : Apart) → FitsApart size machine.line_length apart → P (place_with apart machine.line_length size)) → P (place machine size)
unfolding place
by_places P machine size fits none some =
    elim (none_or_some machine.apart) [
      | inl is ↦ subst (λ o. P (place_by o machine.line_length size)) (sym is) none
      | inr x ↦ subst (λ o. P (place_by o machine.line_length size)) (sym x.1) (some x.0 (fits.apart x.0 x.1))
    ]

-- no two bytes share a place
pub place-one : (machine : Machine) (size a b : ℕ) → IsMachineFor size machine → place machine size a ≡ place machine size b → a ≡ b
place-one machine size a b fits =
    by_places (λ at. at a ≡ at b → a ≡ b) machine size fits (λ same. same) (λ apart f. with-one apart machine.line_length size f a b)

-- the bytes of memory lie below the place of its end, and no others do
pub place-inside : (machine : Machine) (size a : ℕ) → IsMachineFor size machine → a < size → place machine size a < place machine size size
place-inside machine size a fits =
    by_places (λ at. a < size → at a < at size) machine size fits (λ lt. lt)
    (λ apart f lt. let end = with-end apart machine.line_length size f in let low = with-inside apart machine.line_length size f a lt in omega (arith, end, low))

pub place-past : (machine : Machine) (size a : ℕ) → IsMachineFor size machine → size ≤ a → place machine size size ≤ place machine size a
place-past machine size a fits =
    by_places (λ at. size ≤ a → at size ≤ at a) machine size fits (λ le. le)
    (λ apart f le. let end = with-end apart machine.line_length size f in let high = with-past apart machine.line_length size f a le in omega (arith, end, high))

-- what lies at or past an address of memory stays there
pub place-up : (machine : Machine) (size a c : ℕ) → IsMachineFor size machine → c ≤ size → c ≤ a → c ≤ place machine size a
place-up machine size a c fits =
    by_places (λ at. c ≤ size → c ≤ a → c ≤ at a) machine size fits (λ low le. le)
    (λ apart f low le. with-up apart machine.line_length size f a c low le)

-- a word stays whole
pub place-word : (machine : Machine) (size width a i : ℕ) → IsMachineFor size machine → InWord width a i → place machine size (a + i) ≡ place machine size a + i
place-word machine size width a i fits w =
    by_places (λ at. at (a + i) ≡ at a + i) machine size fits refl
    (λ apart f. with-word apart machine.line_length size f width a i (whole size machine.line_length fits.is.line_length fits.whole_lines) w)
  where
    whole : (size n : ℕ) → is_line_length n ≡ true → size % n ≡ 0 → size % 4 ≡ 0
    whole size n is = by_length (λ n. size % n ≡ 0 → size % 4 ≡ 0) n is (λ w. omega arith) (λ w. omega arith) (λ w. omega arith)

-- an aligned byte has an aligned place
pub place-aligned : (machine : Machine) (size width a : ℕ) → IsMachineFor size machine → IsWidth width → a % width ≡ 0 → place machine size a % width ≡ 0
place-aligned machine size width a fits wide aligned =
    by_places (λ at. at a % width ≡ 0) machine size fits aligned
    (λ apart f. pick apart machine.line_length f fits.is.line_length fits.whole_lines (lies apart machine.line_length size a))
  where
    even : (n q r : ℕ) → is_line_length n ≡ true → size % n ≡ 0 → r % width ≡ 0 → (size + (q * n + r)) % width ≡ 0
    even n q r is whole part =
        by_length (λ n. size % n ≡ 0 → (size + (q * n + r)) % width ≡ 0) n is
        (λ w. by_width (λ v. r % v ≡ 0 → (size + (q * 16 + r)) % v ≡ 0) width wide (λ p. omega arith) (λ p. omega arith) (λ p. omega arith) part)
        (λ w. by_width (λ v. r % v ≡ 0 → (size + (q * 32 + r)) % v ≡ 0) width wide (λ p. omega arith) (λ p. omega arith) (λ p. omega arith) part)
        (λ w. by_width (λ v. r % v ≡ 0 → (size + (q * 64 + r)) % v ≡ 0) width wide (λ p. omega arith) (λ p. omega arith) (λ p. omega arith) part) whole

    in_part : (piece x : ℕ) → piece % 4 ≡ 0 → x % width ≡ 0 → x % piece % width ≡ 0
    in_part piece x whole =
        by_width (λ v. x % v ≡ 0 → x % piece % v ≡ 0) width wide
        (λ al. omega arith)
        (λ al. mod-mod_of_dvd 2 x (dvd_of_mod-eq-zero 2 (omega arith)) ∙ al)
        (λ al. mod-mod_of_dvd 4 x (dvd_of_mod-eq-zero 4 whole) ∙ al)

    pick : (apart : Apart) (n : ℕ) → FitsApart size n apart → is_line_length n ≡ true → size % n ≡ 0 → Lies apart n size a → place_with apart n size a % width ≡ 0
    pick apart n f is whole (Apartly first last e) =
        let x : ℕ = a - apart.first in
        let one : InWord width a 0 = record { wide = wide; aligned = aligned; inside = some_wide width wide } in
        let counted = from apart.first width a 0 f.first_word first one in
        ap (λ p. p % width) (at_apart apart n size a e)
        ∙ even n (x / apart.piece) (x % apart.piece) is whole (in_part apart.piece x f.piece_words counted.aligned)
    pick apart n f is whole (Inside e lt) = ap (λ p. p % width) (at_inside apart n size a e lt) ∙ aligned
    pick apart n f is whole (Past e le) =
        let there : place_with apart n size a ≡ a + behind apart n = at_past apart n size a e le in
        ap (λ p. p % width) there
        ∙ by_length (λ n. (a + ((apart.length - 1) / apart.piece + 1) * n) % width ≡ 0) n is
        (by_width (λ v. a % v ≡ 0 → (a + ((apart.length - 1) / apart.piece + 1) * 16) % v ≡ 0) width wide (λ al. omega arith) (λ al. omega arith) (λ al. omega arith) aligned)
        (by_width (λ v. a % v ≡ 0 → (a + ((apart.length - 1) / apart.piece + 1) * 32) % v ≡ 0) width wide (λ al. omega arith) (λ al. omega arith) (λ al. omega arith) aligned)
        (by_width (λ v. a % v ≡ 0 → (a + ((apart.length - 1) / apart.piece + 1) * 64) % v ≡ 0) width wide (λ al. omega arith) (λ al. omega arith) (λ al. omega arith) aligned)

-- they are whole lines
pub places-whole : (machine : Machine) (size : ℕ) → IsMachineFor size machine → place machine size size % machine.line_length ≡ 0
places-whole machine size fits =
    by_places (λ at. at size % machine.line_length ≡ 0) machine size fits fits.whole_lines
    (λ apart f. ap (λ p. p % machine.line_length) (with-end apart machine.line_length size f)
    ∙ whole ((apart.length - 1) / apart.piece + 1) machine.line_length fits.is.line_length fits.whole_lines)
  where
    whole : (pieces n : ℕ) → is_line_length n ≡ true → size % n ≡ 0 → (size + pieces * n) % n ≡ 0
    whole pieces n is = by_length (λ n. size % n ≡ 0 → (size + pieces * n) % n ≡ 0) n is (λ w. omega arith) (λ w. omega arith) (λ w. omega arith)

-- and not many
pub places-few : (machine : Machine) (size : ℕ) → IsMachineFor size machine → size ≤ 1048576 → place machine size size ≤ 134217728
places-few machine size fits =
    by_places (λ at. size ≤ 1048576 → at size ≤ 134217728) machine size fits (λ small. omega arith)
    (λ apart f small.
    let end = with-end apart machine.line_length size f in
    let few : (apart.length - 1) / apart.piece ≤ apart.length - 1 = div-le_self (apart.length - 1) apart.piece in
    omega (arith, end, short ((apart.length - 1) / apart.piece) machine.line_length fits.is.line_length (omega (arith, few, f.within, small, f.some_byte)), small))
  where
    short : (pieces n : ℕ) → is_line_length n ≡ true → pieces < 1048576 → (pieces + 1) * n ≤ 67108864
    short pieces n is = by_length (λ n. pieces < 1048576 → (pieces + 1) * n ≤ 67108864) n is (λ lt. omega arith) (λ lt. omega arith) (λ lt. omega arith)

-- ---- the bytes of places

-- some number below this one has that place, or none has
below_found : (at : ℕ → ℕ) (p n : ℕ) → ((a : ℕ) × (at a ≡ p)) ⊎ ((a : ℕ) → a < n → at a ≡ p → ⊥)
below_found at p zero = inr (λ a lt. absurd (omega arith))
below_found at p (suc n) =
    elim (below_found at p n) [
      | inl found ↦ inl found
      | inr none ↦ pick (at n == p) refl none
    ]
  where
    pick : (b : Bool) → (at n == p) ≡ b → ((a : ℕ) → a < n → at a ≡ p → ⊥) → ((a : ℕ) × (at a ≡ p)) ⊎ ((a : ℕ) → a < suc n → at a ≡ p → ⊥)
    pick true e none = inl (n, grind (arith, nat_tests))
    pick false e none = inr (λ a lt is. by_last a is (a == n) refl none lt e)
      where
        by_last : (a : ℕ) → at a ≡ p → (c : Bool) → (a == n) ≡ c → ((a : ℕ) → a < n → at a ≡ p → ⊥) → a < suc n → (at n == p) ≡ false → ⊥
        by_last a is true f none lt e =
            let same : a ≡ n = grind (arith, nat_tests) in
            let there : at n ≡ p = subst (λ x. at x ≡ p) same is in
            let ne : at n ≢ p = grind (arith, nat_tests) in
            ne there
        by_last a is false f none lt e = let away : a ≢ n = grind (arith, nat_tests) in none a (omega arith) is

-- a place is that of a byte, or of none
pub place-found : (machine : Machine) (size p : ℕ) → IsMachineFor size machine
    → ((a : ℕ) × (place machine size a ≡ p)) ⊎ ((a : ℕ) → place machine size a ≡ p → ⊥)
place-found machine size p fits =
    by_places (λ at. ((a : ℕ) × (at a ≡ p)) ⊎ ((a : ℕ) → at a ≡ p → ⊥)) machine size fits (inl (p, refl))
    (λ apart f. pick apart machine.line_length f (nat_lt p (size + behind apart machine.line_length)) refl)
  where
    pick : (apart : Apart) (n : ℕ) (f : FitsApart size n apart) (b : Bool) → nat_lt p (size + behind apart n) ≡ b
        → ((a : ℕ) × (place_with apart n size a ≡ p)) ⊎ ((a : ℕ) → place_with apart n size a ≡ p → ⊥)
    pick apart n f true e =
        elim (below_found (place_with apart n size) p size) [
          | inl found ↦ inl found
          | inr none ↦ inr (λ a is. by_end a is (nat_lt a size) refl none)
        ]
      where
        by_end : (a : ℕ) → place_with apart n size a ≡ p → (c : Bool) → nat_lt a size ≡ c → ((a : ℕ) → a < size → place_with apart n size a ≡ p → ⊥) → ⊥
        by_end a is true g none = none a (grind (arith, nat_tests)) is
        by_end a is false g none =
            let le : size ≤ a = grind (arith, nat_tests) in
            let high = with-past apart n size f a le in
            let low : p < size + behind apart n = grind (arith, nat_tests) in
            omega (arith, high, is, low)
    pick apart n f false e =
        let le : size + behind apart n ≤ p = grind (arith, nat_tests) in
        let out : size ≤ p - behind apart n = omega arith in
        let apart_from : lies_apart apart (p - behind apart n) ≡ false = grind (arith, nat_tests, f.within) in
        inl (p - behind apart n, at_past apart n size (p - behind apart n) apart_from out ∙ omega arith)
