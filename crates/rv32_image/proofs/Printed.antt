-- What is printed reads back.
use Rattle.std.proofs.Common.{◌≡◌, ℕ, zero, suc, ◌+◌, ◌/◌, ◌%◌, ◌^◌, ◌<◌, ◌==◌, ◌&&◌, ◌||◌, Bool, true, false, not, List, [], ◌∷◌, ◌++◌, length, get_or, slice_index, nat_le, Ok, refl, ap, arith}
use Rattle.std.proofs.lemmas.Bool.{not_from_false, or_right}
use Rattle.std.proofs.lemmas.Bool.Decides.{nat_tests}
use Rattle.std.proofs.lemmas.Fmt.{decimal_is_IsNumeral, decimal_nonempty, decimal_by_steps, decimal_digit, length-decimal-le, first_decimal}
use Rattle.std.specs.Fmt.{decimal}
use Rattle.std.specs.Char.{is_ascii_digit}
use Rattle.std.specs.List.{list_all}
use Rattle.std.specs.Int.{w32, to_be_bytes}
use Rattle.std.proofs.lemmas.Nat.{from_be_bytes-to_be_bytes_4}
use Rattle.hex.specs.Hex.{encode_lower, IsBytes}
use Rattle.hex.proofs.HexLemmas.{decode_sized-encode_lower}
use Rattle.rv32_image.specs.ImageText.{is_number, number_in, word_in}

-- a conjunction, over its second part
head_and : (a b c : Bool) → (a && b) ≡ true → (b ≡ true → c ≡ true) → (a && c) ≡ true
head_and true b c both more = more both
head_and false b c both more = absurd cc

all_digits_append : (xs ys : List ℕ) → list_all is_ascii_digit xs ≡ true → list_all is_ascii_digit ys ≡ true → list_all is_ascii_digit (xs ++ ys) ≡ true
all_digits_append [] ys a b = b
all_digits_append (x ∷ xs) ys a b = head_and (is_ascii_digit x) (list_all is_ascii_digit xs) (list_all is_ascii_digit (xs ++ ys)) a (λ all. all_digits_append xs ys all b)

digit_is_ascii : (d : ℕ) → d < 10 → list_all is_ascii_digit ((48 + d) ∷ []) ≡ true
digit_is_ascii d small = grind (arith, nat_tests)

pub decimal_all_digits : (n : ℕ) → n < 2 ^ 64 → list_all is_ascii_digit (decimal n) ≡ true
decimal_all_digits n fits =
    decimal_by_steps (λ n ds. list_all is_ascii_digit ds ≡ true) digit_is_ascii
    (λ n ds big before. all_digits_append ds ((48 + n % 10) ∷ []) before (digit_is_ascii (n % 10) (omega arith))) n fits

all_hold : (a b c d : Bool) → a ≡ true → b ≡ true → c ≡ true → d ≡ true → (a && b && c && d) ≡ true
all_hold a b c d p q r s = rw (p, q, r, s) refl

no_leading_zero : (n : ℕ) → n < 2 ^ 64 → (length (decimal n) == 1 || not (slice_index (decimal n) 0 == 48)) ≡ true
no_leading_zero zero fits = rw (decimal_digit 0 (omega arith)) refl
no_leading_zero (suc n) fits =
    let first : 48 < get_or (decimal (suc n)) 0 0 = first_decimal (suc n) (omega arith) fits in
    let other : (slice_index (decimal (suc n)) 0 == 48) ≡ false = grind (arith, nat_tests, first) in
    or_right (length (decimal (suc n)) == 1) (not (slice_index (decimal (suc n)) 0 == 48)) (not_from_false (slice_index (decimal (suc n)) 0 == 48) other)

pub number_in-decimal : (n : ℕ) → n < 10 ^ 10 → number_in (decimal n) ≡ Ok n
number_in-decimal n small =
    let fits : n < 2 ^ 64 = omega arith in
    let w = decimal n in
    let some = decimal_nonempty n fits in
    let full : not (length w == 0) ≡ true = grind (arith, nat_tests, some) in
    let short : nat_le (length w) 10 ≡ true = grind (arith, nat_tests, length-decimal-le 10 n (omega arith) small fits) in
    let spelled : is_number w ≡ true = all_hold _ _ _ _ full short (decimal_all_digits n fits) (no_leading_zero n fits) in
    rw spelled (ap Ok (decimal_is_IsNumeral n fits).1)

four_small : (a b c d : ℕ) → a < 256 → b < 256 → c < 256 → d < 256 → IsBytes (a ∷ b ∷ c ∷ d ∷ [])
four_small a b c d p q r s zero = p
four_small a b c d p q r s (suc zero) = q
four_small a b c d p q r s (suc (suc zero)) = r
four_small a b c d p q r s (suc (suc (suc zero))) = s
four_small a b c d p q r s (suc (suc (suc (suc i)))) = omega arith

pub be_bytes_small : (n : ℕ) → IsBytes (to_be_bytes w32 n)
be_bytes_small n i = four_small (n / 16777216 % 256) (n / 65536 % 256) (n / 256 % 256) (n % 256) (omega arith) (omega arith) (omega arith) (omega arith) i

pub word_in-hex : (n : ℕ) → n < 2 ^ 32 → word_in (encode_lower (to_be_bytes w32 n)) ≡ Ok n
word_in-hex n small =
    let bytes = to_be_bytes w32 n in
    let decoded = decode_sized-encode_lower bytes 4 refl (be_bytes_small n) in
    rw decoded (ap Ok (from_be_bytes-to_be_bytes_4 n small))
