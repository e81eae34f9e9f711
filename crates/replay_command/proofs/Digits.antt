-- The number that digits write, by the library's reading of it.
use Rattle.std.proofs.Common.{◌≡◌, ℕ, ◌<◌, ◌^◌, nat_lt, not, ◌==◌, ◌&&◌, ◌||◌, true, false, cond, List, length, slice_index, Some, None, Ok, Err, sym, ap, ◌∙◌, rules, arith}
use Rattle.std.proofs.lemmas.Bool.{false_from_ne_true, and_parts}
use Rattle.std.proofs.lemmas.Bool.Decides.{Decides-ltb, nat_tests}
use Rattle.std.proofs.lemmas.Str.Parse.{IsDigitsTest, IsNumeralModel, numerals_by_value, parse_digits}
use Rattle.std.specs.Char.{is_ascii_digit}
use Rattle.std.specs.List.{list_all}
use Rattle.std.specs.Str.Parse.{ParsesUnsigned, digits_value}
use Rattle.replay_command.specs.Asked.{is_decimal, number_of_64_bits}

abbrev AreDigits : List ℕ → Type 0
AreDigits word = list_all is_ascii_digit word ≡ true

are_digits : IsDigitsTest AreDigits
are_digits = search rules

numerals : IsNumeralModel AreDigits (digits_value 10)
numerals = numerals_by_value AreDigits are_digits

-- they are digits, and there is one
of_decimal : (word : List ℕ) → is_decimal word ≡ true → AreDigits word × (0 < length word)
of_decimal word is =
    let parts = and_parts (not (length word == 0) && list_all is_ascii_digit word) (length word == 1 || not (slice_index word 0 == 48)) is in
    let some = and_parts (not (length word == 0)) (list_all is_ascii_digit word) parts.0 in
    let there : not (length word == 0) ≡ true = some.0 in
    (some.1, grind (arith, nat_tests))

-- where their number is of 64 bits it is read
pub parsed : (word : List ℕ) (n : ℕ) → is_decimal word ≡ true → ParsesUnsigned {E = ℕ} 64 10 word (Ok n) → Some n ≡ number_of_64_bits word
unfolding number_of_64_bits
parsed word n decimal so =
    let parts = of_decimal word decimal in
    let read = parse_digits numerals {E = ℕ} 64 word (Ok n) so parts.0 in
    let below : nat_lt (digits_value 10 word) (2 ^ 64) ≡ true = (Decides-ltb (digits_value 10 word) (2 ^ 64)).1 read.0.1 in
    ap Some read.1 ∙ sym (ap (λ b. cond b (Some (digits_value 10 word)) None) below)

-- and else it isn't
pub unparsed : (word : List ℕ) → is_decimal word ≡ true → ParsesUnsigned {E = ℕ} 64 10 word (Err 0) → None ≡ number_of_64_bits word
unfolding number_of_64_bits
unparsed word decimal so =
    let parts = of_decimal word decimal in
    let no = parse_digits numerals {E = ℕ} 64 word (Err 0) so parts.0 in
    let past : nat_lt (digits_value 10 word) (2 ^ 64) ≡ false = false_from_ne_true (nat_lt (digits_value 10 word) (2 ^ 64))
    (λ below. no (parts.1, (Decides-ltb (digits_value 10 word) (2 ^ 64)).0 below)) in
    sym (ap (λ b. cond b (Some (digits_value 10 word)) None) past)
