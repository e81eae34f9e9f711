-- A number of one digit.
use Rattle.std.proofs.Common.{◌≡◌, ℕ, ◌-◌, ◌^◌, ◌&&◌, nat_lt, true, false, cond, List, [], ◌∷◌, drop, length, slice_index, Some, refl, ap, sym, ◌∙◌, arith}
use Rattle.std.proofs.lemmas.Bool.{and_parts}
use Rattle.std.proofs.lemmas.Bool.Decides.{nat_tests}
use Rattle.std.specs.Char.{is_ascii_digit}
use Rattle.std.specs.List.{list_all}
use Rattle.std.specs.Str.Parse.{digits_value}
use Rattle.trace_text.specs.TraceText.{number}
use Rattle.trace_text.specs.Front.{IsRead, after_word, ends_word, first_word, is_one_digit}
use Rattle.trace_text.proofs.FirstWords.{after_word-cons, first_word-cons}
use Rattle.trace_text.proofs.Spelled.{number_is}

no_end : (b : ℕ) → is_ascii_digit b ≡ true → ends_word b ≡ false
no_end b is = grind (arith, nat_tests, is)

of_digit : (b : ℕ) → is_ascii_digit b ≡ true → number (b ∷ []) ≡ Some (b - 48)
of_digit b is =
    let small : nat_lt (b - 48) (2 ^ 32) ≡ true = grind (arith, nat_tests, is) in
    let value : digits_value 10 (b ∷ []) ≡ b - 48 = grind (arith, nat_tests, is) in
    let all : list_all is_ascii_digit (b ∷ []) ≡ true = ap (λ d. d && true) is in
    number_is (b ∷ []) (b - 48) true refl all value small

of_two : (b c : ℕ) (text : List ℕ) → is_ascii_digit b ≡ true → ends_word c ≡ true → IsRead number (b ∷ c ∷ text) (b - 48) (c ∷ text)
of_two b c text digit ends =
    let first : first_word (b ∷ c ∷ text) ≡ b ∷ [] =
    first_word-cons b (c ∷ text) ∙ (ap (λ e. cond e [] (b ∷ first_word (c ∷ text))) (no_end b digit)
    ∙ ap (λ l. b ∷ l) (first_word-cons c text ∙ ap (λ e. cond e [] (c ∷ first_word text)) ends)) in record {
      is = ap number first ∙ of_digit b digit;
      after = sym (after_word-cons b (c ∷ text) ∙ (ap (λ e. cond e (b ∷ c ∷ text) (after_word (c ∷ text))) (no_end b digit)
          ∙ (after_word-cons c text ∙ ap (λ e. cond e (c ∷ text) (after_word text)) ends)));
    }

pub one_digit : (text left : List ℕ) (n : ℕ) → is_one_digit text ≡ true → n ≡ slice_index text 0 - 48 → left ≡ drop 1 text → IsRead number text n left
one_digit [] left n is value rest = absurd cc
one_digit (b ∷ []) left n is value rest = absurd cc
one_digit (b ∷ c ∷ text) left n is value rest =
    let two = nat_lt 1 (length (b ∷ c ∷ text)) in
    let both = and_parts (two && is_ascii_digit b) (ends_word c) is in
    let digit = (and_parts two (is_ascii_digit b) both.0).1 in rw (value, rest) (of_two b c text digit both.1)
