-- Eight hexadecimal digits are read as they are met.
use Rattle.std.proofs.Common.{◌≡◌, ℕ, zero, suc, ◌+◌, ◌*◌, ◌^◌, ◌<◌, List, [], ◌∷◌, drop, get_or, length, Option, Some, None, Result, Ok, refl, ap, sym, ◌∙◌, arith}
use Rattle.std.specs.Int.{w32, from_be_bytes}
use Rattle.std.proofs.lemmas.List.{drop_more, nil_from_length}
use Rattle.memory_bytes.proofs.SmallFacts.{none_by}
use Rattle.hex.specs.Hex as hex
use Rattle.hex.specs.Hex.{decode_pairs, digit_or_error, hex_digit_value}
use Rattle.hex.specs.declared.error.FromHexError.{FromHexError}
use Rattle.rv32_image.specs.ImageText as image
use Rattle.rv32_image.specs.ImageText.{hex_or_fault}
use Rattle.trace_text.specs.TraceText.{digits, where_ok}
use Rattle.trace_text.proofs.EightDigits.{eight_long}

-- the number that the digits write when they follow those of n
abbrev pub then_digit : Option ℕ → (ℕ → Option ℕ) → Option ℕ
then_digit (Some v) next = next v
then_digit None next = None

unfoldable pub hex_after : ℕ → List ℕ → Option ℕ
hex_after n [] = Some n
hex_after n (digit ∷ word) = then_digit (hex_digit_value digit) (λ v. hex_after (n * 16 + v) word)

abbrev pair : ℕ → ℕ → ℕ → Option ℕ → Option ℕ → Result ℕ FromHexError
pair high low i p q = hex.◌>>=◌ (digit_or_error high i p) (λ x. hex.◌>>=◌ (digit_or_error low (i + 1) q) (λ y. Ok (x * 16 + y)))

abbrev joined : Result ℕ FromHexError → Result (List ℕ) FromHexError → Result (List ℕ) FromHexError
joined byte rest = hex.◌>>=◌ byte (λ x. hex.◌>>=◌ rest (λ xs. Ok (x ∷ xs)))

abbrev worth : Result (List ℕ) FromHexError → Option ℕ
worth bytes = where_ok (image.◌>>=◌ (hex_or_fault bytes) (λ xs. Ok (from_be_bytes w32 xs)))

of_values : (a b c d e f g h : ℕ) (p q r s t u v w : Option ℕ)
    → worth (joined (pair a b 0 p q) (joined (pair c d 2 r s) (joined (pair e f 4 t u) (joined (pair g h 6 v w) (Ok [])))))
    ≡ then_digit p (λ x0. then_digit q (λ x1. then_digit r (λ x2. then_digit s (λ x3. then_digit t (λ x4. then_digit u (λ x5. then_digit v (λ x6. then_digit w (λ x7. Some (((((((((0) * 16 + x0) * 16 + x1) * 16 + x2) * 16 + x3) * 16 + x4) * 16 + x5) * 16 + x6) * 16 + x7)))))))))
of_values a b c d e f g h None q r s t u v w = refl
of_values a b c d e f g h (Some i) None r s t u v w = refl
of_values a b c d e f g h (Some i) (Some j) None s t u v w = refl
of_values a b c d e f g h (Some i) (Some j) (Some k) None t u v w = refl
of_values a b c d e f g h (Some i) (Some j) (Some k) (Some l) None u v w = refl
of_values a b c d e f g h (Some i) (Some j) (Some k) (Some l) (Some m) None v w = refl
of_values a b c d e f g h (Some i) (Some j) (Some k) (Some l) (Some m) (Some n) None w = refl
of_values a b c d e f g h (Some i) (Some j) (Some k) (Some l) (Some m) (Some n) (Some o) None = refl
of_values a b c d e f g h (Some i) (Some j) (Some k) (Some l) (Some m) (Some n) (Some o) (Some z) = ap Some (omega arith)

eight : (a b c d e f g h : ℕ) → digits (a ∷ b ∷ c ∷ d ∷ e ∷ f ∷ g ∷ h ∷ []) ≡ hex_after 0 (a ∷ b ∷ c ∷ d ∷ e ∷ f ∷ g ∷ h ∷ [])
unfolding digits decode_pairs hex_after
eight a b c d e f g h = of_values a b c d e f g h (hex_digit_value a) (hex_digit_value b) (hex_digit_value c) (hex_digit_value d) (hex_digit_value e) (hex_digit_value f) (hex_digit_value g) (hex_digit_value h)

pub digits_is : (word : List ℕ) → length word ≡ 8 → digits word ≡ hex_after 0 word
digits_is [] long = absurd (omega (arith, long))
digits_is (a ∷ []) long = absurd (omega (arith, long))
digits_is (a ∷ b ∷ []) long = absurd (omega (arith, long))
digits_is (a ∷ b ∷ c ∷ []) long = absurd (omega (arith, long))
digits_is (a ∷ b ∷ c ∷ d ∷ []) long = absurd (omega (arith, long))
digits_is (a ∷ b ∷ c ∷ d ∷ e ∷ []) long = absurd (omega (arith, long))
digits_is (a ∷ b ∷ c ∷ d ∷ e ∷ f ∷ []) long = absurd (omega (arith, long))
digits_is (a ∷ b ∷ c ∷ d ∷ e ∷ f ∷ g ∷ []) long = absurd (omega (arith, long))
digits_is (a ∷ b ∷ c ∷ d ∷ e ∷ f ∷ g ∷ h ∷ []) long = eight a b c d e f g h
digits_is (a ∷ b ∷ c ∷ d ∷ e ∷ f ∷ g ∷ h ∷ x ∷ word) long = absurd (omega (arith, long))

pub other_length : (word : List ℕ) → (length word ≡ 8 → ⊥) → digits word ≡ None
other_length word other = none_by (digits word) (λ n is. other (eight_long word n is))

after-cons : (n digit : ℕ) (word : List ℕ) → hex_after n (digit ∷ word) ≡ then_digit (hex_digit_value digit) (λ v. hex_after (n * 16 + v) word)
unfolding hex_after
after-cons n digit word = refl

after-none : (n : ℕ) → hex_after n [] ≡ Some n
unfolding hex_after
after-none n = refl

-- one digit more
pub one_digit : (word : List ℕ) (i n v : ℕ) → i < length word → hex_digit_value (get_or word i 0) ≡ Some v → hex_after n (drop i word) ≡ hex_after 0 word
    → hex_after (n * 16 + v) (drop (i + 1) word) ≡ hex_after 0 word
one_digit word i n v within is same =
    sym (ap (hex_after n) (drop_more word i 0 within) ∙ (after-cons n (get_or word i 0) (drop (i + 1) word) ∙ ap (λ d. then_digit d (λ x. hex_after (n * 16 + x) (drop (i + 1) word))) is)) ∙ same

-- a byte that is no digit
pub no_digit : (word : List ℕ) (i n : ℕ) → length word ≡ 8 → i < length word → hex_digit_value (get_or word i 0) ≡ None → hex_after n (drop i word) ≡ hex_after 0 word
    → digits word ≡ None
no_digit word i n long within is same =
    digits_is word long ∙ (sym same ∙ (ap (hex_after n) (drop_more word i 0 within)
    ∙ (after-cons n (get_or word i 0) (drop (i + 1) word) ∙ ap (λ d. then_digit d (λ x. hex_after (n * 16 + x) (drop (i + 1) word))) is)))

-- all are read
pub all_read : (word : List ℕ) (i n : ℕ) → length word ≡ 8 → length (drop i word) ≡ 0 → hex_after n (drop i word) ≡ hex_after 0 word → digits word ≡ Some n
all_read word i n long end same = digits_is word long ∙ (sym same ∙ (ap (hex_after n) (nil_from_length (drop i word) end) ∙ after-none n))

pub bounded : (i n : ℕ) → i < 8 → n < 16 ^ i → n < 268435456
bounded zero n small is = omega (arith, is)
bounded (suc zero) n small is = omega (arith, is)
bounded (suc (suc zero)) n small is = omega (arith, is)
bounded (suc (suc (suc zero))) n small is = omega (arith, is)
bounded (suc (suc (suc (suc zero)))) n small is = omega (arith, is)
bounded (suc (suc (suc (suc (suc zero))))) n small is = omega (arith, is)
bounded (suc (suc (suc (suc (suc (suc zero)))))) n small is = omega (arith, is)
bounded (suc (suc (suc (suc (suc (suc (suc zero))))))) n small is = omega (arith, is)
bounded (suc (suc (suc (suc (suc (suc (suc (suc i)))))))) n small is = absurd (omega (arith, small))

pub next_place : (i n v : ℕ) → i < 8 → n < 16 ^ i → v < 16 → n * 16 + v < 16 ^ (i + 1)
next_place zero n v within is small = omega (arith, is, small)
next_place (suc zero) n v within is small = omega (arith, is, small)
next_place (suc (suc zero)) n v within is small = omega (arith, is, small)
next_place (suc (suc (suc zero))) n v within is small = omega (arith, is, small)
next_place (suc (suc (suc (suc zero)))) n v within is small = omega (arith, is, small)
next_place (suc (suc (suc (suc (suc zero))))) n v within is small = omega (arith, is, small)
next_place (suc (suc (suc (suc (suc (suc zero)))))) n v within is small = omega (arith, is, small)
next_place (suc (suc (suc (suc (suc (suc (suc zero))))))) n v within is small = omega (arith, is, small)
next_place (suc (suc (suc (suc (suc (suc (suc (suc i)))))))) n v within is small = absurd (omega (arith, within))
