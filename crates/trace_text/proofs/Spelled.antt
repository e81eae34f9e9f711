-- A decimal number is read as its digits are met.
use Rattle.std.proofs.Common.{◌≡◌, ℕ, ◌+◌, ◌<◌, ◌^◌, ◌==◌, ◌&&◌, ◌||◌, nat_lt, nat_le, not, slice_index, Bool, true, false, cond, List, drop, get_or, length, Some, None, refl, ap, sym, ◌∙◌}
use Rattle.std.specs.List.{list_all}
use Rattle.std.specs.Char.{is_ascii_digit}
use Rattle.std.specs.Str.Parse.{digits_value, digits_value_after}
use Rattle.std.proofs.lemmas.List.{drop_more, nil_from_length}
use Rattle.rv32_image.specs.ImageText.{is_number}
use Rattle.trace_text.specs.TraceText.{number}
use Rattle.trace_text.specs.Keywords.{is_spelled}

none_of : (a b c d : Bool) → (a && b && d) ≡ false → (a && b && c && d) ≡ false
none_of true true true d is = is
none_of true true false d is = refl
none_of true false c d is = refl
none_of false b c d is = refl

no_digit_of : (a b c d : Bool) → c ≡ false → (a && b && c && d) ≡ false
no_digit_of true true c d is = rw is refl
no_digit_of true false c d is = refl
no_digit_of false b c d is = refl

all_of : (a b c d : Bool) → (a && b && d) ≡ true → c ≡ true → (a && b && c && d) ≡ true
all_of true true c d is all = rw all is
all_of true false c d is all = absurd cc
all_of false b c d is all = absurd cc

not_number : (word : List ℕ) → is_number word ≡ false → number word ≡ None
unfolding number
not_number word is = rw is refl

pub not_spelled : (word : List ℕ) → is_spelled word ≡ false → number word ≡ None
not_spelled word is = not_number word (none_of (not (length word == 0)) (nat_le (length word) 10) (list_all is_ascii_digit word) (length word == 1 || not (slice_index word 0 == 48)) is)

pub not_digits : (word : List ℕ) → list_all is_ascii_digit word ≡ false → number word ≡ None
not_digits word is = not_number word (no_digit_of (not (length word == 0)) (nat_le (length word) 10) (list_all is_ascii_digit word) (length word == 1 || not (slice_index word 0 == 48)) is)

pub number_is : (word : List ℕ) (n : ℕ) (small : Bool) → is_spelled word ≡ true → list_all is_ascii_digit word ≡ true → digits_value 10 word ≡ n → nat_lt n (2 ^ 32) ≡ small
    → number word ≡ cond small (Some n) None
unfolding number
number_is word n small spelled all value is =
    let whole : is_number word ≡ true = all_of (not (length word == 0)) (nat_le (length word) 10) (list_all is_ascii_digit word) (length word == 1 || not (slice_index word 0 == 48)) spelled all in
    rw (whole, value, is) refl

-- a byte that is no digit
pub missed : (word : List ℕ) (i : ℕ) → i < length word → is_ascii_digit (get_or word i 0) ≡ false → list_all is_ascii_digit (drop i word) ≡ list_all is_ascii_digit word
    → number word ≡ None
missed word i within is same =
    not_digits word (sym same ∙ (ap (list_all is_ascii_digit) (drop_more word i 0 within) ∙ ap (λ d. d && list_all is_ascii_digit (drop (i + 1) word)) is))

-- the digits are all read
pub ended : (word : List ℕ) (i n : ℕ) (small : Bool) → length (drop i word) ≡ 0 → is_spelled word ≡ true → list_all is_ascii_digit (drop i word) ≡ list_all is_ascii_digit word
    → digits_value_after 10 n (drop i word) ≡ digits_value 10 word → nat_lt n (2 ^ 32) ≡ small → number word ≡ cond small (Some n) None
ended word i n small end spelled same value is =
    let none = nil_from_length (drop i word) end in
    number_is word n small spelled (sym same ∙ ap (list_all is_ascii_digit) none) (sym value ∙ ap (digits_value_after 10 n) none) is
