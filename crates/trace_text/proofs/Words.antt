-- Texts that are cut at bytes which their parts don't have.
use Rattle.std.proofs.Common.{◌≡◌, ℕ, ◌≤◌, ◌<◌, ◌^◌, ◌==◌, Bool, true, false, not, cond, List, [], ◌∷◌, ◌++◌, length, refl, ap, ◌∙◌, arith}
use Rattle.std.proofs.lemmas.Bool.{and_from, not-true, and_parts}
use Rattle.std.proofs.lemmas.Bool.Decides.{nat_tests}
use Rattle.std.proofs.lemmas.List.Splits.{length-slice_split, slice_split-cons_yes, slice_split-cons_no}
use Rattle.std.proofs.lemmas.List.Sums.{list_all-from_AllPass}
use Rattle.std.specs.Char.{is_ascii_digit}
use Rattle.std.specs.Fmt.{decimal}
use Rattle.std.specs.Int.{w32, to_be_bytes}
use Rattle.std.specs.List.{list_all, slice_split, onto_first}
use Rattle.hex.specs.Hex.{encode_lower, is_hex_digit}
use Rattle.hex.proofs.HexLemmas.{decode_of-encode_lower, decode_of-ok}
use Rattle.rv32_image.specs.ImageText.{pieces}
use Rattle.rv32_image.proofs.Printed.{be_bytes_small, decimal_all_digits}
use Rattle.trace_text.specs.Printing.{hex_word}

-- ---- cutting

onto-append : (x : ℕ) (first others : List (List ℕ)) → 1 ≤ length first → onto_first x (first ++ others) ≡ onto_first x first ++ others
onto-append x [] others some = absurd (omega arith)
onto-append x (piece ∷ first) others some = refl

either : (b : Bool) (x : ℕ) (whole first others : List (List ℕ)) → 1 ≤ length first → whole ≡ first ++ others
    → cond b ([] ∷ whole) (onto_first x whole) ≡ cond b ([] ∷ first) (onto_first x first) ++ others
either true x whole first others some is = ap (λ l. [] ∷ l) is
either false x whole first others some is = ap (onto_first x) is ∙ onto-append x first others some

-- at a separator the pieces part
pub split_append : (p : ℕ → Bool) (c : ℕ) (xs ys : List ℕ) → p c ≡ true → slice_split p (xs ++ c ∷ ys) ≡ slice_split p xs ++ slice_split p ys
split_append p c [] ys is = slice_split-cons_yes p c ys is
split_append p c (x ∷ xs) ys is =
    let some : 1 ≤ length (slice_split p xs) = omega (arith, length-slice_split p xs) in
    either (p x) x (slice_split p (xs ++ c ∷ ys)) (slice_split p xs) (slice_split p ys) some (split_append p c xs ys is)

-- a text without a separator is one piece
pub split_none : (p : ℕ → Bool) (w : List ℕ) → list_all (λ b. not (p b)) w ≡ true → slice_split p w ≡ w ∷ []
split_none p [] is = refl
split_none p (x ∷ w) is =
    let both = and_parts (not (p x)) (list_all (λ b. not (p b)) w) is in
    slice_split-cons_no p x w (not-true (p x) both.0) ∙ ap (onto_first x) (split_none p w both.1)

weaken : (p q : ℕ → Bool) (w : List ℕ) → ((x : ℕ) → p x ≡ true → q x ≡ true) → list_all p w ≡ true → list_all q w ≡ true
weaken p q [] more is = refl
weaken p q (x ∷ w) more is =
    let both = and_parts (p x) (list_all p w) is in and_from (q x) (list_all q w) (more x both.0) (weaken p q w more both.1)

pub all_append : (p : ℕ → Bool) (xs ys : List ℕ) → list_all p xs ≡ true → list_all p ys ≡ true → list_all p (xs ++ ys) ≡ true
all_append p [] ys a b = b
all_append p (x ∷ xs) ys a b =
    let both = and_parts (p x) (list_all p xs) a in and_from (p x) (list_all p (xs ++ ys)) both.0 (all_append p xs ys both.1 b)

-- ---- words

-- no line feed and no space
pub record IsWord (w : List ℕ) : Type 0 where
  pub no_feed : list_all (λ b. not (b == 10)) w ≡ true
  pub no_space : list_all (λ b. not (b == 32)) w ≡ true

of_digits : (w : List ℕ) → list_all is_ascii_digit w ≡ true → IsWord w
of_digits w is = record {
  no_feed = weaken is_ascii_digit (λ b. not (b == 10)) w (λ x digit. grind (arith, nat_tests, digit)) is;
  no_space = weaken is_ascii_digit (λ b. not (b == 32)) w (λ x digit. grind (arith, nat_tests, digit)) is;
}

pub hex_no : (c x : ℕ) → c < 48 → is_hex_digit x ≡ true → not (x == c) ≡ true
hex_no c x small digit = grind (arith, nat_tests)

pub decimal_word : (n : ℕ) → n < 2 ^ 32 → IsWord (decimal n)
decimal_word n small = of_digits (decimal n) (decimal_all_digits n (omega arith))

pub hex_word_word : (n : ℕ) → IsWord (hex_word n)
hex_word_word n =
    let bytes = to_be_bytes w32 n in
    let digits = list_all-from_AllPass is_hex_digit (encode_lower bytes) (decode_of-ok (encode_lower bytes) bytes (decode_of-encode_lower bytes (be_bytes_small n))).1 in record {
      no_feed = weaken is_hex_digit (λ b. not (b == 10)) (encode_lower bytes) (λ x digit. hex_no 10 x (omega arith) digit) digits;
      no_space = weaken is_hex_digit (λ b. not (b == 32)) (encode_lower bytes) (λ x digit. hex_no 32 x (omega arith) digit) digits;
    }

-- words with a space between each two
abbrev pub spaced : List ℕ → List (List ℕ) → List ℕ
spaced word [] = word
spaced word (next ∷ words) = word ++ 32 ∷ spaced next words

abbrev pub AreWords : List ℕ → List (List ℕ) → Type 0
AreWords word [] = IsWord word
AreWords word (next ∷ words) = IsWord word × AreWords next words

pub pieces_spaced : (word : List ℕ) (words : List (List ℕ)) → AreWords word words → pieces 32 (spaced word words) ≡ word ∷ words
pieces_spaced word [] are = split_none (λ b. b == 32) word are.no_space
pieces_spaced word (next ∷ words) are =
    split_append (λ b. b == 32) 32 word (spaced next words) refl
    ∙ (ap (λ l. l ++ pieces 32 (spaced next words)) (split_none (λ b. b == 32) word are.0.no_space)
    ∙ ap (λ l. word ∷ l) (pieces_spaced next words are.1))

pub spaced_line : (word : List ℕ) (words : List (List ℕ)) → AreWords word words → list_all (λ b. not (b == 10)) (spaced word words) ≡ true
spaced_line word [] are = are.no_feed
spaced_line word (next ∷ words) are =
    all_append (λ b. not (b == 10)) word (32 ∷ spaced next words) are.0.no_feed (spaced_line next words are.1)
