-- A word of eight hexadecimal digits is found without looking for its end.
use Rattle.std.proofs.Common.{◌≡◌, ℕ, ◌<◌, ◌≤◌, ◌==◌, ◌||◌, Bool, true, false, cond, List, [], ◌∷◌, ◌++◌, take, drop, length, Some, None, Result, Ok, Err, slice_index_or, refl, ap, sym, ◌∙◌, arith, length-append}
use Rattle.std.proofs.Math.Seq.{take-append_seam}
use Rattle.std.proofs.lemmas.Bool.{not-true, and_parts}
use Rattle.std.proofs.lemmas.List.{append-nil, take-append-drop}
use Rattle.std.proofs.lemmas.List.Sums.{list_all-from_AllPass}
use Rattle.std.specs.Prelude.{IsOk}
use Rattle.std.specs.Int.{w32, from_be_bytes}
use Rattle.std.specs.List.{list_all}
use Rattle.memory_bytes.proofs.SmallFacts.{none_by}
use Rattle.hex.specs.Hex.{decode_sized, is_hex_digit}
use Rattle.hex.specs.declared.error.FromHexError.{FromHexError}
use Rattle.hex.proofs.HexLemmas.{IsOk-decode_sized}
use Rattle.rv32_image.specs.ImageText.{◌>>=◌, hex_or_fault}
use Rattle.trace_text.specs.TraceText.{digits, where_ok}
use Rattle.trace_text.specs.Front.{IsRead, after_word, ends_word, first_word, is_end}
use Rattle.trace_text.proofs.FirstWords.{IsWithin, after_none, after_word-cons, first_word-cons, word_none}
use Rattle.trace_text.proofs.Words.{hex_no}

-- ---- what is read as digits

decodes : (r : Result (List ℕ) FromHexError) (n : ℕ) → where_ok (hex_or_fault r >>= λ bytes. Ok (from_be_bytes w32 bytes)) ≡ Some n → IsOk r
decodes (Ok bytes) n is = refl
decodes (Err e) n is = absurd cc

pub eight_long : (word : List ℕ) (n : ℕ) → digits word ≡ Some n → length word ≡ 8
unfolding digits
eight_long word n is = let ok = (IsOk-decode_sized word 4).0 (decodes (decode_sized word 4) n is) in omega (arith, ok.0)

all_hex : (word : List ℕ) (n : ℕ) → digits word ≡ Some n → list_all is_hex_digit word ≡ true
unfolding digits
all_hex word n is = list_all-from_AllPass is_hex_digit word ((IsOk-decode_sized word 4).0 (decodes (decode_sized word 4) n is)).1

-- ---- the first word and what follows make the text

one_more : (ends : Bool) (b : ℕ) (text : List ℕ) → ends_word b ≡ ends → first_word text ++ after_word text ≡ text
    → first_word (b ∷ text) ++ after_word (b ∷ text) ≡ b ∷ text
one_more true b text is rest =
    ap (λ w. w ++ after_word (b ∷ text)) (first_word-cons b text ∙ ap (λ e. cond e [] (b ∷ first_word text)) is)
    ∙ (after_word-cons b text ∙ ap (λ e. cond e (b ∷ text) (after_word text)) is)
one_more false b text is rest =
    ap (λ w. w ++ after_word (b ∷ text)) (first_word-cons b text ∙ ap (λ e. cond e [] (b ∷ first_word text)) is)
    ∙ (ap (λ l. (b ∷ first_word text) ++ l) (after_word-cons b text ∙ ap (λ e. cond e (b ∷ text) (after_word text)) is)
    ∙ ap (λ l. b ∷ l) rest)

pub parts : (text : List ℕ) → first_word text ++ after_word text ≡ text
unfolding first_word after_word
parts [] = refl
parts (b ∷ text) = one_more (ends_word b) b text refl (parts text)

-- ---- digits don't end a word

hex_goes_on : (x : ℕ) → is_hex_digit x ≡ true → ends_word x ≡ false
hex_goes_on x is =
    ap (λ c. c || (x == 10)) (not-true (x == 32) (hex_no 32 x (omega arith) is)) ∙ not-true (x == 10) (hex_no 10 x (omega arith) is)

first_hex : (word rest : List ℕ) → list_all is_hex_digit word ≡ true → first_word (word ++ rest) ≡ word ++ first_word rest
first_hex [] rest is = refl
first_hex (x ∷ word) rest is =
    let both = and_parts (is_hex_digit x) (list_all is_hex_digit word) is in
    first_word-cons x (word ++ rest)
    ∙ (ap (λ e. cond e [] (x ∷ first_word (word ++ rest))) (hex_goes_on x both.0) ∙ ap (λ l. x ∷ l) (first_hex word rest both.1))

after_hex : (word rest : List ℕ) → list_all is_hex_digit word ≡ true → after_word (word ++ rest) ≡ after_word rest
after_hex [] rest is = refl
after_hex (x ∷ word) rest is =
    let both = and_parts (is_hex_digit x) (list_all is_hex_digit word) is in
    after_word-cons x (word ++ rest)
    ∙ (ap (λ e. cond e (x ∷ word ++ rest) (after_word (word ++ rest))) (hex_goes_on x both.0) ∙ after_hex word rest both.1)

within_eight : (text : List ℕ) (n : ℕ) → digits (take 8 text) ≡ Some n → IsWithin text 8
within_eight text n is =
    let all = all_hex (take 8 text) n is in
    let whole : text ≡ take 8 text ++ drop 8 text = sym (take-append-drop 8 text) in record {
      first = ap first_word whole ∙ first_hex (take 8 text) (drop 8 text) all;
      after = ap after_word whole ∙ after_hex (take 8 text) (drop 8 text) all;
    }

-- ---- where a word ends

pub end_none : (left : List ℕ) → length left ≡ 0 → true ≡ is_end left
end_none [] is = refl
end_none (b ∷ left) is = absurd (omega (arith, is))

pub end_some : (left : List ℕ) → 1 ≤ length left → ends_word (slice_index_or left 0 0) ≡ is_end left
end_some [] some = absurd (omega (arith, some))
end_some (b ∷ left) some = refl

no_word : (left : List ℕ) → is_end left ≡ true → first_word left ≡ []
no_word [] is = word_none
no_word (b ∷ left) is = first_word-cons b left ∙ ap (λ e. cond e [] (b ∷ first_word left)) is

all_left : (left : List ℕ) → is_end left ≡ true → after_word left ≡ left
all_left [] is = after_none
all_left (b ∷ left) is = after_word-cons b left ∙ ap (λ e. cond e (b ∷ left) (after_word left)) is

some_word : (left : List ℕ) → is_end left ≡ false → 1 ≤ length (first_word left)
some_word [] is = absurd cc
some_word (b ∷ left) is =
    let more = first_word-cons b left ∙ ap (λ e. cond e [] (b ∷ first_word left)) is in omega (arith, ap length more)

-- ---- the first eight bytes

pub too_short : (text : List ℕ) → length text < 8 → digits (first_word text) ≡ None
too_short text short =
    none_by (digits (first_word text)) (λ n is. omega (arith, short, eight_long (first_word text) n is, ap length (parts text), length-append (first_word text) (after_word text)))

pub no_digits : (text : List ℕ) → digits (take 8 text) ≡ None → digits (first_word text) ≡ None
no_digits text none =
    none_by (digits (first_word text))
    (λ n is.
    let long = eight_long (first_word text) n is in
    let whole : take 8 text ≡ first_word text = ap (λ l. take 8 l) (sym (parts text)) ∙ (ap (λ k. take k (first_word text ++ after_word text)) (sym long) ∙ take-append_seam (first_word text) (after_word text)) in
    let other : digits (first_word text) ≡ None = ap digits (sym whole) ∙ none in cc)

pub too_long : (text left : List ℕ) (n : ℕ) → left ≡ drop 8 text → digits (take 8 text) ≡ Some n → is_end left ≡ false → digits (first_word text) ≡ None
too_long text left n rest is other =
    let more : 1 ≤ length (first_word (drop 8 text)) = some_word (drop 8 text) (ap is_end (sym rest) ∙ other) in
    let first = ap length (within_eight text n is).first in
    let both = length-append (take 8 text) (first_word (drop 8 text)) in
    none_by (digits (first_word text)) (λ m some. omega (arith, eight_long (first_word text) m some, eight_long (take 8 text) n is, first, both, more))

pub just_eight : (text left : List ℕ) (n : ℕ) → left ≡ drop 8 text → digits (take 8 text) ≡ Some n → is_end left ≡ true → IsRead digits text n left
just_eight text left n rest is end =
    let ends = ap is_end (sym rest) ∙ end in
    let within = within_eight text n is in
    let first : first_word text ≡ take 8 text = within.first ∙ (ap (λ l. take 8 text ++ l) (no_word (drop 8 text) ends) ∙ append-nil (take 8 text)) in record {
      is = ap digits first ∙ is;
      after = rest ∙ sym (within.after ∙ all_left (drop 8 text) ends);
    }
