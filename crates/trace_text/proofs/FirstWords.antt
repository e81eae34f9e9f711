-- A text parts into its first word and what follows, and into its first line and the lines below.
use Rattle.std.proofs.Common.{◌≡◌, ◌≢◌, ℕ, ◌+◌, ◌-◌, ◌<◌, ◌≤◌, ◌==◌, ◌||◌, nat_eq, slice_index_or, Bool, true, false, cond, List, [], ◌∷◌, ◌++◌, get_or, take, drop, length, Option, None, MatchOption, Bor, refl, ap, sym, ◌∙◌, append_assoc, arith, take_all, length-drop}
use Rattle.std.proofs.lemmas.List.{append-nil, take_more, drop_more, nil_from_length}
use Rattle.std.proofs.lemmas.Bool.Decides.{nat_tests}
use Rattle.std.proofs.lemmas.List.Splits.{slice_split-cons_no, slice_split-cons_yes}
use Rattle.std.specs.List.{onto_first}
use Rattle.rv32_image.specs.ImageText.{is_remark, pieces}
use Rattle.trace_text.specs.Front.{HasNext, IsFront, Says, after_word, below, first_line, first_word, ends_word, words_after, words_in}

-- ---- one byte more

first_line-cons : (b : ℕ) (text : List ℕ) → first_line (b ∷ text) ≡ cond (b == 10) [] (b ∷ first_line text)
unfolding first_line
first_line-cons b text = refl

below-cons : (b : ℕ) (text : List ℕ) → below (b ∷ text) ≡ cond (b == 10) (pieces 10 text) (below text)
unfolding below
below-cons b text = refl

pub first_word-cons : (b : ℕ) (text : List ℕ) → first_word (b ∷ text) ≡ cond (ends_word b) [] (b ∷ first_word text)
unfolding first_word
first_word-cons b text = refl

pub after_word-cons : (b : ℕ) (text : List ℕ) → after_word (b ∷ text) ≡ cond (ends_word b) (b ∷ text) (after_word text)
unfolding after_word
after_word-cons b text = refl

words_after-cons : (b : ℕ) (text : List ℕ) → words_after (b ∷ text) ≡ cond (b == 32) (words_in text) []
unfolding words_after
words_after-cons b text = refl

words_in-is : (text : List ℕ) → words_in text ≡ pieces 32 (first_line text)
unfolding words_in
words_in-is text = refl

pub word_none : first_word [] ≡ []
unfolding first_word
word_none = refl

pub after_none : after_word [] ≡ []
unfolding after_word
after_none = refl

-- ---- lines

cut_line : (feed : Bool) (b : ℕ) (text : List ℕ) → (b == 10) ≡ feed → pieces 10 text ≡ first_line text ∷ below text
    → pieces 10 (b ∷ text) ≡ first_line (b ∷ text) ∷ below (b ∷ text)
cut_line true b text is rest =
    slice_split-cons_yes (λ x. x == 10) b text is ∙ sym (rw (first_line-cons b text, below-cons b text, is) refl)
cut_line false b text is rest =
    slice_split-cons_no (λ x. x == 10) b text is ∙ (ap (onto_first b) rest ∙ sym (rw (first_line-cons b text, below-cons b text, is) refl))

-- the first line, and the lines below it
pub lines : (text : List ℕ) → pieces 10 text ≡ first_line text ∷ below text
unfolding first_line below
lines [] = refl
lines (b ∷ text) = cut_line (b == 10) b text refl (lines text)

-- ---- words

first_byte : (b : ℕ) (text : List ℕ) (ends : Bool) → ends_word b ≡ ends
    → first_word (b ∷ text) ∷ words_after (after_word (b ∷ text)) ≡ cond ends [] (b ∷ first_word text) ∷ words_after (cond ends (b ∷ text) (after_word text))
first_byte b text ends is =
    let first = first_word-cons b text ∙ ap (λ e. cond e [] (b ∷ first_word text)) is in
    let after = after_word-cons b text ∙ ap (λ e. cond e (b ∷ text) (after_word text)) is in
    ap (λ w. w ∷ words_after (after_word (b ∷ text))) first ∙ ap (λ l. cond ends [] (b ∷ first_word text) ∷ words_after l) after

line_of : (feed : Bool) (b : ℕ) (text : List ℕ) → (b == 10) ≡ feed → words_in (b ∷ text) ≡ pieces 32 (cond feed [] (b ∷ first_line text))
line_of feed b text is = words_in-is (b ∷ text) ∙ ap (pieces 32) (first_line-cons b text ∙ ap (λ e. cond e [] (b ∷ first_line text)) is)

next_of_byte : (space : Bool) (b : ℕ) (text : List ℕ) → (b == 32) ≡ space → words_after (b ∷ text) ≡ cond space (words_in text) []
next_of_byte space b text is = words_after-cons b text ∙ ap (λ e. cond e (words_in text) []) is

cut_word : (feed space : Bool) (b : ℕ) (text : List ℕ) → (b == 10) ≡ feed → (b == 32) ≡ space → words_in text ≡ first_word text ∷ words_after (after_word text)
    → words_in (b ∷ text) ≡ first_word (b ∷ text) ∷ words_after (after_word (b ∷ text))
cut_word true true b text f s rest = absurd (grind (arith, nat_tests, f, s))
cut_word true false b text f s rest =
    let ends : ends_word b ≡ true = ap (λ c. c || (b == 10)) s ∙ f in
    line_of true b text f ∙ sym (first_byte b text true ends ∙ ap (λ l. [] ∷ l) (next_of_byte false b text s))
cut_word false true b text f s rest =
    let ends : ends_word b ≡ true = ap (λ c. c || (b == 10)) s in
    let cut = slice_split-cons_yes (λ x. x == 32) b (first_line text) s in
    line_of false b text f ∙ (cut ∙ (ap (λ l. [] ∷ l) (sym (words_in-is text)) ∙ sym (first_byte b text true ends ∙ ap (λ l. [] ∷ l) (next_of_byte true b text s))))
cut_word false false b text f s rest =
    let ends : ends_word b ≡ false = ap (λ c. c || (b == 10)) s ∙ f in
    let cut = slice_split-cons_no (λ x. x == 32) b (first_line text) s in
    line_of false b text f ∙ (cut ∙ (ap (onto_first b) (sym (words_in-is text) ∙ rest) ∙ sym (first_byte b text false ends)))

-- the words of a line are its first word and those after it
pub words : (text : List ℕ) → words_in text ≡ first_word text ∷ words_after (after_word text)
unfolding first_word after_word first_line words_in words_after
words [] = refl
words (b ∷ text) = cut_word (b == 10) (b == 32) b text refl refl (words text)

cut_below : (feed space : Bool) (b : ℕ) (text : List ℕ) → (b == 10) ≡ feed → (b == 32) ≡ space → below text ≡ below (after_word text)
    → below (b ∷ text) ≡ below (after_word (b ∷ text))
cut_below true true b text f s rest = rw (after_word-cons b text, f, s) refl
cut_below true false b text f s rest = rw (after_word-cons b text, f, s) refl
cut_below false true b text f s rest = rw (after_word-cons b text, f, s) refl
cut_below false false b text f s rest = rw (after_word-cons b text, f, s, below-cons b text, f) rest

-- after the first word the same lines are below
pub same_below : (text : List ℕ) → below text ≡ below (after_word text)
unfolding after_word
same_below [] = refl
same_below (b ∷ text) = cut_below (b == 10) (b == 32) b text refl refl (same_below text)

-- ---- one word after the other

-- the line has no other word
pub one_word : (text left : List ℕ) → left ≡ after_word text → words_after left ≡ [] → words_in text ≡ first_word text ∷ []
one_word text left after none = words text ∙ ap (λ l. first_word text ∷ l) (ap words_after (sym after) ∙ none)

-- the other words of the line begin here
pub more_words : (text left next : List ℕ) → left ≡ after_word text → HasNext left next → words_in text ≡ first_word text ∷ words_in next
more_words text left next after has = words text ∙ ap (λ l. first_word text ∷ l) (ap words_after (sym after) ∙ has.words)

pub first_words : (text left : List ℕ) → left ≡ after_word text → words_in text ≡ first_word text ∷ words_after left
first_words text left after = words text ∙ ap (λ l. first_word text ∷ words_after l) (sym after)

pub under_word : (text left : List ℕ) → left ≡ after_word text → below text ≡ below left
under_word text left after = same_below text ∙ ap below (sym after)

pub under_words : (text left next : List ℕ) → left ≡ after_word text → HasNext left next → below text ≡ below next
under_words text left next after has = under_word text left after ∙ has.under

-- what one says, the other says too
pub same_says : {A : Type 0} (said other : Option A) (under lines : List (List ℕ)) (r : Option (A × Option (Bor (List ℕ)))) → said ≡ other → under ≡ lines
    → MatchOption r (other ≡ None) (λ x. Says other lines x.0 x.1) → MatchOption r (said ≡ None) (λ x. Says said under x.0 x.1)
same_says said other under lines r p q is = rw (p, q) is

-- below a line that was cut off
pub after_line : (text first : List ℕ) (others : List (List ℕ)) → pieces 10 text ≡ first ∷ others → others ≡ below text
after_line text first others is =
    let same : first ∷ others ≡ first_line text ∷ below text = sym is ∙ lines text in cc

-- ---- the end of a word

-- so far no byte ends the word
pub record IsWithin (text : List ℕ) (at : ℕ) : Type 0 where
  pub first : first_word text ≡ take at text ++ first_word (drop at text)
  pub after : after_word text ≡ after_word (drop at text)

pub one_more : (text : List ℕ) (at : ℕ) → at < length text → ends_word (get_or text at 0) ≡ false → IsWithin text at → IsWithin text (at + 1)
one_more text at within other is =
    let b = get_or text at 0 in
    let rest = drop (at + 1) text in
    let here = drop_more text at 0 within in
    let first : first_word (drop at text) ≡ b ∷ first_word rest = ap first_word here ∙ (first_word-cons b rest ∙ ap (λ c. cond c [] (b ∷ first_word rest)) other) in
    let after : after_word (drop at text) ≡ after_word rest = ap after_word here ∙ (after_word-cons b rest ∙ ap (λ c. cond c (b ∷ rest) (after_word rest)) other) in
    record {
      first = is.first ∙ (ap (λ l. take at text ++ l) first ∙ (sym (append_assoc (take at text) (b ∷ []) (first_word rest)) ∙ ap (λ l. l ++ first_word rest) (sym (take_more text at 0 within))));
      after = is.after ∙ after;
    }

pub ends_here : (text : List ℕ) (at : ℕ) → at < length text → ends_word (get_or text at 0) ≡ true → IsWithin text at
    → IsFront text (take at text) (take (length text - at) (drop at text))
ends_here text at within ends is =
    let b = get_or text at 0 in
    let rest = drop (at + 1) text in
    let here = drop_more text at 0 within in
    let whole : take (length text - at) (drop at text) ≡ drop at text = take_all _ (drop at text) (omega (arith, length-drop at text)) in
    let first : first_word (drop at text) ≡ [] = ap first_word here ∙ (first_word-cons b rest ∙ ap (λ c. cond c [] (b ∷ first_word rest)) ends) in
    let after : after_word (drop at text) ≡ drop at text = ap after_word here ∙ (after_word-cons b rest ∙ (ap (λ c. cond c (b ∷ rest) (after_word rest)) ends ∙ sym here)) in
    record {
      first = sym (is.first ∙ (ap (λ l. take at text ++ l) first ∙ append-nil (take at text)));
      after = whole ∙ sym (is.after ∙ after);
    }

pub ends_last : (text : List ℕ) (at : ℕ) → length text ≤ at → IsWithin text at → IsFront text text []
ends_last text at past is =
    let all : take at text ≡ text = take_all at text past in
    let none : drop at text ≡ [] = nil_from_length (drop at text) (omega (arith, length-drop at text)) in
    record {
      first = sym (is.first ∙ (ap (λ l. take at text ++ first_word l) none ∙ (ap (λ l. take at text ++ l) word_none ∙ (append-nil (take at text) ∙ all))));
      after = sym (is.after ∙ (ap after_word none ∙ after_none));
    }

-- ---- remarks

pub remark_none : (text : List ℕ) → length text ≡ 0 → is_remark (first_line text) ≡ true
unfolding first_line
remark_none [] is = refl
remark_none (b ∷ text) is = absurd (omega (arith, is))

pub remark_feed : (text : List ℕ) → slice_index_or text 0 0 ≡ 10 → nat_eq (slice_index_or text 0 0) 10 ≡ is_remark (first_line text)
unfolding first_line
remark_feed [] is = absurd (omega (arith, is))
remark_feed (b ∷ text) is = let feed : (b == 10) ≡ true = grind (arith, nat_tests, is) in rw feed refl

pub remark_other : (text : List ℕ) → 1 ≤ length text → slice_index_or text 0 0 ≢ 10 → nat_eq (slice_index_or text 0 0) 35 ≡ is_remark (first_line text)
unfolding first_line
remark_other [] some is = absurd (omega (arith, some))
remark_other (b ∷ text) some is = let other : (b == 10) ≡ false = grind (arith, nat_tests, is) in rw other (grind (arith, nat_tests))

-- ---- the next word

pub none_after : (text : List ℕ) → length text ≡ 0 → words_after text ≡ []
unfolding words_after
none_after [] is = refl
none_after (b ∷ text) is = absurd (omega (arith, is))

pub other_after : (text : List ℕ) → slice_index_or text 0 0 ≢ 32 → words_after text ≡ []
unfolding words_after
other_after [] is = refl
other_after (b ∷ text) is = let other : (b == 32) ≡ false = grind (arith, nat_tests, is) in rw other refl

next_of : (text : List ℕ) → 1 ≤ length text → slice_index_or text 0 0 ≡ 32 → HasNext text (drop 1 text)
unfolding words_after below
next_of [] some is = absurd (omega (arith, some))
next_of (b ∷ text) some is =
    let space : (b == 32) ≡ true = grind (arith, nat_tests, is) in
    let other : (b == 10) ≡ false = grind (arith, nat_tests, is) in
    record { words = rw space refl; under = rw other refl }

pub next_is : (text : List ℕ) → 1 ≤ length text → slice_index_or text 0 0 ≡ 32 → HasNext text (take (length text - 1) (drop 1 text))
next_is text some is =
    let whole : take (length text - 1) (drop 1 text) ≡ drop 1 text = take_all _ (drop 1 text) (omega (arith, length-drop 1 text)) in rw whole (next_of text some is)
