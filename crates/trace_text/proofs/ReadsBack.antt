-- A trace that is printed is read back as it was.
use Rattle.std.proofs.Common.{◌≡◌, ℕ, ◌+◌, ◌<◌, ◌^◌, ◌==◌, true, false, not, nat_lt, List, [], ◌∷◌, ◌++◌, length, map, codes, Some, Ok, refl, ap, subst, ◌∙◌, append_assoc, arith}
use Rattle.std.proofs.lemmas.List.{append-nil}
use Rattle.std.proofs.lemmas.Bool.Decides.{nat_tests}
use Rattle.std.proofs.lemmas.Fmt.{decimal_nonempty}
use Rattle.std.specs.Char.{is_ascii_digit}
use Rattle.std.specs.Fmt.{decimal}
use Rattle.std.specs.List.{flat_map, list_all}
use Rattle.rv32_image.specs.declared.version.Version.{Version}
use Rattle.rv32_image.specs.declared.version.Version.TheVariants.{One, Two}
use Rattle.rv32_image.specs.ImageText.{is_remark, pieces}
use Rattle.rv32_image.proofs.Printed.{decimal_all_digits, number_in-decimal, word_in-hex}
use Rattle.spec_history.specs.declared.entry.Entry.{Entry}
use Rattle.spec_history.specs.declared.entry.What.{What}
use Rattle.spec_history.specs.declared.entry.What.TheVariants.{Start, Load, Store, Hurt, Cancel, Restart, Publish, Commit, Fault}
use Rattle.trace_text.specs.Printing.{entry_line, head_line, hex_word, printed_trace, what_text}
use Rattle.trace_text.specs.Laws.{IsWhat, AreEntries}
use Rattle.trace_text.specs.TraceText.{cores_in, digits, entry_in, four_words, is_core_count, line_read, lines_read, number, one_word, three_words, trace_at, two_words, what_in}
use Rattle.trace_text.proofs.Lines.{trace_at-ok}
use Rattle.trace_text.proofs.Words.{AreWords, IsWord, decimal_word, hex_word_word, pieces_spaced, spaced, spaced_line, split_append, split_none}

-- ---- numbers

number-decimal : (n : ℕ) → n < 2 ^ 32 → number (decimal n) ≡ Some n
unfolding number
number-decimal n small = let below : nat_lt n (2 ^ 32) ≡ true = grind (arith, nat_tests) in rw (number_in-decimal n (omega arith), below) refl

-- a word of hexadecimal digits says the number that it was made of
pub digits-hex : (n : ℕ) → n < 2 ^ 32 → digits (hex_word n) ≡ Some n
unfolding digits
digits-hex n small = rw (word_in-hex n small) refl

-- ---- entries

-- the words of an entry after its core
abbrev pub words_of : What → List (List ℕ)
words_of (Start epoch) = codes "start" ∷ decimal epoch ∷ []
words_of (Load address width value) = codes "load" ∷ hex_word address ∷ decimal width ∷ hex_word value ∷ []
words_of (Store address width value) = codes "store" ∷ hex_word address ∷ decimal width ∷ hex_word value ∷ []
words_of (Hurt epoch) = codes "hurt" ∷ decimal epoch ∷ []
words_of (Cancel epoch) = codes "cancel" ∷ decimal epoch ∷ []
words_of Restart = codes "restart" ∷ []
words_of Publish = codes "publish" ∷ []
words_of Commit = codes "commit" ∷ []
words_of (Fault cause pc) = codes "fault" ∷ decimal cause ∷ hex_word pc ∷ []

-- the line of an entry without its line feed
abbrev pub body : Entry → List ℕ
body entry = spaced (decimal entry.by) (words_of entry.what)

keyword : (w : List ℕ) → list_all (λ b. not (b == 10)) w ≡ true → list_all (λ b. not (b == 32)) w ≡ true → IsWord w
keyword w p q = record { no_feed = p; no_space = q }

are_words : (by : ℕ) (what : What) → by < 2 ^ 32 → IsWhat what → AreWords (decimal by) (words_of what)
are_words by (Start epoch) small is = (decimal_word by small, (keyword (codes "start") refl refl, decimal_word epoch is))
are_words by (Load address width value) small is =
    (decimal_word by small, (keyword (codes "load") refl refl, (hex_word_word address, (decimal_word width is.1, hex_word_word value))))
are_words by (Store address width value) small is =
    (decimal_word by small, (keyword (codes "store") refl refl, (hex_word_word address, (decimal_word width is.1, hex_word_word value))))
are_words by (Hurt epoch) small is = (decimal_word by small, (keyword (codes "hurt") refl refl, decimal_word epoch is))
are_words by (Cancel epoch) small is = (decimal_word by small, (keyword (codes "cancel") refl refl, decimal_word epoch is))
are_words by Restart small is = (decimal_word by small, keyword (codes "restart") refl refl)
are_words by Publish small is = (decimal_word by small, keyword (codes "publish") refl refl)
are_words by Commit small is = (decimal_word by small, keyword (codes "commit") refl refl)
are_words by (Fault cause pc) small is = (decimal_word by small, (keyword (codes "fault") refl refl, (decimal_word cause is.0, hex_word_word pc)))

regroup : (k a w v : List ℕ) → k ++ (a ++ 32 ∷ [] ++ w ++ 32 ∷ [] ++ v) ≡ k ++ (a ++ 32 ∷ (w ++ 32 ∷ v))
regroup k a w v = ap (λ l. k ++ l) (simp append_assoc)

pair : (k a w : List ℕ) → k ++ a ++ 32 ∷ [] ++ w ≡ k ++ (a ++ 32 ∷ w)
pair k a w = simp append_assoc

-- what is printed of an entry, before the line feed
line_of : (by : ℕ) (what : What) → decimal by ++ codes " " ++ what_text what ≡ spaced (decimal by) (words_of what)
line_of by (Start epoch) = append_assoc (decimal by) (codes " ") _
line_of by (Load address width value) =
    append_assoc (decimal by) (codes " ") _ ∙ ap (λ l. decimal by ++ 32 ∷ l) (regroup (codes "load ") (hex_word address) (decimal width) (hex_word value))
line_of by (Store address width value) =
    append_assoc (decimal by) (codes " ") _ ∙ ap (λ l. decimal by ++ 32 ∷ l) (regroup (codes "store ") (hex_word address) (decimal width) (hex_word value))
line_of by (Hurt epoch) = append_assoc (decimal by) (codes " ") _
line_of by (Cancel epoch) = append_assoc (decimal by) (codes " ") _
line_of by Restart = append_assoc (decimal by) (codes " ") _
line_of by Publish = append_assoc (decimal by) (codes " ") _
line_of by Commit = append_assoc (decimal by) (codes " ") _
line_of by (Fault cause pc) =
    append_assoc (decimal by) (codes " ") _ ∙ ap (λ l. decimal by ++ 32 ∷ l) (pair (codes "fault ") (decimal cause) (hex_word pc))

entry_in-words : (by : ℕ) (what : What) → by < 2 ^ 32 → IsWhat what → entry_in (decimal by ∷ words_of what) ≡ Some (record { by = by; what = what })
unfolding entry_in what_in one_word two_words three_words four_words
entry_in-words by (Start epoch) small is = rw (number-decimal by small, number-decimal epoch is) refl
entry_in-words by (Load address width value) small is = rw (number-decimal by small, digits-hex address is.0, number-decimal width is.1, digits-hex value is.2) refl
entry_in-words by (Store address width value) small is = rw (number-decimal by small, digits-hex address is.0, number-decimal width is.1, digits-hex value is.2) refl
entry_in-words by (Hurt epoch) small is = rw (number-decimal by small, number-decimal epoch is) refl
entry_in-words by (Cancel epoch) small is = rw (number-decimal by small, number-decimal epoch is) refl
entry_in-words by Restart small is = rw (number-decimal by small) refl
entry_in-words by Publish small is = rw (number-decimal by small) refl
entry_in-words by Commit small is = rw (number-decimal by small) refl
entry_in-words by (Fault cause pc) small is = rw (number-decimal by small, number-decimal cause is.0, digits-hex pc is.1) refl

-- ---- lines

-- the lines of the entries, and what follows the last line feed
abbrev pub trace_lines : List Entry → List (List ℕ)
trace_lines entries = map body entries ++ [] ∷ []

digit_first : (x : ℕ) (w : List ℕ) → list_all is_ascii_digit (x ∷ w) ≡ true → not (x == 35) ≡ true
digit_first x w digits = grind (arith, nat_tests)

begins_no_remark : (d rest : List ℕ) → 0 < length d → list_all is_ascii_digit d ≡ true → is_remark (d ++ rest) ≡ false
begins_no_remark [] rest some digits = absurd (omega arith)
begins_no_remark (x ∷ d) rest some digits = let other = digit_first x d digits in grind (arith, nat_tests, other)

spaced_no_remark : (d : List ℕ) (words : List (List ℕ)) → 0 < length d → list_all is_ascii_digit d ≡ true → is_remark (spaced d words) ≡ false
spaced_no_remark d [] some digits = subst (λ l. is_remark l ≡ false) (append-nil d) (begins_no_remark d [] some digits)
spaced_no_remark d (next ∷ words) some digits = begins_no_remark d (32 ∷ spaced next words) some digits

body_no_remark : (entry : Entry) → entry.by < 2 ^ 32 → is_remark (body entry) ≡ false
body_no_remark entry small =
    let d = decimal entry.by in
    let fits : entry.by < 2 ^ 64 = omega arith in
    spaced_no_remark d (words_of entry.what) (decimal_nonempty entry.by fits) (decimal_all_digits entry.by fits)

line_read-entry : (n : ℕ) (entry : Entry) → entry.by < 2 ^ 32 → IsWhat entry.what → line_read n (body entry) ≡ Ok (entry ∷ [])
unfolding line_read
line_read-entry n entry small is =
    rw (body_no_remark entry small, pieces_spaced (decimal entry.by) (words_of entry.what) (are_words entry.by entry.what small is), entry_in-words entry.by entry.what small is) refl

lines_read-entries : (n : ℕ) (entries : List Entry) → AreEntries entries → lines_read n (trace_lines entries) ≡ Ok entries
unfolding lines_read line_read
lines_read-entries n [] are = refl
lines_read-entries n (entry ∷ entries) are = rw (line_read-entry n entry are.0 are.1, lines_read-entries (n + 1) entries are.2) refl

-- ---- the text

-- a line with its line feed is cut off
cut_line : (line rest : List ℕ) → list_all (λ b. not (b == 10)) line ≡ true → pieces 10 (line ++ 10 ∷ rest) ≡ line ∷ pieces 10 rest
cut_line line rest is = split_append (λ b. b == 10) 10 line rest refl ∙ ap (λ l. l ++ pieces 10 rest) (split_none (λ b. b == 10) line is)

entry_line-body : (entry : Entry) (rest : List ℕ) → entry_line entry ++ rest ≡ body entry ++ 10 ∷ rest
unfolding entry_line
entry_line-body entry rest = ap (λ l. l ++ codes "\n" ++ rest) (line_of entry.by entry.what) ∙ append_assoc (body entry) (codes "\n") rest

pieces_entries : (entries : List Entry) → AreEntries entries → pieces 10 (flat_map entry_line entries) ≡ trace_lines entries
pieces_entries [] are = refl
pieces_entries (entry ∷ entries) are =
    ap (pieces 10) (entry_line-body entry (flat_map entry_line entries))
    ∙ (cut_line (body entry) (flat_map entry_line entries) (spaced_line (decimal entry.by) (words_of entry.what) (are_words entry.by entry.what are.0 are.1))
    ∙ ap (λ l. body entry ∷ l) (pieces_entries entries are.2))

abbrev pub head_body : ℕ → List ℕ
head_body cores = spaced (codes "trace") (decimal cores ∷ [])

head_words : (cores : ℕ) → cores < 2 ^ 32 → AreWords (codes "trace") (decimal cores ∷ [])
head_words cores small = (keyword (codes "trace") refl refl, decimal_word cores small)

pub pieces_trace : (cores : ℕ) (entries : List Entry) → cores < 2 ^ 32 → AreEntries entries
    → pieces 10 (printed_trace cores entries) ≡ head_body cores ∷ trace_lines entries
unfolding printed_trace head_line
pieces_trace cores entries small are =
    ap (pieces 10) (append_assoc (head_body cores) (codes "\n") (flat_map entry_line entries))
    ∙ (cut_line (head_body cores) (flat_map entry_line entries) (spaced_line (codes "trace") (decimal cores ∷ []) (head_words cores small))
    ∙ ap (λ l. head_body cores ∷ l) (pieces_entries entries are))

pub few_cores : (version : Version) (cores : ℕ) → is_core_count version cores ≡ true → cores < 2 ^ 32
few_cores One cores is = grind (arith, nat_tests)
few_cores Two cores is = grind (arith, nat_tests)

cores_in-head : (version : Version) (cores : ℕ) → is_core_count version cores ≡ true → cores_in version (pieces 32 (head_body cores)) ≡ Some cores
unfolding cores_in
cores_in-head version cores is =
    let small = few_cores version cores is in
    rw (pieces_spaced (codes "trace") (decimal cores ∷ []) (head_words cores small), number-decimal cores small, is) refl

-- the trace at its head
pub trace_at-printed : (version : Version) (n cores : ℕ) (entries : List Entry) → is_core_count version cores ≡ true → AreEntries entries
    → trace_at version n (head_body cores ∷ trace_lines entries) ≡ Ok (record { cores = cores; entries = entries })
trace_at-printed version n cores entries is are =
    trace_at-ok version n (head_body cores) (trace_lines entries) cores entries (cores_in-head version cores is) (lines_read-entries (n + 1) entries are)
