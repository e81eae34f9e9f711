-- No line of an image begins a trace.
use Rattle.std.proofs.Common.{◌≡◌, ℕ, ◌+◌, ◌≤◌, ◌==◌, Bool, true, false, cond, List, [], ◌∷◌, ◌++◌, length, take, drop, codes, nat_lt, Result, Ok, Err, refl, ap, sym, subst, ◌∙◌, append_assoc, length-append, arith}
use Rattle.std.proofs.lemmas.Bool.Decides.{Decides-eqb, nat_tests}
use Rattle.std.proofs.lemmas.List.Splits.{length-slice_split}
use Rattle.std.proofs.lemmas.List.{drop_at, take_at}
use Rattle.std.proofs.lemmas.Slice.Eq.{starts_is}
use Rattle.rv32_image.specs.declared.fault.ImageFault.{ImageFault}
use Rattle.rv32_image.specs.declared.fault.ImageFaultKind.{ImageFaultKind}
use Rattle.rv32_image.specs.declared.fault.ImageFaultKind.TheVariants as kind
use Rattle.rv32_image.specs.Image.{LoadedImage}
use Rattle.rv32_image.specs.ImageText.{Draft, blank, image_text, is_remark, line_read, lines_read, longest_image_text, on_line, pieces, then_finished, three_words, two_words, words_read}
use Rattle.rv32_image.specs.Parts.{begins_with, bytes_of, lines_above, lines_below}
use Rattle.rv32_image.proofs.LinesAbove.{bytes_above, bytes_of-split, image_above-is, lines_above-head, lines_above-more}
use Rattle.trace_text.specs.Laws.{ReadsBack}
use Rattle.trace_text.specs.Printing.{printed_trace}
use Rattle.trace_text.specs.TraceText.{image_part, trace_prefix}
use Rattle.trace_text.proofs.Lines.{trace_text-is}
use Rattle.trace_text.proofs.Words.{split_append}
use Rattle.trace_text.proofs.ReadsBack.{few_cores, head_body, pieces_trace, trace_at-printed, trace_lines}

-- ---- a line that begins a trace is no line of an image

trace_first : (line : List ℕ) → begins_with trace_prefix line ≡ true → line ≡ codes "trace " ++ drop 6 line
trace_first line is = (starts_is Decides-eqb line (codes "trace ") (begins_with trace_prefix line) refl).0 is

words_trace : (draft : Draft) (words : List (List ℕ)) → 1 ≤ length words → words_read draft (codes "trace" ∷ words) ≡ Err kind.Line
unfolding two_words three_words
words_trace draft [] some = absurd (omega arith)
words_trace draft (a ∷ []) some = refl
words_trace draft (a ∷ b ∷ []) some = refl
words_trace draft (a ∷ b ∷ c ∷ more) some = refl

no_remark : (rest : List ℕ) → is_remark (codes "trace " ++ rest) ≡ false
no_remark rest = grind (arith, nat_tests)

of_words : (draft : Draft) (remark : Bool) (words rest : List (List ℕ)) → remark ≡ false → words ≡ codes "trace" ∷ rest → 1 ≤ length rest
    → cond remark (Ok draft) (words_read draft words) ≡ Err kind.Line
of_words draft remark words rest other is some = rw (other, is) (words_trace draft rest some)

trace_line : (draft : Draft) (rest : List ℕ) → line_read draft (codes "trace " ++ rest) ≡ Err kind.Line
unfolding line_read
trace_line draft rest =
    let cut : pieces 32 (codes "trace " ++ rest) ≡ codes "trace" ∷ pieces 32 rest = split_append (λ b. b == 32) 32 (codes "trace") rest refl in
    let some : 1 ≤ length (pieces 32 rest) = omega (arith, length-slice_split (λ b. b == 32) rest) in
    of_words draft (is_remark (codes "trace " ++ rest)) (pieces 32 (codes "trace " ++ rest)) (pieces 32 rest) (no_remark rest) cut some

refused : (draft : Draft) (line : List ℕ) → begins_with trace_prefix line ≡ true → line_read draft line ≡ Err kind.Line
refused draft line is = ap (line_read draft) (trace_first line is) ∙ trace_line draft (drop 6 line)

either_begins : (draft read : Draft) (line : List ℕ) (b : Bool) → begins_with trace_prefix line ≡ b → line_read draft line ≡ Ok read → b ≡ false
either_begins draft read line true is ok = let no = refused draft line is in absurd cc
either_begins draft read line false is ok = refl

-- ---- so no line of an image does

abbrev NoTrace : List (List ℕ) → Type 0
NoTrace [] = Unit {0}
NoTrace (line ∷ lines) = (begins_with trace_prefix line ≡ false) × NoTrace lines

on_line_ok : (n : ℕ) (read : Result Draft ImageFaultKind) (next : Draft → Result Draft ImageFault) (last : Draft) → on_line n read next ≡ Ok last
    → (draft : Draft) × (read ≡ Ok draft) × (next draft ≡ Ok last)
on_line_ok n (Ok draft) next last is = (draft, refl, is)
on_line_ok n (Err kind) next last is = absurd cc

no_trace : (n : ℕ) (draft last : Draft) (lines : List (List ℕ)) → lines_read n draft lines ≡ Ok last → NoTrace lines
unfolding lines_read
no_trace n draft last [] is = tt
no_trace n draft last (line ∷ lines) is =
    let step = on_line_ok n (line_read draft line) (λ next. lines_read (n + 1) next lines) last is in
    (either_begins draft step.0 line (begins_with trace_prefix line) refl step.1, no_trace (n + 1) step.0 last lines step.2)

short_enough : (b : Bool) (fault : ImageFault) (said : Result LoadedImage ImageFault) (image : LoadedImage) → cond b (Err fault) said ≡ Ok image → said ≡ Ok image
short_enough true fault said image is = absurd cc
short_enough false fault said image is = is

some_draft : (said : Result Draft ImageFault) (image : LoadedImage) → then_finished said ≡ Ok image → (draft : Draft) × (said ≡ Ok draft)
some_draft (Ok draft) image is = (draft, refl)
some_draft (Err fault) image is = absurd cc

of_image : (text : List ℕ) (image : LoadedImage) → image_text text ≡ Ok image → NoTrace (pieces 10 text)
unfolding image_text
of_image text image is =
    let read = some_draft (lines_read 1 blank (pieces 10 text)) image (short_enough (nat_lt longest_image_text (length text)) _ _ image is) in
    no_trace 1 blank read.0 (pieces 10 text) read.1

first_lines : (first others : List (List ℕ)) → NoTrace (first ++ others) → NoTrace first
first_lines [] others none = tt
first_lines (line ∷ first) others none = (none.0, first_lines first others none.1)

-- ---- the image ends above the trace

skipped : (first others : List (List ℕ)) → NoTrace first → lines_above trace_prefix (first ++ others) ≡ length first + lines_above trace_prefix others
skipped [] others none = omega arith
skipped (line ∷ first) others none = omega (arith, lines_above-more trace_prefix line (first ++ others) none.0, skipped first others none.1)

pub reads_back : ReadsBack
unfolding image_part
reads_back lines image cores entries is count are short =
    let printed = printed_trace cores entries in
    let text = lines ++ codes "\n" ++ printed in
    let head = head_body cores in
    let below = trace_lines entries in
    let first = pieces 10 lines in
    let feed : pieces 10 (lines ++ codes "\n") ≡ first ++ [] ∷ [] = split_append (λ b. b == 10) 10 lines [] refl in
    let none : NoTrace first = first_lines first ([] ∷ []) (subst NoTrace feed (of_image (lines ++ codes "\n") image is)) in
    let cut : pieces 10 text ≡ first ++ head ∷ below =
    ap (pieces 10) (append_assoc lines (codes "\n") printed)
    ∙ (split_append (λ b. b == 10) 10 lines printed refl ∙ ap (λ l. first ++ l) (pieces_trace cores entries (few_cores image.version cores count) are)) in
    let at : lines_above trace_prefix (pieces 10 text) ≡ length first =
    omega (arith, ap (lines_above trace_prefix) cut, skipped first (head ∷ below) none, lines_above-head trace_prefix head below refl) in
    let from : lines_below trace_prefix (pieces 10 text) ≡ head ∷ below =
    ap (λ n. drop n (pieces 10 text)) at ∙ (ap (drop (length first)) cut ∙ drop_at first (head ∷ below) (length first) refl) in
    let bytes : bytes_above trace_prefix (pieces 10 text) ≡ length lines + 1 =
    ap (λ n. bytes_of (take n (pieces 10 text))) at
    ∙ (ap (λ l. bytes_of (take (length first) l)) cut ∙ (ap bytes_of (take_at first (head ∷ below) (length first) refl) ∙ bytes_of-split (λ b. b == 10) lines)) in
    let n = lines_above trace_prefix (pieces 10 text) + 1 in
    record {
      image = image_above-is trace_prefix text (length lines + 1) bytes ∙ take_at (lines ++ codes "\n") printed (length lines + 1) (omega (arith, length-append lines (codes "\n")));
      trace = trace_text-is image.version text n (head ∷ below) short refl (sym from) ∙ trace_at-printed image.version n cores entries count are;
    }
