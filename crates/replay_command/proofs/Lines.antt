-- How reading goes on over one line, and over one word.
use Rattle.std.proofs.Common.{◌≡◌, ℕ, ◌+◌, List, [], ◌∷◌, ◌++◌, Result, Ok, Err, refl, ap, sym, ◌∙◌, append_assoc}
use Rattle.rv32_image.specs.ImageText.{pieces}
use Rattle.rv32_image.specs.Parts.{lines_above, lines_below}
use Rattle.trace_text.specs.declared.fault.TraceFault.{TraceFault}
use Rattle.trace_text.specs.declared.fault.TraceFaultKind.{TraceFaultKind}
use Rattle.trace_text.specs.Reading.{IsFaultOf}
use Rattle.trace_text.proofs.Lines.{same_fault}
use Rattle.replay_command.specs.Turns.{joined, line_read, lines_read, schedule_text, turns_prefix, word_read, words_read}

-- ---- turns

joined-assoc : (old new : List ℕ) (r q : Result (List ℕ) TraceFault) → joined (Ok old) r ≡ Ok new
    → joined (Ok old) (joined r q) ≡ joined (Ok new) q
joined-assoc old new (Ok xs) (Ok ys) is = let same : old ++ xs ≡ new = cc in sym (ap Ok (append_assoc old xs ys)) ∙ ap (λ l. Ok (l ++ ys)) same
joined-assoc old new (Ok xs) (Err fault) is = refl
joined-assoc old new (Err fault) q is = absurd cc

joined-err : (old : List ℕ) (fault : TraceFault) (r q : Result (List ℕ) TraceFault) → joined (Ok old) r ≡ Err fault
    → joined (Ok old) (joined r q) ≡ Err fault
joined-err old fault (Ok xs) q is = absurd cc
joined-err old fault (Err f) q is = is

-- no turns before
pub onto_none : (r : Result (List ℕ) TraceFault) → joined (Ok []) r ≡ r
onto_none (Ok turns) = refl
onto_none (Err fault) = refl

-- ---- lines of turns

-- these are the lines below the image
pub schedule_text-is : (cores : ℕ) (text : List ℕ) (n : ℕ) (lines : List (List ℕ)) → n ≡ lines_above turns_prefix (pieces 10 text) + 1
    → lines ≡ lines_below turns_prefix (pieces 10 text) → schedule_text cores text ≡ lines_read cores n lines
unfolding schedule_text
schedule_text-is cores text n lines first below = rw (first, below) refl

pub lines_read-none : (cores : ℕ) (old : List ℕ) (n : ℕ) → joined (Ok old) (lines_read cores n []) ≡ Ok (old ++ [])
unfolding lines_read
lines_read-none cores old n = refl

-- a line that was read leads on to the lines after it
pub lines_read-ok : (cores : ℕ) (old new : List ℕ) (n : ℕ) (line : List ℕ) (lines : List (List ℕ)) → joined (Ok old) (line_read cores n line) ≡ Ok new
    → joined (Ok old) (lines_read cores n (line ∷ lines)) ≡ joined (Ok new) (lines_read cores (n + 1) lines)
unfolding lines_read
lines_read-ok cores old new n line lines is = joined-assoc old new (line_read cores n line) (lines_read cores (n + 1) lines) is

lines_read-err : (cores : ℕ) (old : List ℕ) (fault : TraceFault) (n : ℕ) (line : List ℕ) (lines : List (List ℕ)) → joined (Ok old) (line_read cores n line) ≡ Err fault
    → joined (Ok old) (lines_read cores n (line ∷ lines)) ≡ Err fault
unfolding lines_read
lines_read-err cores old fault n line lines is = joined-err old fault (line_read cores n line) (lines_read cores (n + 1) lines) is

-- the fault of a line is the fault of the text, where the lines before it were read
pub fault_of_line : (kind : TraceFaultKind) (fault : TraceFault) (cores : ℕ) (old : List ℕ) (n : ℕ) (line : List ℕ) (lines : List (List ℕ)) (whole : Result (List ℕ) TraceFault)
    → joined (Ok old) (lines_read cores n (line ∷ lines)) ≡ whole → IsFaultOf kind fault (joined (Ok old) (line_read cores n line)) → IsFaultOf kind fault whole
fault_of_line kind fault cores old n line lines whole same is =
    same_fault kind fault (joined (Ok old) (line_read cores n line)) whole (λ e. sym same ∙ lines_read-err cores old fault n line lines e) is

-- ---- words of a line

pub words_read-none : (cores : ℕ) (old : List ℕ) (n : ℕ) → joined (Ok old) (words_read cores n []) ≡ Ok (old ++ [])
unfolding words_read
words_read-none cores old n = refl

pub words_read-ok : (cores : ℕ) (old new : List ℕ) (n : ℕ) (word : List ℕ) (words : List (List ℕ)) → joined (Ok old) (word_read cores n word) ≡ Ok new
    → joined (Ok old) (words_read cores n (word ∷ words)) ≡ joined (Ok new) (words_read cores n words)
unfolding words_read
words_read-ok cores old new n word words is = joined-assoc old new (word_read cores n word) (words_read cores n words) is

words_read-err : (cores : ℕ) (old : List ℕ) (fault : TraceFault) (n : ℕ) (word : List ℕ) (words : List (List ℕ)) → joined (Ok old) (word_read cores n word) ≡ Err fault
    → joined (Ok old) (words_read cores n (word ∷ words)) ≡ Err fault
unfolding words_read
words_read-err cores old fault n word words is = joined-err old fault (word_read cores n word) (words_read cores n words) is

-- the fault of a word is the fault of the line, where the words before it were read
pub fault_of_word : (kind : TraceFaultKind) (fault : TraceFault) (cores : ℕ) (old : List ℕ) (n : ℕ) (word : List ℕ) (words : List (List ℕ)) (whole : Result (List ℕ) TraceFault)
    → joined (Ok old) (words_read cores n (word ∷ words)) ≡ whole → IsFaultOf kind fault (joined (Ok old) (word_read cores n word)) → IsFaultOf kind fault whole
fault_of_word kind fault cores old n word words whole same is =
    same_fault kind fault (joined (Ok old) (word_read cores n word)) whole (λ e. sym same ∙ words_read-err cores old fault n word words e) is
