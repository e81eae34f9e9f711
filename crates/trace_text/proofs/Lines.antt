-- How reading goes on over one line.
use Rattle.std.proofs.Common.{◌≡◌, ℕ, ◌+◌, ◌≤◌, nat_lt, false, List, [], ◌∷◌, ◌++◌, length, Some, None, Result, Ok, Err, refl, ap, sym, ◌∙◌, append_assoc, arith}
use Rattle.std.proofs.lemmas.Bool.Decides.{nat_tests}
use Rattle.spec_history.specs.declared.entry.Entry.{Entry}
use Rattle.rv32_image.specs.declared.version.Version.{Version}
use Rattle.trace_text.specs.declared.fault.TraceFault.{TraceFault}
use Rattle.trace_text.specs.declared.fault.TraceFaultKind.{TraceFaultKind}
use Rattle.trace_text.specs.declared.fault.TraceFaultKind.TheVariants.{Head, Line, TooLong, Read, NoMemory}
use Rattle.rv32_image.specs.ImageText.{pieces}
use Rattle.rv32_image.specs.Parts.{lines_above, lines_below}
use Rattle.trace_text.specs.TraceText.{Trace, cores_in, joined, line_read, lines_read, longest_trace_text, trace_at, trace_prefix, trace_text}
use Rattle.trace_text.specs.Reading.{IsFaultOf}

-- ---- the lines of entries

joined-assoc : (old new : List Entry) (r q : Result (List Entry) TraceFault) → joined (Ok old) r ≡ Ok new
    → joined (Ok old) (joined r q) ≡ joined (Ok new) q
joined-assoc old new (Ok xs) (Ok ys) is = let same : old ++ xs ≡ new = cc in sym (ap Ok (append_assoc old xs ys)) ∙ ap (λ l. Ok (l ++ ys)) same
joined-assoc old new (Ok xs) (Err fault) is = refl
joined-assoc old new (Err fault) q is = absurd cc

joined-err : (old : List Entry) (fault : TraceFault) (r q : Result (List Entry) TraceFault) → joined (Ok old) r ≡ Err fault
    → joined (Ok old) (joined r q) ≡ Err fault
joined-err old fault (Ok xs) q is = absurd cc
joined-err old fault (Err f) q is = is

-- no entries before
pub onto_none : (r : Result (List Entry) TraceFault) → joined (Ok []) r ≡ r
onto_none (Ok entries) = refl
onto_none (Err fault) = refl

pub lines_read-none : (old : List Entry) (n : ℕ) → joined (Ok old) (lines_read n []) ≡ Ok (old ++ [])
unfolding lines_read
lines_read-none old n = refl

-- a line that was read leads on to the lines after it
pub lines_read-ok : (old new : List Entry) (n : ℕ) (line : List ℕ) (lines : List (List ℕ)) → joined (Ok old) (line_read n line) ≡ Ok new
    → joined (Ok old) (lines_read n (line ∷ lines)) ≡ joined (Ok new) (lines_read (n + 1) lines)
unfolding lines_read
lines_read-ok old new n line lines is = joined-assoc old new (line_read n line) (lines_read (n + 1) lines) is

lines_read-err : (old : List Entry) (fault : TraceFault) (n : ℕ) (line : List ℕ) (lines : List (List ℕ)) → joined (Ok old) (line_read n line) ≡ Err fault
    → joined (Ok old) (lines_read n (line ∷ lines)) ≡ Err fault
unfolding lines_read
lines_read-err old fault n line lines is = joined-err old fault (line_read n line) (lines_read (n + 1) lines) is

pub same_fault : {A B : Type 0} (kind : TraceFaultKind) (fault : TraceFault) (one : Result A TraceFault) (other : Result B TraceFault)
    → (one ≡ Err fault → other ≡ Err fault) → IsFaultOf kind fault one → IsFaultOf kind fault other
same_fault NoMemory fault one other f is = is
same_fault Head fault one other f is = f is
same_fault Line fault one other f is = f is
same_fault TooLong fault one other f is = f is
same_fault Read fault one other f is = is

-- the fault of a line is the fault of the text, where the lines before it were read
pub fault_of_line : (kind : TraceFaultKind) (fault : TraceFault) (old : List Entry) (n : ℕ) (line : List ℕ) (lines : List (List ℕ)) (whole : Result (List Entry) TraceFault)
    → joined (Ok old) (lines_read n (line ∷ lines)) ≡ whole → IsFaultOf kind fault (joined (Ok old) (line_read n line)) → IsFaultOf kind fault whole
fault_of_line kind fault old n line lines whole same is =
    same_fault kind fault (joined (Ok old) (line_read n line)) whole (λ e. sym same ∙ lines_read-err old fault n line lines e) is

-- ---- the whole trace

-- a text that is not too long, with these lines below its image
pub trace_text-is : (version : Version) (text : List ℕ) (n : ℕ) (lines : List (List ℕ)) → length text ≤ longest_trace_text
    → n ≡ lines_above trace_prefix (pieces 10 text) + 1 → lines ≡ lines_below trace_prefix (pieces 10 text) → trace_text version text ≡ trace_at version n lines
unfolding trace_text
trace_text-is version text n lines short first below =
    let fits : nat_lt longest_trace_text (length text) ≡ false = grind (arith, nat_tests) in rw (fits, first, below) refl

pub trace_at-none : (version : Version) (n : ℕ) → trace_at version n [] ≡ Err (record { line = 0; kind = Head })
unfolding trace_at
trace_at-none version n = refl

pub trace_at-head : (version : Version) (n : ℕ) (head : List ℕ) (lines : List (List ℕ)) → cores_in version (pieces 32 head) ≡ None
    → trace_at version n (head ∷ lines) ≡ Err (record { line = n; kind = Head })
unfolding trace_at
trace_at-head version n head lines none = rw none refl

pub trace_at-ok : (version : Version) (n : ℕ) (head : List ℕ) (lines : List (List ℕ)) (cores : ℕ) (entries : List Entry)
    → cores_in version (pieces 32 head) ≡ Some cores → lines_read (n + 1) lines ≡ Ok entries
    → trace_at version n (head ∷ lines) ≡ Ok (record { cores = cores; entries = entries })
unfolding trace_at
trace_at-ok version n head lines cores entries some is = rw (some, is) refl

trace_at-err : (version : Version) (n : ℕ) (head : List ℕ) (lines : List (List ℕ)) (cores : ℕ) (fault : TraceFault)
    → cores_in version (pieces 32 head) ≡ Some cores → lines_read (n + 1) lines ≡ Err fault → trace_at version n (head ∷ lines) ≡ Err fault
unfolding trace_at
trace_at-err version n head lines cores fault some is = rw (some, is) refl

-- the fault of the entries is the fault of the trace
pub fault_of_entries : (kind : TraceFaultKind) (fault : TraceFault) (version : Version) (n : ℕ) (head : List ℕ) (lines : List (List ℕ)) (cores : ℕ) (whole : Result Trace TraceFault)
    → whole ≡ trace_at version n (head ∷ lines) → cores_in version (pieces 32 head) ≡ Some cores → IsFaultOf kind fault (lines_read (n + 1) lines) → IsFaultOf kind fault whole
fault_of_entries kind fault version n head lines cores whole same some is =
    same_fault kind fault (lines_read (n + 1) lines) whole (λ e. same ∙ trace_at-err version n head lines cores fault some e) is
