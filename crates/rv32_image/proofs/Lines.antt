-- How the reading of lines goes on over one line.
use Rattle.std.proofs.Common.{◌≡◌, ℕ, ◌+◌, ◌≤◌, ◌==◌, List, [], ◌∷◌, length, Result, Ok, Err, refl, ap, sym, ◌∙◌, arith}
use Rattle.std.proofs.lemmas.List.Splits.{length-slice_split}
use Rattle.std.proofs.lemmas.List.Sums.{count_by-le-length}
use Rattle.rv32_image.specs.declared.fault.ImageFault.{ImageFault}
use Rattle.rv32_image.specs.declared.fault.ImageFaultKind.{ImageFaultKind}
use Rattle.rv32_image.specs.declared.fault.ImageFaultKind.TheVariants.{Line, MissingOrRepeated, Range, Place, Hex, TooLong, Read, NoMemory}
use Rattle.rv32_image.specs.ImageText.{Draft, line_read, lines_read, on_line, pieces}
use Rattle.rv32_image.specs.Reading.{IsFaultOf}

on_line-ok : (n : ℕ) (read : Result Draft ImageFaultKind) (d : Draft) (next : Draft → Result Draft ImageFault)
    → on_line n read Ok ≡ Ok d → on_line n read next ≡ next d
on_line-ok n (Ok x) d next is = let same : x ≡ d = cc in ap next same
on_line-ok n (Err kind) d next is = absurd cc

on_line-err : (n : ℕ) (read : Result Draft ImageFaultKind) (fault : ImageFault) (next : Draft → Result Draft ImageFault)
    → on_line n read Ok ≡ Err fault → on_line n read next ≡ Err fault
on_line-err n (Ok x) fault next is = absurd cc
on_line-err n (Err kind) fault next is = is

-- a line that was read leads on to the lines after it
pub lines_read-ok : (n : ℕ) (d d' : Draft) (line : List ℕ) (lines : List (List ℕ)) → on_line n (line_read d line) Ok ≡ Ok d'
    → lines_read n d (line ∷ lines) ≡ lines_read (n + 1) d' lines
unfolding lines_read
lines_read-ok n d d' line lines is = on_line-ok n (line_read d line) d' (λ next. lines_read (n + 1) next lines) is

lines_read-err : (n : ℕ) (d : Draft) (fault : ImageFault) (line : List ℕ) (lines : List (List ℕ)) → on_line n (line_read d line) Ok ≡ Err fault
    → lines_read n d (line ∷ lines) ≡ Err fault
unfolding lines_read
lines_read-err n d fault line lines is = on_line-err n (line_read d line) fault (λ next. lines_read (n + 1) next lines) is

pub lines_read-none : (n : ℕ) (d : Draft) → lines_read n d [] ≡ Ok d
unfolding lines_read
lines_read-none n d = refl

same_fault : (kind : ImageFaultKind) (fault : ImageFault) (one other : Result Draft ImageFault)
    → (one ≡ Err fault → other ≡ Err fault) → IsFaultOf kind fault one → IsFaultOf kind fault other
same_fault NoMemory fault one other f is = is
same_fault Line fault one other f is = f is
same_fault MissingOrRepeated fault one other f is = f is
same_fault Range fault one other f is = f is
same_fault Place fault one other f is = f is
same_fault Hex fault one other f is = f is
same_fault TooLong fault one other f is = f is
same_fault Read fault one other f is = is

-- the fault of a line is the fault of the text, where the lines before it were read
pub fault_of_line : (kind : ImageFaultKind) (fault : ImageFault) (n : ℕ) (d : Draft) (line : List ℕ) (lines : List (List ℕ)) (whole : Result Draft ImageFault)
    → lines_read n d (line ∷ lines) ≡ whole → IsFaultOf kind fault (on_line n (line_read d line) Ok) → IsFaultOf kind fault whole
fault_of_line kind fault n d line lines whole same is =
    same_fault kind fault (on_line n (line_read d line) Ok) whole (λ e. sym same ∙ lines_read-err n d fault line lines e) is

-- a text has at most one line more than bytes

pub few_lines : (text : List ℕ) → length (pieces 10 text) ≤ length text + 1
few_lines text = omega (arith, length-slice_split (λ b. b == 10) text, count_by-le-length (λ b. b == 10) text)
