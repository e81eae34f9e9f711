-- How the rows of the report go on.
use Rattle.std.proofs.Common.{◌≡◌, ℕ, suc, ◌+◌, ◌*◌, ◌++◌, List, refl, ap, sym, ◌∙◌, add-one, append_assoc}
use Rattle.std.proofs.lemmas.List.{append-nil}
use Rattle.trace_commands.specs.Report.{row_line, row_lines}

pub row_lines-none : (text loaded bytes : List ℕ) → text ≡ text ++ row_lines loaded bytes 0
unfolding row_lines
row_lines-none text loaded bytes = sym (append-nil text)

more : (loaded bytes : List ℕ) (row : ℕ) → row_lines loaded bytes (suc row) ≡ row_lines loaded bytes row ++ row_line loaded bytes (16 * row)
unfolding row_lines
more loaded bytes row = refl

pub row_lines-more : (text loaded bytes : List ℕ) (row : ℕ)
    → (text ++ row_lines loaded bytes row) ++ row_line loaded bytes (16 * row) ≡ text ++ row_lines loaded bytes (row + 1)
row_lines-more text loaded bytes row =
    append_assoc text (row_lines loaded bytes row) (row_line loaded bytes (16 * row))
    ∙ ap (λ l. text ++ l) (sym (more loaded bytes row) ∙ sym (ap (row_lines loaded bytes) (add-one row)))
