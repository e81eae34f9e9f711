use Rattle.std.proofs.Common.{◌≡◌, ℕ, List, ap, ◌∙◌, arith}
use Rattle.cache_lines.specs.Cells.{cell_of, with_number}
use Rattle.cache_lines.proofs.Bytes.{cells_of-bytes}
use Rattle.cache_lines.proofs.line.Line.write_number.Goals as goal

pub returns-clause-line : goal.returns-clause-line
returns-clause-line c =
    let whole : c.loop-i.i ≡ c.args.width = omega arith in
    c.loop-i.invariant.same
    ∙ ap (λ (cells : List ℕ). record c.args.self.now { cells = cells })
    (cells_of-bytes c.loop-i.self.cells (with_number (cell_of c.args.self.now) c.args.offset c.loop-i.i c.args.value) _ c.loop-i.invariant.cells
    (λ x _. ap (λ (n : ℕ). with_number (cell_of c.args.self.now) c.args.offset n c.args.value x) whole))
