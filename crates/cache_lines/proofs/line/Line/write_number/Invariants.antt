use Rattle.std.proofs.Common.{◌≡◌}
use Rattle.cache_lines.specs.Cells.{cell_of, with_number}
use Rattle.cache_lines.proofs.Bytes.{AreCells}
use Rattle.cache_lines.proofs.line.Line.write_number.Given as goal

abbrev pub invariant-loop-i : goal.invariant-loop-i
invariant-loop-i l = record {
  same : l.self ≡ record l.initial.self { cells = l.self.cells };
  cells : AreCells l.self.cells (with_number (cell_of l.initial.self) l.offset l.i l.value);
}
