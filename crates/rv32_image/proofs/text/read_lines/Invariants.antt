use Rattle.std.proofs.Common.{◌≡◌, ◌+◌, ◌≤◌, length}
use Rattle.rv32_image.specs.ImageText.{lines_read, blank, pieces}
use Rattle.rv32_image.specs.Cutting.{pieces_after}
use Rattle.rv32_image.proofs.text.read_lines.Given as goal

-- the lines that are left, over the draft so far, say what the whole text says
abbrev pub invariant-loop-number : goal.invariant-loop-number
invariant-loop-number l = record {
  same : lines_read l.lines.number l.draft (pieces_after 10 l.lines.rest) ≡ lines_read 1 blank (pieces 10 l.fn.text);
  few : l.lines.number + length (pieces_after 10 l.lines.rest) ≤ 1048578;
}

abbrev pub decreases-loop-number : goal.decreases-loop-number
decreases-loop-number l = length (pieces_after 10 l.lines.rest)
