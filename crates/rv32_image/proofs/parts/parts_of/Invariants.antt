use Rattle.std.proofs.Common.{◌≡◌, ◌+◌, ◌≤◌, length}
use Rattle.rv32_image.specs.ImageText.{pieces}
use Rattle.rv32_image.specs.Cutting.{pieces_after}
use Rattle.rv32_image.specs.Parts.{bytes_of, lines_above, lines_below}
use Rattle.rv32_image.proofs.LinesAbove.{bytes_above}
use Rattle.rv32_image.proofs.parts.parts_of.Given as goal

-- the lines so far stand above
abbrev pub invariant-loop-below : goal.invariant-loop-below
invariant-loop-below l = record {
  above : l.lines.number + lines_above l.fn.prefix (pieces_after 10 l.lines.rest) ≡ lines_above l.fn.prefix (pieces 10 l.fn.text) + 1;
  below : lines_below l.fn.prefix (pieces_after 10 l.lines.rest) ≡ lines_below l.fn.prefix (pieces 10 l.fn.text);
  image : l.start + bytes_above l.fn.prefix (pieces_after 10 l.lines.rest) ≡ bytes_above l.fn.prefix (pieces 10 l.fn.text);
  bytes : l.start + bytes_of (pieces_after 10 l.lines.rest) ≡ length l.fn.text + 1;
  few : l.lines.number + length (pieces_after 10 l.lines.rest) ≤ length l.fn.text + 2;
}

abbrev pub decreases-loop-below : goal.decreases-loop-below
decreases-loop-below l = length (pieces_after 10 l.lines.rest)
