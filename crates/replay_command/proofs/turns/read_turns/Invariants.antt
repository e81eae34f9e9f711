use Rattle.std.proofs.Common.{◌≡◌, ◌+◌, ◌<◌, ◌^◌, length, Ok}
use Rattle.rv32_image.specs.Cutting.{pieces_after}
use Rattle.replay_command.specs.Turns.{joined, lines_read}
use Rattle.replay_command.proofs.turns.read_turns.Given as goal

-- the turns so far, and those of the lines that are left
abbrev pub invariant-loop-number : goal.invariant-loop-number
invariant-loop-number l = record {
  same : joined (Ok l.schedule.items) (lines_read l.cores l.lines.number (pieces_after 10 l.lines.rest)) ≡ lines_read l.cores l.fn.lines.number (pieces_after 10 l.fn.lines.rest);
  few : l.lines.number + length (pieces_after 10 l.lines.rest) < 2 ^ 32;
}

abbrev pub decreases-loop-number : goal.decreases-loop-number
decreases-loop-number l = length (pieces_after 10 l.lines.rest)
