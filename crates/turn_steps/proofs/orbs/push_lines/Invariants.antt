use Rattle.std.proofs.Common.{◌≡◌, ◌++◌, take}
use Rattle.turn_steps.specs.Places.{lines_text}
use Rattle.turn_steps.proofs.orbs.push_lines.Given as goal

-- the lines so far
abbrev pub invariant-loop-addr : goal.invariant-loop-addr
invariant-loop-addr l = l.text.items ≡ l.initial.text.items ++ lines_text (take l.addr-index l.lines)
