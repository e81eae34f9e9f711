use Rattle.std.proofs.Common.{slice_index}
use Rattle.turn_steps.proofs.Reading.{Fills}
use Rattle.turn_steps.proofs.committed_row.row_in.Given as goal

-- the bytes so far
abbrev pub invariant-loop-i : goal.invariant-loop-i
invariant-loop-i l = Fills (λ a. slice_index l.bytes a) l.addr l.i l.row
