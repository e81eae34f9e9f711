use Rattle.std.proofs.Common.{◌*◌}
use Rattle.turn_steps.proofs.Reading.{Fills}
use Rattle.turn_steps.proofs.committed_row.committed_row.Given as goal

-- the bytes so far
abbrev pub invariant-loop-i : goal.invariant-loop-i
invariant-loop-i g l = Fills (g.S.EpochStore.view l.store).committed (16 * l.row) l.i l.bytes
