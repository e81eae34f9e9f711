use Rattle.std.proofs.Common.{◌*◌}
use Rattle.violations.specs.Plain.{store_view}
use Rattle.turn_steps.specs.Rows.{own_byte}
use Rattle.turn_steps.proofs.Reading.{Fills}
use Rattle.turn_steps.proofs.kept_row.own_bytes.Given as goal

-- the bytes so far
abbrev pub invariant-loop-i : goal.invariant-loop-i
invariant-loop-i l = Fills (own_byte (store_view l.store) l.core) (16 * l.row) l.i l.bytes
