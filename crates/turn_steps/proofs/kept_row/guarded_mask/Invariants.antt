use Rattle.std.proofs.Common.{◌*◌}
use Rattle.violations.specs.Plain.{store_view}
use Rattle.turn_steps.proofs.Reading.{Masks}
use Rattle.turn_steps.proofs.kept_row.guarded_mask.Given as goal

-- the bits so far
abbrev pub invariant-loop-i : goal.invariant-loop-i
invariant-loop-i l = Masks ((store_view l.store).guarded l.core) (16 * l.row) l.i l.mask
