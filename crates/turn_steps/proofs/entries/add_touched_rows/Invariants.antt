use Rattle.std.proofs.Common.{take}
use Rattle.std.specs.List.{list_any}
use Rattle.turn_steps.specs.Laws.{Adds, touches}
use Rattle.turn_steps.proofs.entries.add_touched_rows.Given as goal

-- those of the entries so far
abbrev pub invariant-loop-entry : goal.invariant-loop-entry
invariant-loop-entry l = Adds l.initial.rows l.rows (λ row. list_any (touches row) (take l.entry-index l.entries))
