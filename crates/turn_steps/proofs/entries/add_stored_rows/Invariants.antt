use Rattle.std.proofs.Common.{take}
use Rattle.std.specs.List.{list_any}
use Rattle.turn_steps.specs.Laws.{Adds, stores_in}
use Rattle.turn_steps.proofs.entries.add_stored_rows.Given as goal

-- those of the entries so far
abbrev pub invariant-loop-entry : goal.invariant-loop-entry
invariant-loop-entry l = Adds l.initial.rows l.rows (λ row. list_any (stores_in row) (take l.entry-index l.entries))
