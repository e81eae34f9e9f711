use Rattle.std.proofs.Common.{◌≡◌, ◌++◌, take}
use Rattle.turn_steps.specs.Stepped.{entries_text}
use Rattle.turn_steps.proofs.turns.push_entries.Given as goal

-- the entries so far
abbrev pub invariant-loop-entry : goal.invariant-loop-entry
invariant-loop-entry l = l.text.items ≡ l.initial.text.items ++ entries_text (take l.entry-index l.entries)
