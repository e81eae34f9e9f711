use Rattle.std.proofs.Common.{◌≡◌, ◌++◌, take}
use Rattle.conflict_text.specs.Lines.{also_lines}
use Rattle.conflict_text.proofs.further.push_further.Given as goal

-- those so far are told
abbrev pub invariant-loop-run : goal.invariant-loop-run
invariant-loop-run l = l.text.items ≡ l.initial.text.items ++ also_lines l.place (take l.run-index l.runs)
