use Rattle.std.proofs.Common.{◌≡◌, ◌++◌, take}
use Rattle.std.specs.List.{flat_map}
use Rattle.conflict_text.specs.Ends.{ended_line}
use Rattle.conflict_text.proofs.ends.push_all_ended.Given as goal

-- those so far are told
abbrev pub invariant-loop-e : goal.invariant-loop-e
invariant-loop-e l = l.text.items ≡ l.initial.text.items ++ flat_map ended_line (take l.e-index l.ended)
