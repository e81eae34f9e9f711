use Rattle.std.proofs.Common.{◌≡◌, ◌++◌, take}
use Rattle.std.specs.List.{flat_map}
use Rattle.conflict_text.specs.Ends.{open_line}
use Rattle.conflict_text.proofs.ends.push_all_open.Given as goal

-- those so far are told
abbrev pub invariant-loop-attempt : goal.invariant-loop-attempt
invariant-loop-attempt l = l.text.items ≡ l.initial.text.items ++ flat_map open_line (take l.attempt-index l.running)
