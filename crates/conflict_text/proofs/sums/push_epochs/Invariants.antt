use Rattle.std.proofs.Common.{◌≡◌, ◌++◌, map}
use Rattle.std.specs.List.{flat_map}
use Rattle.std.specs.Map.Iter.{deref_pair}
use Rattle.conflict_text.specs.Report.{epoch_line}
use Rattle.conflict_text.proofs.sums.push_epochs.Given as goal

-- those so far are told
abbrev pub invariant-loop-epoch : goal.invariant-loop-epoch
invariant-loop-epoch l = l.text.items ≡ l.initial.text.items ++ flat_map (epoch_line) (map deref_pair l.yielded)
