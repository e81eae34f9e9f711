use Rattle.std.proofs.Common.{◌≡◌, ◌++◌, length, reverse}
use Rattle.std.specs.List.{flat_map}
use Rattle.conflict_text.specs.Report.{pair_line}
use Rattle.conflict_text.proofs.parts.push_pairs.Given as goal

-- with the lines of those that are left, all are told
abbrev pub invariant-loop-sum : goal.invariant-loop-sum
invariant-loop-sum l =
    l.text.items ++ flat_map pair_line (reverse l.sums.items) ≡ l.initial.text.items ++ flat_map pair_line (reverse l.initial.sums.items)

-- each turn tells one
abbrev pub decreases-loop-sum : goal.decreases-loop-sum
decreases-loop-sum l = length l.sums.items
