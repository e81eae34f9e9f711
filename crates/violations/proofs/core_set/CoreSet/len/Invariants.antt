use Rattle.std.proofs.Common.{◌≡◌, ◌≤◌}
use Rattle.violations.specs.CoreSet.{members_below}
use Rattle.violations.proofs.core_set.CoreSet.len.Given as goal

-- those so far are counted
abbrev pub invariant-loop-member : goal.invariant-loop-member
invariant-loop-member l = record {
  counted : l.count ≡ members_below l.self l.member-index;
  small : l.count ≤ l.member-index;
}
