use Rattle.std.proofs.Common.{◌≡◌, ◌++◌, map}
use Rattle.std.specs.List.{flat_map}
use Rattle.std.specs.Map.Iter.{deref_pair}
use Rattle.std.specs.BTreeMap.{get}
use Rattle.std.specs.Ordering.{nat_cmp}
use Rattle.conflict_findings.specs.Keys.{sum_or}
use Rattle.conflict_text.specs.Report.{pc_text}
use Rattle.conflict_text.proofs.parts.push_instructions.Given as goal

-- those so far are told
abbrev pub invariant-loop-pc : goal.invariant-loop-pc
invariant-loop-pc l = l.text.items ≡ l.initial.text.items ++ flat_map (λ e. pc_text e.0 (sum_or (get nat_cmp l.loads e.0)) (sum_or (get nat_cmp l.stores e.0))) (map deref_pair l.yielded)
