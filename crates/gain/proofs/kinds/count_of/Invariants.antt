use Rattle.std.proofs.Common.{◌≡◌, ◌≤◌, count_by, take}
use Rattle.conflicts.specs.declared.explanation.Explanation.{Explanation}
use Rattle.gain.specs.Kinds.{is_kind}
use Rattle.gain.proofs.kinds.count_of.Given as goal

-- those so far
abbrev pub invariant-loop-explanation : goal.invariant-loop-explanation
invariant-loop-explanation l = record {
  few : l.count ≤ l.explanation-index;
  are : l.count ≡ count_by (λ (e : Explanation). is_kind l.kind e.kind) (take l.explanation-index l.explanations);
}
