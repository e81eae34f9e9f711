use Rattle.std.proofs.Common.{◌≡◌, ◌++◌, take}
use Rattle.std.specs.List.{flat_map}
use Rattle.conflict_findings.specs.Kinds.{counts_at}
use Rattle.conflict_text.specs.Report.{line_text}
use Rattle.conflict_text.proofs.parts.push_lines.Given as goal

-- those so far are told
abbrev pub invariant-loop-line : goal.invariant-loop-line
invariant-loop-line l = l.text.items ≡ l.initial.text.items ++ flat_map (λ e. line_text l.image e (counts_at l.lines e.0)) (take l.line-index l.sums)
