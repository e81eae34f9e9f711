use Rattle.std.proofs.Common.{◌≡◌, map, take}
use Rattle.conflict_findings.specs.Findings.{further_run}
use Rattle.conflict_findings.proofs.finding.with_instructions.Given as goal

-- those so far
abbrev pub invariant-loop-run : goal.invariant-loop-run
invariant-loop-run l = l.further.items ≡ map (further_run l.sites) (take l.run-index l.runs)
