use Rattle.std.proofs.Common.{◌≡◌, ◌<◌, ◌≤◌, ◌++◌, ℕ, slice_index}
use Rattle.spec_history.specs.Conflict.{line_count}
use Rattle.conflicts.specs.Violated.{violation_in}
use Rattle.conflict_findings.specs.Runs.{line_run, runs_below}
use Rattle.conflict_findings.proofs.run.Told.push_lines.Given as goal

-- those below are told
abbrev pub invariant-loop-line : goal.invariant-loop-line
invariant-loop-line l = record {
  within : l.from ≤ line_count l.self.scene.flat.now.image;
  told : l.runs.items ≡ l.initial.runs.items ++ runs_below l.from (line_run l.self.scene.flat.now.image l.self.scene.entries.now l.self.blame (violation_in l.self.scene.flat.now l.self.violated));
  passed : (k : ℕ) → k < l.line-index → slice_index l.lines k < l.from;
}
