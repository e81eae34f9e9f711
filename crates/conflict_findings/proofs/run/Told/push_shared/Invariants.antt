use Rattle.std.proofs.Common.{◌≡◌, ◌<◌, ◌≤◌, ◌++◌, ℕ, slice_index}
use Rattle.conflicts.specs.Violated.{violation_in}
use Rattle.conflict_findings.specs.Runs.{runs_below, shared_run}
use Rattle.conflict_findings.proofs.run.Told.push_shared.Given as goal

-- those below are told
abbrev pub invariant-loop-addr : goal.invariant-loop-addr
invariant-loop-addr l = record {
  within : l.from ≤ l.self.scene.flat.now.image.size;
  told : l.runs.items ≡ l.initial.runs.items ++ runs_below l.from (shared_run l.self.scene.flat.now.image l.self.scene.entries.now l.self.blame (violation_in l.self.scene.flat.now l.self.violated));
  passed : (k : ℕ) → k < l.addr-index → slice_index l.read k < l.from;
}
