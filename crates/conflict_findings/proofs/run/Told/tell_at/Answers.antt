use Rattle.std.proofs.Common.{sym, ◌∙◌}
use Rattle.conflicts.specs.Violated.{violation_in}
use Rattle.conflict_findings.proofs.Beginning.{none_within}
use Rattle.conflict_findings.proofs.OneRun.{unshared_within}
use Rattle.conflict_findings.proofs.run.Told.tell_at.Goals as goal

pub returns-clause-none : goal.returns-clause-none
returns-clause-none c j above below =
    let v = violation_in c.args.self.now.scene.flat.now c.args.self.now.violated in
    unshared_within c.args.self.now.scene.flat.now.image c.args.self.now.scene.entries.now c.args.self.now.blame v j
    (none_within c.args.self.now.scene.flat.now.image c.args.self.now.scene.entries.now v c.args.addr j c.run_at-run.result c.requires.kind (sym c.is_shared.ensures ∙ c.if-not-is_shared.false) above c.run_at-run.ensures
    (c.end_after.ensures.of_run j above below))
