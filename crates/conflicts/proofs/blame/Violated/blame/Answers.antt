use Rattle.std.proofs.Common.{sym, ◌∙◌}
use Rattle.conflicts.specs.Violated.{violation_in}
use Rattle.conflicts.proofs.Blaming.{no_blame}
use Rattle.conflicts.proofs.blame.Violated.blame.Goals as goal

pub returns-in_err-start : goal.returns-in_err-start
returns-in_err-start c = c.from_residual.ensures ∙ sym (no_blame c.args.scene.now.flat.now.image c.args.scene.now.entries.now (violation_in c.args.scene.now.flat.now c.args.self.now) c.in_err-start.ensures)
