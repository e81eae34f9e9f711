use Rattle.turn_steps.specs.Rows.{at_text}
use Rattle.turn_steps.proofs.Changes.{unchanged_line}
use Rattle.turn_steps.proofs.committed_row.push_at_change.Goals as goal

pub returns-then-is_same : goal.returns-then-is_same
returns-then-is_same c = unchanged_line (at_text c.args.row) c.args.text.now.items c.args.old.now c.args.now.now (c.is_same.ensures c.if-is_same.true)
