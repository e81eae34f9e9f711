use Rattle.turn_steps.specs.KeptRow.{kept_row_text}
use Rattle.turn_steps.proofs.Changes.{unchanged_line}
use Rattle.turn_steps.proofs.kept_row.push_kept_change.Goals as goal

pub returns-then-is_same : goal.returns-then-is_same
returns-then-is_same c = unchanged_line (kept_row_text c.args.core c.args.row) c.args.text.now.items c.args.old.now c.args.now.now (c.is_same.ensures c.if-is_same.true)
