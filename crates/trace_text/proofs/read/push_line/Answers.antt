use Rattle.trace_text.proofs.FirstWords.{after_line}
use Rattle.trace_text.proofs.read.push_line.Goals as goal

pub returns-then-is_remark_at-clause-below : goal.returns-then-is_remark_at-clause-below
returns-then-is_remark_at-clause-below c = after_line c.args.text.now _ _ c.cut.ensures
