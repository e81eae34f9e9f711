use Rattle.std.proofs.Common.{sym, arith}
use Rattle.trace_text.proofs.FirstWords.{remark_feed, remark_none, remark_other}
use Rattle.trace_text.proofs.read.is_remark_at.Goals as goal

pub returns-then-is_empty : goal.returns-then-is_empty
returns-then-is_empty c = sym (remark_none c.args.text.now (grind (arith, c.is_empty.ensures, c.if-is_empty.true)))

pub returns-then-text-eq10 : goal.returns-then-text-eq10
returns-then-text-eq10 c = remark_feed c.args.text.now c.if-text-eq10.true

pub returns-else-text-eq10 : goal.returns-else-text-eq10
returns-else-text-eq10 c = remark_other c.args.text.now (grind (arith, c.is_empty.ensures, c.if-is_empty.false)) c.if-text-eq10.false
