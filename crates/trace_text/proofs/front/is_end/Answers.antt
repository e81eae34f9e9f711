use Rattle.std.proofs.Common.{◌∙◌, arith}
use Rattle.trace_text.proofs.EightDigits.{end_none, end_some}
use Rattle.trace_text.proofs.front.is_end.Goals as goal

pub returns-then-is_empty : goal.returns-then-is_empty
returns-then-is_empty c = end_none c.args.left.now (grind (arith, c.is_empty.ensures, c.if-is_empty.true))

pub returns : goal.returns
returns c = c.ends_word.ensures ∙ end_some c.args.left.now (grind (arith, c.is_empty.ensures, c.if-is_empty.false))
