use Rattle.std.proofs.Common.{arith}
use Rattle.spec_states.proofs.MaskLaws.{span-in_word, width-bounds}
use Rattle.spec_states.proofs.line.span.Goals as goal

pub overflow_shl-result-2 : goal.overflow_shl-result-2
overflow_shl-result-2 c = omega (arith, width-bounds c.args.width c.requires.width)

pub returns : goal.returns
returns c = span-in_word c.args.offset c.args.width (width-bounds c.args.width c.requires.width).1 c.requires.in_line
