use Rattle.std.proofs.Common.{arith}
use Rattle.trace_text.proofs.FirstWords.{next_is, none_after, other_after}
use Rattle.trace_text.proofs.front.next_word.Goals as goal

pub returns-then-is_empty : goal.returns-then-is_empty
returns-then-is_empty c = none_after c.args.left.now (grind (arith, c.is_empty.ensures, c.if-is_empty.true))

pub returns-then-left-eq32 : goal.returns-then-left-eq32
returns-then-left-eq32 c = next_is c.args.left.now (grind (arith, c.is_empty.ensures, c.if-is_empty.false)) c.if-left-eq32.true

pub returns-else-left-eq32 : goal.returns-else-left-eq32
returns-else-left-eq32 c = other_after c.args.left.now c.if-left-eq32.false
