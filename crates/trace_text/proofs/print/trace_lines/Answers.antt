use Rattle.std.proofs.Common.{arith}
use Rattle.std.proofs.lemmas.Grind.{common_steps}
use Rattle.trace_text.proofs.Numbers.{numbers_more}
use Rattle.trace_text.proofs.print.trace_lines.Goals as goal

pub loop-entry-preserved : goal.loop-entry-preserved
loop-entry-preserved c = record {
  text = grind (arith, common_steps);
  numbers = numbers_more c.args.entries.now c.loop-entry.entry-index _ c.loop-entry-test.true c.loop-entry.invariant.numbers c.in_ok-push_entry.ensures.numbers.0
      c.in_ok-push_entry.ensures.numbers.1;
}
