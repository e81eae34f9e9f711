use Rattle.std.proofs.Common.{◌<◌, ◌∙◌, sym, arith, length-drop}
use Rattle.trace_text.proofs.HexFold.{all_read, bounded, next_place, no_digit, one_digit, other_length}
use Rattle.trace_text.proofs.entry.digits.Goals as goal

pub returns-then-word-ne8 : goal.returns-then-word-ne8
returns-then-word-ne8 c = sym (other_length c.args.word.now c.if-word-ne8.true)

pub overflow_mul-n : goal.overflow_mul-n
overflow_mul-n c =
    let inv = c.loop-digit.invariant in
    let within : c.loop-digit.digit-index < 8 = omega (arith, inv.long, c.loop-digit-test.true) in
    omega (arith, bounded c.loop-digit.digit-index c.loop-digit.n within inv.below)

pub returns-in_err-n : goal.returns-in_err-n
returns-in_err-n c =
    let inv = c.loop-digit.invariant in
    c.from_residual.ensures ∙ sym (no_digit c.args.word.now c.loop-digit.digit-index c.loop-digit.n inv.long c.loop-digit-test.true (sym c.in_err-n.ensures.value) inv.value)

pub loop-digit-preserved : goal.loop-digit-preserved
loop-digit-preserved c =
    let inv = c.loop-digit.invariant in
    let within : c.loop-digit.digit-index < 8 = omega (arith, inv.long, c.loop-digit-test.true) in
    record {
      value = one_digit c.args.word.now c.loop-digit.digit-index c.loop-digit.n c.in_ok-n.field-0 c.loop-digit-test.true (sym c.in_ok-n.ensures.value) inv.value;
      below = next_place c.loop-digit.digit-index c.loop-digit.n c.in_ok-n.field-0 within inv.below c.in_ok-n.ensures.small;
      long = inv.long;
    }

pub returns : goal.returns
returns c =
    let inv = c.loop-digit.invariant in
    sym (all_read c.args.word.now c.loop-digit.digit-index c.loop-digit.n inv.long (omega (arith, length-drop c.loop-digit.digit-index c.args.word.now, c.loop-digit-test.false)) inv.value)
