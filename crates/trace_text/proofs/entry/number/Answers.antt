use Rattle.std.proofs.Common.{◌≡◌, ◌^◌, get_or, nat_lt, true, false, sym, arith, length-drop}
use Rattle.std.proofs.lemmas.Bool.Decides.{nat_tests}
use Rattle.std.specs.Char.{is_ascii_digit}
use Rattle.trace_text.specs.Keywords.{is_spelled}
use Rattle.trace_text.proofs.Spelled.{ended, missed, not_spelled}
use Rattle.trace_text.proofs.entry.number.Goals as goal

pub returns-then-not-is_spelled : goal.returns-then-not-is_spelled
returns-then-not-is_spelled c =
    let other : is_spelled c.args.word.now ≡ false = grind (arith, c.is_spelled.ensures, c.if-not-is_spelled.true) in sym (not_spelled c.args.word.now other)

pub returns-then-not-is_ascii_digit : goal.returns-then-not-is_ascii_digit
returns-then-not-is_ascii_digit c =
    let i = c.loop-digit.digit-index in
    let other : is_ascii_digit (get_or c.args.word.now i 0) ≡ false = grind (arith, c.is_ascii_digit.ensures.value, c.if-not-is_ascii_digit.true) in
    sym (missed c.args.word.now i c.loop-digit-test.true other c.loop-digit.invariant.digits)

pub returns-then-number : goal.returns-then-number
returns-then-number c =
    let word = c.args.word.now in
    let i = c.loop-digit.digit-index in
    let spelled : is_spelled word ≡ true = grind (arith, c.is_spelled.ensures, c.if-not-is_spelled.false) in
    let small : nat_lt c.loop-digit.number (2 ^ 32) ≡ true = grind (arith, nat_tests, c.if-number.true) in
    sym (ended word i c.loop-digit.number true (omega (arith, length-drop i word, c.loop-digit-test.false)) spelled c.loop-digit.invariant.digits c.loop-digit.invariant.value small)

pub returns-else-number : goal.returns-else-number
returns-else-number c =
    let word = c.args.word.now in
    let i = c.loop-digit.digit-index in
    let spelled : is_spelled word ≡ true = grind (arith, c.is_spelled.ensures, c.if-not-is_spelled.false) in
    let small : nat_lt c.loop-digit.number (2 ^ 32) ≡ false = grind (arith, nat_tests, c.if-number.false) in
    sym (ended word i c.loop-digit.number false (omega (arith, length-drop i word, c.loop-digit-test.false)) spelled c.loop-digit.invariant.digits c.loop-digit.invariant.value small)
